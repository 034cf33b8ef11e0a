use Rattle.std.proofs.Common.{◌≡◌, ℕ, List, length, take}
use Rattle.sqlite.specs.State.{HasCleanDisk, KeepsCommit, Survives}
use Rattle.sqlite.specs.Held.{state}
use Rattle.cdc_subscriber.specs.SubscriberState.{SubscriberState}
use Rattle.cdc_subscriber.specs.Book.{entries_of}
use Rattle.cdc_book_log.specs.Details.{details_in}
use Rattle.cdc_book_log.specs.Replay.{put_all}
use Rattle.cdc_sqlite_book.specs.Tables.{HoldsBook, renewed}
use Rattle.cdc_sqlite_book.proofs.tables.replace_accounts.Given as goal

abbrev pub invariant-accounts : goal.invariant-accounts
invariant-accounts g l =
    let old = state g.S.Store l.fn.tx.conn.now in
    let now = state g.S.Store l.tx.conn.now in
    (l.tx.conn.ghost_name ≡ l.initial.tx.conn.ghost_name) × Survives old now (λ _. ⊥)
    × (HasCleanDisk now → KeepsCommit old now)
    × (l.next ≡ length (put_all (take l.at l.changed) (entries_of l.accounts.entries)))
    × (HasCleanDisk now → (held : List ℕ) (kept : SubscriberState) → HoldsBook held kept (details_in l.details.entries) old.now
    → kept.book ≡ entries_of l.accounts.entries
    → HoldsBook held (record kept { book = put_all (take l.at l.changed) kept.book })
    (renewed (take l.at l.changed) l.shown.entries l.details.entries) now.now)
