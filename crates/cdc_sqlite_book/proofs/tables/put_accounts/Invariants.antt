use Rattle.std.proofs.Common.{◌≡◌, [], take}
use Rattle.sqlite.specs.State.{HasCleanDisk, KeepsCommit, Survives}
use Rattle.sqlite.specs.Held.{state}
use Rattle.cdc_book_log.specs.Details.{details_in}
use Rattle.cdc_sqlite_book.specs.Tables.{book_schema, rows_from}
use Rattle.cdc_sqlite_book.proofs.tables.put_accounts.Given as goal

abbrev pub invariant-accounts : goal.invariant-accounts
invariant-accounts g l =
    let old = state g.S.Store l.fn.tx.conn.now in
    let now = state g.S.Store l.tx.conn.now in
    (l.tx.conn.ghost_name ≡ l.initial.tx.conn.ghost_name) × Survives old now (λ _. ⊥)
    × (HasCleanDisk now → KeepsCommit old now)
    × (HasCleanDisk now → old.now.schema ≡ book_schema → old.now.trees 1 ≡ []
    → (now.now.schema ≡ book_schema) × (now.now.trees 0 ≡ old.now.trees 0)
    × (now.now.trees 1 ≡ rows_from (details_in l.details.entries) 1 (take l.place l.book)))
