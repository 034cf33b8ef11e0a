use Rattle.std.proofs.Common.{◌≡◌, ◌≤◌, ◌+◌, length, take}
use Rattle.indexmap.specs.IndexMap.{spare}
use Rattle.cdc_subscriber.specs.Book.{entries_of}
use Rattle.cdc_book_log.specs.Replay.{put_all}
use Rattle.cdc_sqlite_book.proofs.accounts.put_accounts.Given as goal

-- the first accounts are put, and there is room for the others
abbrev pub invariant-accounts : goal.invariant-accounts
invariant-accounts l =
    (entries_of l.accounts.entries ≡ put_all (take l.place l.changed) (entries_of l.initial.accounts.entries))
    × (length l.changed ≤ spare l.accounts + l.place)
