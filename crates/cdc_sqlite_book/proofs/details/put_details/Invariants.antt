use Rattle.std.proofs.Common.{◌≡◌, ◌≤◌, ◌+◌, ℕ, length, take}
use Rattle.indexmap.specs.IndexMap.{spare}
use Rattle.cdc_book_log.specs.Details.{details_in}
use Rattle.cdc_sqlite_book.specs.Tables.{renewed}
use Rattle.cdc_sqlite_book.proofs.details.put_details.Given as goal

-- what was shown of the first accounts is put, and there is room for the others
abbrev pub invariant-accounts : goal.invariant-accounts
invariant-accounts l =
    ((id : ℕ) → details_in l.known.entries id
    ≡ renewed (take l.place l.changed) l.shown.entries l.initial.known.entries id)
    × (length l.changed ≤ spare l.known + l.place)
