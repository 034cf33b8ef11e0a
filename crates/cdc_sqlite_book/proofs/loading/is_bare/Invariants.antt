use Rattle.std.proofs.Common.{◌≡◌, ◌≤◌, ◌<◌, ℕ}
use Rattle.sqlite.specs.declared.types.Value.TheVariants.{Null}
use Rattle.sqlite.specs.Order.{column}
use Rattle.cdc_sqlite_book.proofs.loading.is_bare.Given as goal

-- the details so far are nulls
abbrev pub invariant-loop-at : goal.invariant-loop-at
invariant-loop-at l = (at : ℕ) → 5 ≤ at → at < l.at → column l.row at ≡ Null
