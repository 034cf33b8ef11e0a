use Rattle.std.proofs.Common.{◌≡◌, ◌+◌, ◌<◌, ◌≤◌, true, length}
use Rattle.std.specs.FinSet.{contains}
use Rattle.cdc_expiry.specs.declared.triple.Triple.{Triple}
use Rattle.cdc_data_tests.proofs.expiry.index_of.Given as goal

-- there is room for the rest, and the next place is later than all timestamps
abbrev pub invariant-loop-place : goal.invariant-loop-place
invariant-loop-place l = record {
  room : length l.ends ≤ l.index.room + l.place;
  later : (x : Triple) → contains l.index.triples x ≡ true → x.timestamp < l.place;
}
