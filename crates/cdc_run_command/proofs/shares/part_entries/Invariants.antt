use Rattle.cdc_run_command.proofs.Words.{map, own_of, shares_from, ℕ, ◌<◌, ◌≡◌}
use Rattle.cdc_run_command.proofs.shares.part_entries.Given as goal

abbrev pub invariant-loop-place : goal.invariant-loop-place
invariant-loop-place l = record {
  parted : map (λ s. s.items) l.scripts.items ≡ shares_from 1 l.place l.fn.entries.items;
  stays : (client : ℕ) → l.place < client → own_of client l.left.items ≡ own_of client l.fn.entries.items;
}
