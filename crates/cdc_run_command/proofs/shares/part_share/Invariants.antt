use Rattle.cdc_run_command.proofs.Words.{filter, not, own_of, ◌==◌, ◌≡◌}
use Rattle.cdc_run_command.proofs.shares.part_share.Given as goal

-- those so far
abbrev pub invariant-loop-number : goal.invariant-loop-number
invariant-loop-number l = record {
  own : l.own.items ≡ own_of l.client l.yielded;
  others : l.others.items ≡ filter (λ e. not (e.0 == l.client)) l.yielded;
}
