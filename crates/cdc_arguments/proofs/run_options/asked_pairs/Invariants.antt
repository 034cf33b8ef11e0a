use Rattle.std.proofs.Common.{◌≤◌}
use Rattle.std.specs.Prelude.{All}
use Rattle.cdc_arguments.proofs.run_options.asked_pairs.Given as goal

abbrev pub invariant-loop-word : goal.invariant-loop-word
invariant-loop-word l = All (λ p. (1 ≤ p.0) × (1 ≤ p.1)) l.pairs.items
