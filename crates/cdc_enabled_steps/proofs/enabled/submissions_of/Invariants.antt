use Rattle.std.proofs.Common.{map, ◌≡◌}
use Rattle.cdc_enabled_steps.specs.Enabled.{submission}
use Rattle.cdc_enabled_steps.proofs.enabled.submissions_of.Given as goal

abbrev pub invariant-loop-batch : goal.invariant-loop-batch
invariant-loop-batch l = l.steps.items ≡ map submission l.yielded
