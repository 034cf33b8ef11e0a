use Rattle.cdc_world.proofs.Words.{HaveTriesCounted, ◌≤◌}
use Rattle.cdc_world.proofs.TriedSteps.{HasFailed}
use Rattle.cdc_world.proofs.world.World.step_past.Given as goal

abbrev pub invariant-loop : goal.invariant-loop
invariant-loop g l = record {
  within : l.counter ≤ l.tries;
  failed : HasFailed l.fn.self l.self l.step l.counter;
  counts : HaveTriesCounted l.counter l.fn.self.failed l.self.failed;
}
