use Rattle.std.proofs.Common.{length, true, ◌+◌, ◌≡◌}
use Rattle.cdc_progress.specs.Stores.{no_risks}
use Rattle.cdc_world.specs.Stands.{Stands}
use Rattle.cdc_world.specs.Worlds.{WorldState}
use Rattle.cdc_enabled_steps.proofs.TrialLemmas.{HasTried}
use Rattle.cdc_enabled_steps.proofs.enabled.try_steps.Given as goal

abbrev pub invariant-loop-act : goal.invariant-loop-act
invariant-loop-act l = record {
  honest : l.world.honest ≡ true;
  risks : l.world.risks ≡ no_risks;
  tried : (w : WorldState) → Stands l.fn.world w
      → HasTried l.fn.world l.world l.submissions l.submitted l.yielded l.enabled.steps.acts.items w;
  count : length l.enabled.steps.acts.items + l.enabled.refused ≡ length l.yielded;
}
