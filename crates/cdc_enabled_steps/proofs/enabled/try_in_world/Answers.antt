use Rattle.std.proofs.Common.{Option, ap, subst}
use Rattle.cdc_progress.specs.Records.{Saved}
use Rattle.cdc_world.specs.Stands.{Stands}
use Rattle.cdc_world.specs.Worlds.{new_world}
use Rattle.cdc_enabled_steps.proofs.enabled.try_in_world.Goals as goal

pub returns-clause-acts : goal.returns-clause-acts
returns-clause-acts c = c.try_steps.ensures.acts _
    (subst (λ (held : Option Saved). Stands c.in_ok-world.world (new_world c.args.bindings.items c.args.window held))
    (ap (λ s. s.held) c.new.ensures) c.in_ok-world.ensures.stands)
