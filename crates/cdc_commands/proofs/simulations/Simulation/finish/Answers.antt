use Rattle.cdc_commands.proofs.Terms.{IsAt, Parts, Stands, refl, subst, sym}
use Rattle.cdc_commands.proofs.SimulationLemmas.{stands_counted}
use Rattle.cdc_commands.proofs.simulations.Simulation.finish.Goals as goal

pub returns-clause-stage : goal.returns-clause-stage
returns-clause-stage c = λ stage at done.
    let here = subst (λ x. IsAt x stage) (sym c.self.view_is) at in (
      refl,
      record {
        answers = here.answers;
        done = done;
        held = c.in_ok-held.ensures.held c.self.invariant.0 stage.world here.world;
        world = subst (λ (p : Parts). Stands p stage.world) (sym (c.in_ok-held.ensures.kept c.self.invariant.0))
            (stands_counted c.self.inside.world stage.world c.progress.new.self.failed here.world);
      },
    )
