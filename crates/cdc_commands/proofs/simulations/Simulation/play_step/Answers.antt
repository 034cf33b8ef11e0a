use Rattle.cdc_commands.proofs.Terms.{Err, IsAt, NextOver, Risks, refl, subst, sym}
use Rattle.cdc_commands.proofs.SimulationLemmas.{step_done, step_refused, whatever_answered}
use Rattle.cdc_commands.proofs.simulations.Simulation.play_step.Goals as goal

pub returns-in_ok-push_answer-in-Ok-clause-answers : goal.returns-in_ok-push_answer-in-Ok-clause-answers
returns-in_ok-push_answer-in-Ok-clause-answers g c = λ stage at.
    let here = subst (λ x. IsAt x stage) (sym c.self.view_is) at in
    let moved = c.in-Ok.ensures.next (λ _. c.self.invariant.0) stage.world here.world in
    step_done (g.O.Observer.has_seen c.args.observer.now) (g.O.Observer.has_seen c.see.new.self) _ _ stage
    c.args.step.now c.args.batches_done c.in-Ok.done.0 c.in-Ok.done.1 c.ledger.result.now here
    (record {
      after = moved.0;
      stands = moved.1.0;
      next = moved.1.1.0.0;
      moves = moved.1.1.1;
      history = c.ledger.ensures moved.0 moved.1.0;
    }) refl
    c.in_ok-push_answer-in-Ok.ensures c.see.ensures

pub returns-in-Err-clause-answers : goal.returns-in-Err-clause-answers
returns-in-Err-clause-answers g c = λ stage at.
    let here = subst (λ x. IsAt x stage) (sym c.self.view_is) at in
    let moved = c.in-Err.ensures.next (λ _. c.self.invariant.0) stage.world here.world in
    let over =
    subst (λ (r : Risks). NextOver r stage.world c.args.step.now (Err c.in-Err.refusal) moved.0) c.self.invariant.1
    moved.1.1.0 in
    step_refused (g.O.Observer.has_seen c.args.observer.now) (g.O.Observer.has_seen c.refuse.new.self) _ _ stage
    c.args.step.now c.args.batches_done c.in-Err.refusal here (moved.0, (moved.1.0, over))
    refl refl c.refuse.ensures

pub returns-in_err-push_answer-in-Ok-clause-aborts : goal.returns-in_err-push_answer-in-Ok-clause-aborts
returns-in_err-push_answer-in-Ok-clause-aborts g c = λ stage at.
    let here = subst (λ x. IsAt x stage) (sym c.self.view_is) at in
    let moved = c.in-Ok.ensures.next (λ _. c.self.invariant.0) stage.world here.world in
    whatever_answered c.from_residual.result (c.in-Ok.done.0, moved.0, (moved.1.0, moved.1.1.0.0))
