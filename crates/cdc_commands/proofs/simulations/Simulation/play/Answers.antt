use Rattle.cdc_commands.proofs.Terms.{arith, refl, slice_get_read, sym, ◌∙◌}
use Rattle.cdc_commands.proofs.SimulationLemmas.{stopped, went_on}
use Rattle.cdc_commands.proofs.simulations.Simulation.play.Goals as goal

pub returns-then-is_some-clause-plays : goal.returns-then-is_some-clause-plays
returns-then-is_some-clause-plays g c = λ stage at zero.
    let come = c.loop-done.invariant.come stage at zero in
    stopped (g.O.Observer.has_seen c.args.observer.now stage.seen) (g.O.Observer.has_seen c.loop-done.observer)
    (g.O.Observer.has_seen c.play_act.new.observer) c.args.batches.items c.args.acts.now stage c.loop-done.done _ _ _ _
    (slice_get_read c.args.acts.now _ c.loop-done.done _ refl c.loop-done-test.true c.index-acts-done.is)
    (sym c.is_some.ensures ∙ c.if-is_some.true) come
    (c.in_ok-refusal.ensures.acts _ c.loop-done.invariant.left come.here come.at)

pub loop-done-preserved : goal.loop-done-preserved
loop-done-preserved g c = record {
  left = c.in_ok-refusal.ensures.left _ c.loop-done.invariant.left (sym c.is_some.ensures ∙ c.if-is_some.false);
  few = omega (arith, c.in_ok-refusal.ensures.count, c.loop-done.invariant.few);
  come = λ stage at zero.
      let come = c.loop-done.invariant.come stage at zero in
      went_on (g.O.Observer.has_seen c.args.observer.now stage.seen) (g.O.Observer.has_seen c.loop-done.observer)
      (g.O.Observer.has_seen c.play_act.new.observer) c.args.batches.items c.args.acts.now stage
      c.loop-done.done _ _ _ _
      (slice_get_read c.args.acts.now _ c.loop-done.done _ refl c.loop-done-test.true c.index-acts-done.is)
      (sym c.is_some.ensures ∙ c.if-is_some.false) come
      (c.in_ok-refusal.ensures.acts _ c.loop-done.invariant.left come.here come.at);
}
