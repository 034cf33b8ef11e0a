use Rattle.cdc_commands.proofs.Terms.{IfOk-weaker, PlaysActs, at_start, length, refl, subst, sym, ◌≤◌}
use Rattle.cdc_world.specs.declared.world.Played.{Played}
use Rattle.cdc_commands.proofs.SimulationReached.{comes_seen, comes_to}
use Rattle.cdc_commands.proofs.simulations.play_script.Goals as goal

pub returns-clause-comes : goal.returns-clause-comes
returns-clause-comes g c =
    let played = c.in_ok-played.ensures.plays _ c.in_ok-simulation.ensures.stage refl in
    let batches = c.into_vec-2.result.items in
    let bindings = c.into_vec.result.items in
    IfOk-weaker c.finish.result _ _
    (λ simulated made. comes_to c.args.script c.args.window c.args.acts.now simulated batches bindings played.0
    c.into_vec-2.ensures c.into_vec.ensures
    (subst (λ (p : Played). PlaysActs batches (at_start bindings c.args.window) c.args.acts.now p.refusal played.0)
    (sym made.0) played.1.1.1.0) made.1) (c.finish.ensures.stage played.0 played.1.0 played.1.1.0)

pub returns-clause-count : goal.returns-clause-count
returns-clause-count g c =
    IfOk-weaker c.finish.result _ _
    (λ simulated same. subst (λ (p : Played). p.done ≤ length c.args.acts.now) (sym same) c.in_ok-played.ensures.count)
    c.finish.ensures.played

pub returns-clause-seen : goal.returns-clause-seen
returns-clause-seen g c = λ fresh.
    let played = c.in_ok-played.ensures.plays _ c.in_ok-simulation.ensures.stage refl in
    let batches = c.into_vec-2.result.items in
    let bindings = c.into_vec.result.items in
    IfOk-weaker c.finish.result _ _
    (λ simulated made. comes_seen (g.O.Observer.has_seen c.end.new.self) c.args.script c.args.window c.args.acts.now
    simulated batches bindings played.0 c.into_vec-2.ensures c.into_vec.ensures
    (subst (λ (p : Played). PlaysActs batches (at_start bindings c.args.window) c.args.acts.now p.refusal played.0)
    (sym made.0) played.1.1.1.0) made.1 (c.end.ensures played.0.seen (played.1.1.1.1 fresh)))
    (c.finish.ensures.stage played.0 played.1.0 played.1.1.0)
