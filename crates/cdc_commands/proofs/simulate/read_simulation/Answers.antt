use Rattle.cdc_commands.proofs.Terms.{IfErr-weaker, IfOk-weaker, IsSimulationFault, MayFailScript, Output, SawPlan, Some, [], acts_of, option_map}
use Rattle.cdc_commands.proofs.OutputLemmas.{made_of_bad_script, made_of_script, made_of_steps, may_fail}
use Rattle.cdc_commands.proofs.simulate.read_simulation.Goals as goal

pub returns-in-Ok-clause-output : goal.returns-in-Ok-clause-output
returns-in-Ok-clause-output g c =
    let steps = g.Q.Read.remaining c.args.steps.now in
    let prints = g.C.SimulationContent.prints_plan c.args.content.now in
    let finds = g.C.Content.finds c.args.content.now in
    made_of_script prints finds g.F.Form.prints_fault (λ (o : Output). o.text.items)
    c.args.window c.deref.result.now c.in_ok-script.script.items
    (g.R.Read.remaining c.args.script.now) (option_map acts_of steps) steps c.simulation_of.result c.deref.ensures.value
    c.in_ok-script.ensures.script
    (made_of_steps prints finds g.F.Form.prints_fault (λ (o : Output). o.text.items)
    c.args.window (Some c.deref.result.now) c.deref-in-Ok.result.now c.in-Ok.steps.items steps
    c.simulation_of.result c.deref-in-Ok.ensures.value c.in-Ok.ensures.steps c.simulation_of.ensures.output)

pub returns-clause-output : goal.returns-clause-output
returns-clause-output g c =
    let file = g.Q.Read.remaining c.args.steps.now in
    let steps = option_map acts_of file in
    let prints = g.C.SimulationContent.prints_plan c.args.content.now in
    let finds = g.C.Content.finds c.args.content.now in
    made_of_script prints finds g.F.Form.prints_fault (λ (o : Output). o.text.items)
    c.args.window c.deref-in-Err.result.now c.in_ok-script.script.items
    (g.R.Read.remaining c.args.script.now) steps file c.unread_steps.result c.deref-in-Err.ensures.value
    c.in_ok-script.ensures.script
    (made_of_bad_script prints finds g.F.Form.prints_fault (λ (o : Output). o.text.items)
    c.args.window c.deref-in-Err.result.now steps file c.unread_steps.result c.unread_steps.ensures.output)

pub returns-in-Ok-clause-fault : goal.returns-in-Ok-clause-fault
returns-in-Ok-clause-fault g c =
    IfErr-weaker c.simulation_of.result IsSimulationFault MayFailScript may_fail c.simulation_of.ensures.fault

pub returns-in-Ok-clause-seen : goal.returns-in-Ok-clause-seen
returns-in-Ok-clause-seen g c =
    let steps = g.Q.Read.remaining c.args.steps.now in
    let finds = g.C.Content.finds c.args.content.now in
    made_of_script (λ plan refusal printed. SawPlan (g.O.Observer.has_seen c.simulation_of.new.observer) plan refusal)
    finds (λ word ending printed. Unit {0}) (λ (o : Output). [])
    c.args.window c.deref.result.now c.in_ok-script.script.items
    (g.R.Read.remaining c.args.script.now) (option_map acts_of steps) steps c.simulation_of.result c.deref.ensures.value
    c.in_ok-script.ensures.script
    (made_of_steps (λ plan refusal printed. SawPlan (g.O.Observer.has_seen c.simulation_of.new.observer) plan refusal)
    finds (λ word ending printed. Unit {0}) (λ (o : Output). [])
    c.args.window (Some c.deref.result.now) c.deref-in-Ok.result.now c.in-Ok.steps.items steps
    c.simulation_of.result c.deref-in-Ok.ensures.value c.in-Ok.ensures.steps c.simulation_of.ensures.seen)

pub returns-clause-seen : goal.returns-clause-seen
returns-clause-seen g c =
    let file = g.Q.Read.remaining c.args.steps.now in
    let steps = option_map acts_of file in
    let finds = g.C.Content.finds c.args.content.now in
    made_of_script (λ plan refusal printed. SawPlan (g.O.Observer.has_seen c.args.observer.now) plan refusal)
    finds (λ word ending printed. Unit {0}) (λ (o : Output). [])
    c.args.window c.deref-in-Err.result.now c.in_ok-script.script.items
    (g.R.Read.remaining c.args.script.now) steps file c.unread_steps.result c.deref-in-Err.ensures.value
    c.in_ok-script.ensures.script
    (made_of_bad_script (λ plan refusal printed. SawPlan (g.O.Observer.has_seen c.args.observer.now) plan refusal)
    finds (λ word ending printed. Unit {0}) (λ (o : Output). [])
    c.args.window c.deref-in-Err.result.now steps file c.unread_steps.result
    (IfOk-weaker c.unread_steps.result _ _ (λ o bad. (bad.0, (bad.1.0, (bad.1.1.0, tt))))
    c.unread_steps.ensures.output))
