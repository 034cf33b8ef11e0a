use Rattle.cdc_commands.proofs.Terms.{Output, SawPlan, Some, []}
use Rattle.cdc_commands.proofs.OutputLemmas.{made_of_acts}
use Rattle.cdc_commands.proofs.simulate.script_simulation.Goals as goal

pub returns-clause-output : goal.returns-clause-output
returns-clause-output g c = λ bytes stated.
    made_of_acts (g.C.SimulationContent.prints_plan c.args.content.now) (g.C.Content.finds c.args.content.now)
    g.F.Form.prints_fault (λ (o : Output). o.text.items)
    c.args.window (Some bytes) c.args.steps.now c.in-Ok.stated.acts.items c.steps_simulation.result
    c.in-Ok.ensures.acts (c.steps_simulation.ensures.output bytes stated)

pub returns-clause-seen : goal.returns-clause-seen
returns-clause-seen g c = λ bytes stated.
    made_of_acts (λ plan refusal printed. SawPlan (g.O.Observer.has_seen c.steps_simulation.new.observer) plan refusal)
    (g.C.Content.finds c.args.content.now) (λ word ending printed. Unit {0}) (λ (o : Output). [])
    c.args.window (Some bytes) c.args.steps.now c.in-Ok.stated.acts.items c.steps_simulation.result
    c.in-Ok.ensures.acts (c.steps_simulation.ensures.seen bytes stated)
