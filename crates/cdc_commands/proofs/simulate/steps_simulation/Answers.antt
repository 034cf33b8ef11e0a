use Rattle.cdc_commands.proofs.Terms.{Act, List, None, Ok, Outcome, Plan, SawPlan, SimulationInput, Some, [], ap, of_acts, refl, subst, sym, ◌≡◌}
use Rattle.cdc_commands.proofs.OutputLemmas.{prints_after, prints_none}
use Rattle.cdc_commands.proofs.simulate.steps_simulation.Goals as goal

pub returns-clause-output : goal.returns-clause-output
returns-clause-output g c = λ bytes stated.
    let acts = c.as_slice-acts.result.now in
    let plan : Plan = record { script = c.args.script; window = c.args.window; acts = acts } in
    let input : SimulationInput = of_acts c.args.window (Some bytes) c.args.steps.now.acts.items in
    let simulated = c.in_ok-simulated.simulated in
    let come = c.in_ok-simulated.ensures.seen c.begin.ensures in
    let is = c.in-Some.is in
    let same : c.in_ok-sought.sought ≡ Some c.in-Some.found = cc in
    let found = subst (g.C.Content.finds c.args.content.now c.args.script) same c.in_ok-sought.ensures in
    prints_after (g.C.SimulationContent.prints_plan c.args.content.now) (g.C.Content.finds c.args.content.now)
    g.F.Form.prints_fault input simulated.played.refusal c.of_refusal.result _
    c.of_refusal.ensures (
      plan,
      (
        record {
          window_is = refl;
          script_stated = stated;
          steps_stated = ap (λ (stated_acts : List Act). Ok stated_acts) (sym c.as_slice-acts.ensures.value);
        },
        c.in_ok-text.ensures.text plan refl found come.0 come.1,
      ),
    )

pub returns-clause-seen : goal.returns-clause-seen
returns-clause-seen g c = λ bytes stated.
    let acts = c.as_slice-acts.result.now in
    let plan : Plan = record { script = c.args.script; window = c.args.window; acts = acts } in
    let input : SimulationInput = of_acts c.args.window (Some bytes) c.args.steps.now.acts.items in
    let simulated = c.in_ok-simulated.simulated in
    let come = c.in_ok-simulated.ensures.seen c.begin.ensures in
    prints_after (λ plan refusal printed. SawPlan (g.O.Observer.has_seen c.play_script.new.observer) plan refusal)
    (g.C.Content.finds c.args.content.now) (λ word ending printed. Unit {0}) input simulated.played.refusal
    c.of_refusal.result [] c.of_refusal.ensures (
      plan,
      (
        record {
          window_is = refl;
          script_stated = stated;
          steps_stated = ap (λ (stated_acts : List Act). Ok stated_acts) (sym c.as_slice-acts.ensures.value);
        },
        record { end = come.0.end; plays = come.0.plays; seen = come.1 },
      ),
    )

pub returns-in_default-clause-output : goal.returns-in_default-clause-output
returns-in_default-clause-output g c = λ bytes stated.
    let acts = c.args.steps.now.acts.items in
    let plan : Plan = record { script = c.args.script; window = c.args.window; acts = acts } in
    let input : SimulationInput = of_acts c.args.window (Some bytes) acts in
    let is = c.in_default.is in
    let same : c.in_ok-sought.sought ≡ None = cc in
    let none = subst (g.C.Content.finds c.args.content.now c.args.script) same c.in_ok-sought.ensures in
    prints_none (g.C.SimulationContent.prints_plan c.args.content.now) (g.C.Content.finds c.args.content.now)
    g.F.Form.prints_fault input c.of_usage_error.result.ending c.of_usage_error.result.text.items
    (ap (λ (o : Outcome). o.ending) c.of_usage_error.ensures) (
      plan,
      (
        record { window_is = refl; script_stated = stated; steps_stated = refl },
        (none, ap (λ (o : Outcome). o.text) c.of_usage_error.ensures),
      ),
    )

pub returns-in_default-clause-seen : goal.returns-in_default-clause-seen
returns-in_default-clause-seen g c = λ bytes stated.
    let acts = c.args.steps.now.acts.items in
    let plan : Plan = record { script = c.args.script; window = c.args.window; acts = acts } in
    let input : SimulationInput = of_acts c.args.window (Some bytes) acts in
    let is = c.in_default.is in
    let same : c.in_ok-sought.sought ≡ None = cc in
    let none = subst (g.C.Content.finds c.args.content.now c.args.script) same c.in_ok-sought.ensures in
    prints_none (λ plan' refusal printed. SawPlan (g.O.Observer.has_seen c.args.observer.now) plan' refusal)
    (g.C.Content.finds c.args.content.now) (λ word ending printed. Unit {0}) input c.of_usage_error.result.ending []
    (ap (λ (o : Outcome). o.ending) c.of_usage_error.ensures)
    (plan, (record { window_is = refl; script_stated = stated; steps_stated = refl }, (none, refl)))
