-- The world that a simulation comes to is one that steps lead to, so each of its subscribers is faithful.
use Rattle.cdc_commands.proofs.Terms.{Act, All, AnswersTo, Arguments, ClientBatch, ComesTo, Err, IsFaithful, IsReached, IsReportOf, Leads, List, None, Ok, Option, Plan, PlaysActs, Script, Seen, Simulated, Simulates, Some, Stage, Step, StepError, WorldState, [], ap, at_start, get_or, inl, inr, length, simulation_text, slice_get-get_or, start_of, step_for, subst, ℕ, ◌+◌, ◌∷◌, ◌≡◌}
use Rattle.cdc_world.proofs.Reached.{faithful-reached}
use Rattle.cdc_commands.proofs.SimulationLemmas.{numbered_found}

-- a step that is done, and those after it
done_leads : (before between : Stage) (want : Option (Step × ℕ)) (steps : List Step) (w : WorldState)
    → AnswersTo before want None between → Leads between.world steps w
    → (more : List Step) × Leads before.world more w
done_leads before between None steps w answers rest = absurd answers
done_leads before between (Some want) steps w answers rest = (
  want.0 ∷ steps,
  (
    Ok answers.0,
    answers.1,
    answers.2.0,
    subst (λ (x : WorldState). Leads x steps w) (ap (λ (x : Stage). x.world) answers.2.1) rest,
  ),
)

-- a step that is refused
refused_leads : (before end : Stage) (want : Option (Step × ℕ)) (why : StepError) → AnswersTo before want (Some why) end
    → (more : List Step) × Leads before.world more end.world
refused_leads before end None why answers = ([], ap (λ (x : Stage). x.world) answers.1)
refused_leads before end (Some want) why answers =
    (want.0 ∷ [], (Err why, answers.0, answers.1.0.0, ap (λ (x : Stage). x.world) answers.1.1))

-- the steps that acts ask for lead from one world to the other
acts_lead : (batches : List ClientBatch) (before : Stage) (acts : List Act) (refusal : Option StepError) (end : Stage)
    → PlaysActs batches before acts refusal end → (steps : List Step) × Leads before.world steps end.world
acts_lead batches before [] None end plays = ([], ap (λ (x : Stage). x.world) plays)
acts_lead batches before [] (Some why) end plays = absurd plays
acts_lead batches before (a ∷ acts) refusal end (inl refused) =
    refused_leads before end (step_for batches before.batches a) refused.0 refused.1.1
acts_lead batches before (a ∷ acts) refusal end (inr on) =
    let rest = acts_lead batches on.0 acts refusal end on.1.1 in
    done_leads before on.0 (step_for batches before.batches a) rest.0 end.world on.1.0 rest.1

-- the world is one that steps lead to
pub is_reached : (bindings : List Arguments) (window : ℕ) (batches : List ClientBatch) (acts : List Act)
    (refusal : Option StepError) (end : Stage) → PlaysActs batches (at_start bindings window) acts refusal end
    → IsReached end.world
is_reached bindings window batches acts refusal end plays =
    let steps = acts_lead batches (at_start bindings window) acts refusal end plays in
    record { bindings = bindings; window = window; held = None; steps = steps.0; at_start = tt; leads = steps.1 }

-- each subscriber is faithful
pub all_faithful : (bindings : List Arguments) (window : ℕ) (batches : List ClientBatch) (acts : List Act)
    (refusal : Option StepError) (end : Stage) → PlaysActs batches (at_start bindings window) acts refusal end
    → All (λ s. IsFaithful end.world.history (start_of end.world) s.binding s.reception) end.world.subscriptions
all_faithful bindings window batches acts refusal end plays = λ k d inside.
    let subscriptions = end.world.subscriptions in
    faithful-reached end.world (k + 1) (get_or subscriptions k d)
    (is_reached bindings window batches acts refusal end plays)
    (numbered_found subscriptions k (get_or subscriptions k d) (slice_get-get_or subscriptions k d inside))

-- what is reported of the stage that the acts of a script lead to
pub comes_to : (script : Script) (window : ℕ) (acts : List Act) (simulated : Simulated)
    (batches : List ClientBatch) (bindings : List Arguments) (end : Stage) → batches ≡ script.batches
    → bindings ≡ script.bindings
    → PlaysActs batches (at_start bindings window) acts simulated.played.refusal end → IsReportOf end simulated
    → ComesTo (record { script = script; window = window; acts = acts }) simulated
comes_to script window acts simulated batches bindings end whose of plays report =
    let refusal = simulated.played.refusal in
    record {
      end = end;
      plays = subst (λ (bs : List ClientBatch). PlaysActs bs (at_start script.bindings window) acts refusal end) whose
          (subst (λ (bs : List Arguments). PlaysActs batches (at_start bs window) acts refusal end) of plays);
      report = report;
    }

-- and an observer saw the steps that lead there
pub comes_seen : (Saw : List Seen → Type 0) (script : Script) (window : ℕ) (acts : List Act) (simulated : Simulated)
    (batches : List ClientBatch) (bindings : List Arguments) (end : Stage) → batches ≡ script.batches
    → bindings ≡ script.bindings
    → PlaysActs batches (at_start bindings window) acts simulated.played.refusal end → IsReportOf end simulated
    → Saw end.seen
    → (come : ComesTo (record { script = script; window = window; acts = acts }) simulated) × Saw come.end.seen
comes_seen Saw script window acts simulated batches bindings end whose of plays report saw =
    let refusal = simulated.played.refusal in (
      record {
        end = end;
        plays = subst (λ (bs : List ClientBatch). PlaysActs bs (at_start script.bindings window) acts refusal end) whose
            (subst (λ (bs : List Arguments). PlaysActs batches (at_start bs window) acts refusal end) of plays);
        report = report;
      },
      saw,
    )

-- what is printed of it
pub simulates : (plan : Plan) (simulated : Simulated) (printed : List ℕ) → (come : ComesTo plan simulated)
    → printed ≡ simulation_text (length plan.acts) simulated.played.refusal come.end
    → Simulates plan simulated.played.refusal printed
simulates plan simulated printed come prints = record {
  end = come.end;
  plays = come.plays;
  prints = prints;
  faithful = all_faithful plan.script.bindings plan.window plan.script.batches plan.acts simulated.played.refusal
      come.end come.plays;
}
