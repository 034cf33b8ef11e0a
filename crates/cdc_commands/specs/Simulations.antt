-- What the acts of a step file do over the batches of a script, and what is printed of it.
use Rattle.std.specs.Prelude.{◌≡◌, ◌⊎◌, ℕ, ◌+◌, List, [], ◌∷◌, ◌++◌, All, codes, length, Option, Some, None, Ok, Err, slice_get}
use Rattle.std.specs.Option.{option_map}
use Rattle.cdc_match.specs.Arguments.{Arguments}
use Rattle.cdc_progress.specs.Records.{Saved}
use Rattle.cdc_progress.specs.Stores.{no_risks}
use Rattle.cdc_subscriber.specs.Reception.{kept_of}
use Rattle.cdc_subscriber.specs.Lines.{subscriber_text}
use Rattle.cdc_laws.specs.Faithful.{IsFaithful}
use Rattle.cdc_world.specs.declared.steps.Did.{Did}
use Rattle.cdc_world.specs.declared.steps.Did.TheVariants.{Submitted, Arrived, Counted, Took, Done}
use Rattle.cdc_types.specs.declared.steps.Step.{Step}
use Rattle.cdc_types.specs.declared.steps.Step.TheVariants as step
use Rattle.cdc_world.specs.declared.steps.StepError.{StepError}
use Rattle.cdc_world.specs.declared.steps.StepError.TheVariants.{NotEnabled}
use Rattle.cdc_world.specs.Errors.{step_error_name}
use Rattle.cdc_world.specs.Moved.{moved}
use Rattle.cdc_world.specs.Next.{Next, NextOver}
use Rattle.cdc_world.specs.Worlds.{Subscription, WorldState, new_world, start_of}
use Rattle.cdc_script.specs.declared.scripts.ClientBatch.{ClientBatch}
use Rattle.cdc_script.specs.declared.scripts.Script.{Script}
use Rattle.cdc_script.specs.declared.step_files.Act.{Act}
use Rattle.cdc_script.specs.declared.step_files.Act.TheVariants as act
use Rattle.cdc_commands.specs.Report.{answered_lines}
use Rattle.cdc_commands.specs.Seen.{Seen}
use Rattle.cdc_commands.specs.declared.batches.Answered.{Answered}
use Rattle.cdc_codec.specs.Texts.{spaced}

-- how far a simulation has come: the world, how many of the script's batches are done, what the ledger answered to
-- batches, how many acts are done, and what each step did and moved
pub record Stage : Type 0 where
  pub world : WorldState
  pub batches : ℕ
  pub answers : List Answered
  pub done : ℕ
  pub seen : List Seen

-- the stage before the first act
abbrev pub at_start : List Arguments → ℕ → Stage
at_start bindings window =
    record { world = new_world bindings window None; batches = 0; answers = []; done = 0; seen = [] }

-- the step that an act asks for, and how many batches are done after it; `batch` asks for the next one, if one is left
abbrev pub step_for : List ClientBatch → ℕ → Act → Option (Step × ℕ)
step_for batches n act.Batch = option_map (λ b. (step.Submit b.batch, n + 1)) (slice_get batches n)
step_for batches n (act.Step stated) = Some (stated, n)

-- what the ledger answered in a step that is done: the results of the batch with this number, if it is one
abbrev pub did_answer : ℕ → Did → List Answered
did_answer number (Submitted results) = record { number = number; answer = Ok results } ∷ []
did_answer number (Arrived taken) = []
did_answer number (Counted counted) = []
did_answer number (Took taking) = []
did_answer number Done = []

-- a step that was done so, and led from one world to the other
abbrev pub seen_of : WorldState → Step → Did → WorldState → Seen
seen_of before step did w =
    record { step = step; did = did; moved = moved before step did w; history = w.history }

-- the stage after an act that is done: its step, how many batches are done then, what it did, and this world
abbrev pub after_act : Stage → Step × ℕ → Did → WorldState → Stage
after_act before want did w = record {
  world = w;
  batches = want.1;
  answers = before.answers ++ did_answer (before.batches + 1) did;
  done = before.done + 1;
  seen = before.seen ++ seen_of before.world want.0 did w ∷ [];
}

-- what is asked for is answered so at a stage, over a store that never runs out of memory and has no faults: it is
-- done, and leads to the other one, or it is refused
abbrev pub AnswersTo : Stage → Option (Step × ℕ) → Option StepError → Stage → Type 0
AnswersTo before None None after = ⊥
AnswersTo before None (Some why) after = (why ≡ NotEnabled) × (after ≡ before)
AnswersTo before (Some want) None after =
    (did : Did) × (w : WorldState) × (Next before.world want.0 (Ok did) w × (after ≡ after_act before want did w))
AnswersTo before (Some want) (Some why) after =
    (w : WorldState) × (NextOver no_risks before.world want.0 (Err why) w × (after ≡ record before { world = w }))

-- an act leads from one stage to another, and is done, or refused
abbrev pub ActsTo : List ClientBatch → Stage → Act → Option StepError → Stage → Type 0
ActsTo batches before a refusal after = AnswersTo before (step_for batches before.batches a) refusal after

-- acts lead from one stage to another: all are done, or those before the first that is refused
abbrev pub PlaysActs : List ClientBatch → Stage → List Act → Option StepError → Stage → Type 0
PlaysActs batches before [] None after = after ≡ before
PlaysActs batches before [] (Some why) after = ⊥
PlaysActs batches before (a ∷ acts) refusal after =
    ((why : StepError) × ((refusal ≡ Some why) × ActsTo batches before a (Some why) after))
    ⊎ ((between : Stage) × (ActsTo batches before a None between × PlaysActs batches between acts refusal after))

-- the line with the numbers of steps done and of all steps
abbrev pub steps_line : ℕ → ℕ → List ℕ
steps_line done all = codes "steps" ++ (spaced done ++ (codes " of" ++ (spaced all ++ codes "\n")))

-- the line of the step that was refused, the one after those done, if one was
abbrev pub refusal_line : ℕ → Option StepError → List ℕ
refusal_line done None = []
refusal_line done (Some why) =
    codes "refused" ++ (spaced (done + 1) ++ (codes " " ++ (step_error_name why ++ codes "\n")))

-- the line of what the store holds
abbrev pub progress_line : Option Saved → List ℕ
progress_line None = codes "progress none\n"
progress_line (Some saved) = codes "progress" ++ (spaced saved.session ++ (spaced saved.timestamp ++ codes "\n"))

-- the lines of subscribers, of which the first has this number
abbrev pub subscriptions_text : ℕ → List Subscription → List ℕ
subscriptions_text n [] = []
subscriptions_text n (s ∷ rest) = subscriber_text n (kept_of s.reception) ++ subscriptions_text (n + 1) rest

-- what is printed of a simulation that came to this stage, of so many acts
abbrev pub simulation_text : ℕ → Option StepError → Stage → List ℕ
simulation_text all refusal end =
    answered_lines end.answers ++ (steps_line end.done all ++ (refusal_line end.done refusal
    ++ (progress_line end.world.held ++ subscriptions_text 1 end.world.subscriptions)))

-- what is simulated: a script, the window of its sessions, and the acts
pub record Plan : Type 0 where
  pub script : Script
  pub window : ℕ
  pub acts : List Act

-- a simulation of this plan prints this: the lines of a world that its acts lead to, each of whose subscribers is
-- faithful after the start of that world
pub record Simulates (plan : Plan) (refusal : Option StepError) (printed : List ℕ) : Type 0 where
  pub end : Stage
  pub plays : PlaysActs plan.script.batches (at_start plan.script.bindings plan.window) plan.acts refusal end
  pub prints : printed ≡ simulation_text (length plan.acts) refusal end
  pub faithful : All (λ s. IsFaithful end.world.history (start_of end.world) s.binding s.reception)
      end.world.subscriptions
