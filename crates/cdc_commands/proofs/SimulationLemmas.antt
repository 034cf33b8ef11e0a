-- Simulations, act by act, and the subscribers of a world, one after another.
use Rattle.cdc_commands.proofs.Terms.{Act, ActsTo, AnswersTo, ClientBatch, Err, History, IfOk, IsAt, IsReportOf, List, Next, NextOver, None, Ok, OnErr, Option, Parts, PlaysActs, Result, Seen, Simulated, SimulationParts, Some, Stage, Stands, Step, StepError, SubscriberState, Subscription, WorldState, [], after_act, answered_lines, ap, append-nil, append_assoc, ap₂, arith, did_answer, drop, drop_all, drop_more, false, false≢true, get_or, get_or_from_slice_get, if◌then◌else◌, inl, inr, is_some, kept_of, length, no_risks, numbered, option_map, pieces, progress_line, refl, refusal_line, rules, simulation_text, slice_get, slice_get_cases, slice_get_within, step_for, steps_line, subscriber_text, subscriptions_text, subst, sym, true, ℕ, ◌++◌, ◌+◌, ◌-◌, ◌<◌, ◌==◌, ◌∙◌, ◌∷◌, ◌≡◌, ◌≤◌, ◌⊎◌}
use Rattle.std.specs.declared.alloc.AllocError.{AllocError}
use Rattle.cdc_world.specs.declared.moved.Moved.{Moved}
use Rattle.cdc_world.specs.declared.steps.Did.{Did}
use Rattle.cdc_types.specs.declared.steps.Step.TheVariants as step
use Rattle.cdc_world.specs.Moved.{moved}
use Rattle.cdc_script.specs.declared.step_files.Act.TheVariants as act

-- the element at a place, and those after it
pub drop_found : {X : Type 0} (xs : List X) (i : ℕ) (x : X) → slice_get xs i ≡ Some x → drop i xs ≡ x ∷ drop (i + 1) xs
drop_found xs i x h =
    drop_more xs i x (slice_get_within xs i x h) ∙ ap (λ y. y ∷ drop (i + 1) xs) (get_or_from_slice_get xs i x x h)

-- the element at a place has the number that is one greater
pub numbered_found : {X : Type 0} (xs : List X) (i : ℕ) (x : X) → slice_get xs i ≡ Some x → numbered xs (i + 1) ≡ Some x
numbered_found xs i x h =
    let other : (i + 1 == 0) ≡ false = search rules in
    let same : i + 1 - 1 ≡ i = omega arith in
    rw (other, same) h

-- one more subscriber is printed
pub printed_more : (place : ℕ) (subscriptions : List Subscription) (s : Subscription) (kept : SubscriberState)
    (old new whole : List ℕ)
    → slice_get subscriptions place ≡ Some s → kept ≡ kept_of s.reception
    → new ≡ old ++ subscriber_text (place + 1) kept
    → old ++ subscriptions_text (place + 1) (drop place subscriptions) ≡ whole
    → new ++ subscriptions_text (place + 1 + 1) (drop (place + 1) subscriptions) ≡ whole
printed_more place subscriptions s kept old new whole found reception added before =
    ap (λ t. t ++ subscriptions_text (place + 1 + 1) (drop (place + 1) subscriptions)) added
    ∙ append_assoc old (subscriber_text (place + 1) kept) _
    ∙ ap (λ k. old ++ (subscriber_text (place + 1) k
    ++ subscriptions_text (place + 1 + 1) (drop (place + 1) subscriptions))) reception
    ∙ ap (λ xs. old ++ subscriptions_text (place + 1) xs) (sym (drop_found subscriptions place s found))
    ∙ before

-- no subscriber is left
pub printed_whole : (place : ℕ) (subscriptions : List Subscription) (text whole : List ℕ)
    → drop place subscriptions ≡ []
    → text ++ subscriptions_text (place + 1) (drop place subscriptions) ≡ whole → text ≡ whole
printed_whole place subscriptions text whole none before =
    sym (append-nil text) ∙ ap (λ xs. text ++ subscriptions_text (place + 1) xs) (sym none) ∙ before

-- acts up to this place were done: the simulation is at a stage with as many, and what the acts that are left lead to
-- from there is what all lead to from the start; and an observer saw what was seen up to there
pub record HasCome (Saw : List Seen → Type 0) (batches : List ClientBatch) (acts : List Act) (before : Stage)
    (place : ℕ) (simulation : SimulationParts) : Type 0 where
  pub here : Stage
  pub at : IsAt simulation here
  pub done : here.done ≡ place
  pub saw : Saw here.seen
  pub on : (refusal : Option StepError) (end : Stage) → PlaysActs batches here (drop place acts) refusal end
      → PlaysActs batches before acts refusal end

-- an act counts
acts_count : (before : Stage) (want : Option (Step × ℕ)) (after : Stage) → AnswersTo before want None after
    → after.done ≡ before.done + 1
acts_count before None after answers = absurd answers
acts_count before (Some want) after answers = ap (λ (x : Stage). x.done) answers.2.1

-- an act is done
pub HasCome-more : (Saw Saw' : List Seen → Type 0) (batches : List ClientBatch) (acts : List Act) (before : Stage)
    (place : ℕ) (old new : SimulationParts) (a : Act) (after : Stage)
    → slice_get acts place ≡ Some a → (come : HasCome Saw batches acts before place old)
    → IsAt new after → ActsTo batches come.here a None after → Saw' after.seen
    → HasCome Saw' batches acts before (place + 1) new
HasCome-more Saw Saw' batches acts before place old new a after found come at acted saw = record {
  here = after;
  at = at;
  done = acts_count come.here (step_for batches come.here.batches a) after acted ∙ ap (λ n. n + 1) come.done;
  saw = saw;
  on = λ refusal end plays. come.on refusal end (subst (λ xs. PlaysActs batches come.here xs refusal end)
      (sym (drop_found acts place a found)) (inr (after, (acted, plays))));
}

-- an act is refused
pub played_to : (Saw : List Seen → Type 0) (batches : List ClientBatch) (acts : List Act) (before : Stage) (place : ℕ)
    (old : SimulationParts) (a : Act) (why : StepError) (end : Stage) → slice_get acts place ≡ Some a
    → (come : HasCome Saw batches acts before place old) → ActsTo batches come.here a (Some why) end
    → PlaysActs batches before acts (Some why) end
played_to Saw batches acts before place old a why end found come acted =
    come.on (Some why) end (subst (λ xs. PlaysActs batches come.here xs (Some why) end)
    (sym (drop_found acts place a found)) (inl (why, (refl, acted))))

-- a refusal leaves the count of the acts that are done
refused_count : (before : Stage) (want : Option (Step × ℕ)) (why : StepError) (after : Stage)
    → AnswersTo before want (Some why) after → after.done ≡ before.done
refused_count before None why after answers = ap (λ (x : Stage). x.done) answers.1
refused_count before (Some want) why after answers = ap (λ (x : Stage). x.done) answers.1.1

-- so when a simulation stops, it has done the acts up to the one that was refused
pub stopped_count : (Saw : List Seen → Type 0) (batches : List ClientBatch) (acts : List Act) (before : Stage)
    (place : ℕ) (old : SimulationParts)
    (a : Act) (why : StepError) (end : Stage) → (come : HasCome Saw batches acts before place old)
    → ActsTo batches come.here a (Some why) end → end.done ≡ place
stopped_count Saw batches acts before place old a why end come acted =
    refused_count come.here (step_for batches come.here.batches a) why end acted ∙ come.done

-- what an observer that saw some steps has seen, if it had seen those of a stage
abbrev pub SawFrom : Type 0 → (List Seen → Type 0) → List Seen → Type 0
SawFrom First Saw seen = First → Saw seen

-- the loop stops at a refusal
pub stopped : (First : Type 0) (Saw Saw' : List Seen → Type 0) (batches : List ClientBatch) (acts : List Act)
    (before : Stage) (place : ℕ) (old new : SimulationParts)
    (a : Act) (refusal : Option StepError) → slice_get acts place ≡ Some a → is_some refusal ≡ true
    → (come : HasCome (SawFrom First Saw) batches acts before place old)
    → ((after : Stage) × (IsAt new after × (ActsTo batches come.here a refusal after
    × (Saw come.here.seen → Saw' after.seen))))
    → (end : Stage) × (IsAt new end × ((end.done ≡ place) × (PlaysActs batches before acts refusal end
    × SawFrom First Saw' end.seen)))
stopped First Saw Saw' batches acts before place old new a None found some come acted = cc
stopped First Saw Saw' batches acts before place old new a (Some why) found some come acted = (
  acted.0,
  (
    acted.1.0,
    (
      stopped_count (SawFrom First Saw) batches acts before place old a why acted.0 come acted.1.1.0,
      (
        played_to (SawFrom First Saw) batches acts before place old a why acted.0 found come acted.1.1.0,
        λ first. acted.1.1.1 (come.saw first),
      ),
    ),
  ),
)

-- the loop continues if nothing is refused
pub went_on : (First : Type 0) (Saw Saw' : List Seen → Type 0) (batches : List ClientBatch) (acts : List Act)
    (before : Stage) (place : ℕ) (old new : SimulationParts)
    (a : Act) (refusal : Option StepError) → slice_get acts place ≡ Some a → is_some refusal ≡ false
    → (come : HasCome (SawFrom First Saw) batches acts before place old)
    → ((after : Stage) × (IsAt new after × (ActsTo batches come.here a refusal after
    × (Saw come.here.seen → Saw' after.seen))))
    → HasCome (SawFrom First Saw') batches acts before (place + 1) new
went_on First Saw Saw' batches acts before place old new a None found none come acted =
    HasCome-more (SawFrom First Saw) (SawFrom First Saw') batches acts before place old new a acted.0 found come
    acted.1.0 acted.1.1.0 (λ first. acted.1.1.1 (come.saw first))
went_on First Saw Saw' batches acts before place old new a (Some why) found none come acted = cc

-- what the answer to a step means for an act that asks for the step
pub act_answered : (Saw : List Seen → Type 0) (batches : List ClientBatch) (stage : Stage) (a : Act)
    (want : Option (Step × ℕ))
    (new : SimulationParts) (result : Result (Option StepError) AllocError) → want ≡ step_for batches stage.batches a
    → IfOk result (λ refusal. (after : Stage) × (IsAt new after × (AnswersTo stage want refusal after
    × Saw after.seen)))
    → IfOk result (λ refusal. (after : Stage) × (IsAt new after × (ActsTo batches stage a refusal after
    × Saw after.seen)))
act_answered Saw batches stage a want new result is answered =
    subst (λ x. IfOk result (λ refusal. (after : Stage) × (IsAt new after × (AnswersTo stage x refusal after
    × Saw after.seen))))
    is answered

-- lists that are the same begin with the same element, so it is what was found
same_heads : {X : Type 0} (x y : X) (xs ys : List X) (found : Option X) → x ∷ xs ≡ y ∷ ys → found ≡ Some y
    → (found ≡ Some x) × (xs ≡ ys)
same_heads x y xs ys found same is = (cc, cc)

-- an element and more aren't nothing
not_nothing : {X : Type 0} (x : X) (xs : List X) → x ∷ xs ≡ [] → ⊥
not_nothing x xs same = cc

-- a place of a list has an element, or is past the list's end
abbrev Found : {X : Type 0} → List X → ℕ → Type 0
Found {X} xs n = ((y : X) × (n < length xs) × (slice_get xs n ≡ Some y) × (get_or xs n y ≡ y))
    ⊎ ((length xs ≤ n) × (slice_get xs n ≡ None))

-- what is left of a list after n elements begins with the one at place n
left_found : {X : Type 0} (xs : List X) (n : ℕ) (x : X) (left : List X) → drop n xs ≡ x ∷ left → Found xs n
    → (slice_get xs n ≡ Some x) × (left ≡ drop (n + 1) xs)
left_found xs n x left is (inl at) =
    same_heads x at.0 left (drop (n + 1) xs) (slice_get xs n) (sym is ∙ drop_found xs n at.0 at.2) at.2
left_found xs n x left is (inr past) = absurd (not_nothing x left (sym is ∙ drop_all n xs past.0))

pub next_left : {X : Type 0} (xs : List X) (n : ℕ) (x : X) (left : List X) → drop n xs ≡ x ∷ left
    → (slice_get xs n ≡ Some x) × (left ≡ drop (n + 1) xs)
next_left xs n x left is = left_found xs n x left is (slice_get_cases xs n).1

-- if nothing is left, there is no element at that place
none_found : {X : Type 0} (xs : List X) (n : ℕ) → drop n xs ≡ [] → Found xs n → slice_get xs n ≡ None
none_found xs n is (inl at) =
    absurd (not_nothing at.0 (drop (n + 1) xs) (sym (drop_found xs n at.0 at.2) ∙ is))
none_found xs n is (inr past) = past.1

pub none_left : {X : Type 0} (xs : List X) (n : ℕ) → drop n xs ≡ [] → slice_get xs n ≡ None
none_left xs n is = none_found xs n is (slice_get_cases xs n).1

-- `batch` asks for the first of the batches that are left
pub next_batch : (batches : List ClientBatch) (k n m : ℕ) (b : ClientBatch) (left : List ClientBatch)
    → b ∷ left ≡ drop n batches → k ≡ n → n ≡ m → Some (step.Submit b.batch, k + 1) ≡ step_for batches m act.Batch
next_batch batches k n m b left first counted same =
    ap (λ i. Some (step.Submit b.batch, i + 1)) counted
    ∙ sym (ap (option_map (λ (x : ClientBatch). (step.Submit x.batch, n + 1)))
    (next_left batches n b left (sym first)).0)
    ∙ ap (λ i. step_for batches i act.Batch) same

-- so there is one more in the script
pub next_within : (batches : List ClientBatch) (k n : ℕ) (b : ClientBatch) (left : List ClientBatch)
    → b ∷ left ≡ drop n batches → k ≡ n → k + 1 ≤ length batches
next_within batches k n b left first counted =
    let within = slice_get_within batches n b (next_left batches n b left (sym first)).0 in
    omega (arith, within, counted)

-- once it is done, those after it are left
pub left_behind : (batches : List ClientBatch) (k n m : ℕ) (b : ClientBatch) (left : List ClientBatch)
    (result : Result (Option StepError) AllocError) → b ∷ left ≡ drop n batches → k ≡ n
    → IfOk result (λ refusal. m ≡ (if is_some refusal then n else k + 1))
    → IfOk result (λ refusal. is_some refusal ≡ false → left ≡ drop m batches)
left_behind batches k n m b left (Ok None) first counted count =
    λ none. (next_left batches n b left (sym first)).1
    ∙ ap (λ i. drop i batches) (sym (count ∙ ap (λ i. i + 1) counted))
left_behind batches k n m b left (Ok (Some why)) first counted count = λ none. absurd (false≢true (sym none))
left_behind batches k n m b left (Err e) first counted count = tt

-- a step that is done: it moved this, and leaves a ledger with this history
pub record IsDoneTo (world : Parts) (before : WorldState) (taken : Step) (did : Did) (m : Option Moved) (h : History)
    : Type 0 where
  pub after : WorldState
  pub stands : Stands world after
  pub next : Next before taken (Ok did) after
  pub moves : m ≡ moved before taken did after
  pub history : h ≡ after.history

-- and an observer sees it
pub step_done : (Saw Saw' : List Seen → Type 0) (old new : SimulationParts) (stage : Stage) (taken : Step) (n : ℕ)
    (did : Did) (m : Option Moved) (h : History) → IsAt old stage
    → IsDoneTo new.world stage.world taken did m h → new.batches ≡ n
    → new.answers ≡ old.answers ++ did_answer (old.batches + 1) did
    → ((seen : List Seen) → Saw seen
    → Saw' (seen ++ record { step = taken; did = did; moved = m; history = h } ∷ []))
    → (after : Stage) × (IsAt new after × (AnswersTo stage (Some (taken, n)) None after
    × (Saw stage.seen → Saw' after.seen)))
step_done Saw Saw' old new stage taken n did m h at to count answers sees = (
  after_act stage (taken, n) did to.after,
  (
    record {
      world = to.stands;
      batches = count;
      answers = answers ∙ ap₂ (λ t k. t ++ did_answer (k + 1) did) at.answers at.batches;
    },
    (
      (did, to.after, (to.next, refl)),
      λ saw. subst (λ (x : Option Moved). Saw' (stage.seen
          ++ record { step = taken; did = did; moved = x; history = to.after.history } ∷ [])) to.moves
          (subst (λ (x : History). Saw' (stage.seen
          ++ record { step = taken; did = did; moved = m; history = x } ∷ [])) to.history (sees stage.seen saw)),
    ),
  ),
)

-- a step that is refused
pub step_refused : (Saw Saw' : List Seen → Type 0) (old new : SimulationParts) (stage : Stage) (taken : Step) (n : ℕ)
    (why : StepError) → IsAt old stage
    → ((w : WorldState) × (Stands new.world w × NextOver no_risks stage.world taken (Err why) w))
    → new.batches ≡ old.batches
    → new.answers ≡ old.answers
    → ((seen : List Seen) → Saw seen → Saw' seen)
    → (after : Stage) × (IsAt new after × (AnswersTo stage (Some (taken, n)) (Some why) after
    × (Saw stage.seen → Saw' after.seen)))
step_refused Saw Saw' old new stage taken n why at moved count answers sees = (
  record stage { world = moved.0 },
  (
    record { world = moved.1.0; batches = count ∙ at.batches; answers = answers ∙ at.answers },
    ((moved.0, (moved.1.1, refl)), sees stage.seen),
  ),
)

-- the text of a world, piece by piece
pub world_text : (simulated : Simulated) (stage : Stage) (all : ℕ)
    (with_answers with_steps with_refusal with_progress bytes text : List ℕ) → IsReportOf stage simulated
    → with_answers ≡ answered_lines simulated.answers.items
    → with_steps ≡ with_answers ++ steps_line simulated.played.done all
    → with_refusal ≡ with_steps ++ refusal_line simulated.played.done simulated.played.refusal
    → with_progress ≡ with_refusal ++ progress_line simulated.held → bytes ≡ with_progress
    → text ≡ bytes ++ subscriptions_text 1 stage.world.subscriptions
    → text ≡ simulation_text all simulated.played.refusal stage
world_text simulated stage all with_answers with_steps with_refusal with_progress bytes text report z a b c d e =
    let refusal = simulated.played.refusal in
    let lines = answered_lines stage.answers in
    let subscribers = subscriptions_text 1 stage.world.subscriptions in
    let progress = progress_line stage.world.held in
    let refused = refusal_line stage.done refusal in
    let steps = steps_line stage.done all in
    let first : with_steps ≡ lines ++ steps =
    a ∙ ap₂ (λ t n. t ++ steps_line n all) (z ∙ ap answered_lines report.answers) (sym report.done) in
    let second : with_refusal ≡ with_steps ++ refused =
    b ∙ ap (λ n. with_steps ++ refusal_line n refusal) (sym report.done) in
    let third : with_progress ≡ with_refusal ++ progress =
    c ∙ ap (λ p. with_refusal ++ progress_line p) report.held in
    let last : text ≡ with_progress ++ subscribers = e ∙ ap (λ t. t ++ subscribers) d in
    pieces lines with_steps text steps (refused ++ (progress ++ subscribers)) first
    (pieces with_steps with_refusal text refused (progress ++ subscribers) second
    (pieces with_refusal with_progress text progress subscribers third last))

-- the kept state represents the same world, however often the store has failed
pub stands_counted : (p : Parts) (w : WorldState) (failed : ℕ) → Stands p w → Stands (record p { failed = failed }) w
stands_counted p w failed st = record { actors = st.actors; held = st.held }

-- what holds for every answer holds for an error
pub whatever_answered : {A E P : Type 0} (answer : Result A E) → P → OnErr answer P
whatever_answered (Ok given) p = tt
whatever_answered (Err why) p = p
