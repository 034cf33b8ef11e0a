-- A run of a script, and what is printed of it.
use Rattle.cdc_run_command.proofs.Words.{AreSubscribed, Arguments, BadScript, BadSteps, BadWords, Batch, Bool, CLIENTS, ClientBatch, Config, Done, Ending, Err, Failed, Faults, HasRunOf, History, IfOk, IfSome, IsClient, IsOrderOf, IsPrinted, IsPrintedOf, IsRunnable, IsWriteFault, List, None, Ok, Option, Outcome, PrintsFailure, ProgramFault, RanFrom, Refused, Reply, Report, Result, Risks, RunCommandPrints, RunFailed, RunsTo, Saved, Script, Setting, Some, StatesScript, SubscriberState, Writes, [], ap, arith, client_count, entries_of, fold, found_at, get_or_from_slice_get, inl, inr, length, length-map, map, max, option_map, own_of, owners_of, refl, script_of, shares_from, slice_get, slice_get-map, slice_index_or, subst, suc, sym, times_in, zero, ℕ, ◌+◌, ◌∙◌, ◌∷◌, ◌≡◌, ◌≤◌}
use Rattle.cdc_run.specs.BrokerPlan.{BrokerPlan}
use Rattle.cdc_run.specs.Counts.{MayCount}
use Rattle.cdc_run.specs.declared.counts.Counts.{Counts}
use Rattle.cdc_commands.specs.FaultWords.{IsParsedAs}
use Rattle.cdc_run_command.specs.declared.reports.Ran.{Ran}
use Rattle.cdc_run_command.specs.declared.run.RunOutput.{RunOutput}
use Rattle.cdc_commands.proofs.OutputLemmas.{at_same_word, same_parsed}
use Rattle.cdc_run_command.proofs.ShareLemmas.{length-own_of, length-shares_from, slice_get-shares_from}

-- ---- how many clients there are

-- the greatest number so far is at least what it began with
count_rises : (n : ℕ) (batches : List ClientBatch) → n ≤ fold (λ m (b : ClientBatch). max m b.client) n batches
count_rises n [] = omega arith
count_rises n (b ∷ batches) =
    let rest = count_rises (max n b.client) batches in
    let more : n ≤ max n b.client = omega arith in
    omega (arith, rest, more)

-- no client has a greater one
client_counted : (n : ℕ) (batches : List ClientBatch) (k : ℕ) (b : ClientBatch) → slice_get batches k ≡ Some b
    → b.client ≤ fold (λ m (b' : ClientBatch). max m b'.client) n batches
client_counted n [] k b found = cc
client_counted n (b' ∷ batches) zero b found =
    let same : b' ≡ b = cc in
    let rest = count_rises (max n b'.client) batches in
    let more : b'.client ≤ max n b'.client = omega arith in
    omega (arith, rest, more, ap (λ (x : ClientBatch). x.client) same)
client_counted n (b' ∷ batches) (suc k) b found = client_counted (max n b'.client) batches k b found

-- and it is that of one of them, or what it began with
count_within : (n : ℕ) (batches : List ClientBatch) (most : ℕ) → n ≤ most
    → ((k : ℕ) (b : ClientBatch) → slice_get batches k ≡ Some b → b.client ≤ most)
    → fold (λ m (b : ClientBatch). max m b.client) n batches ≤ most
count_within n [] most begins each = begins
count_within n (b ∷ batches) most begins each =
    let head : b.client ≤ most = each 0 b refl in
    count_within (max n b.client) batches most (omega (arith, begins, head)) (λ k b' found. each (suc k) b' found)

-- a run can be made of a script
pub clients_fit : (script : Script) → IsRunnable script
    → (1 ≤ client_count script.batches) × (client_count script.batches ≤ CLIENTS)
clients_fit script is = (
  count_rises 1 script.batches,
  count_within 1 script.batches CLIENTS (omega arith) (λ k b found. (is.clients k b found).greatest),
)

-- ---- replies to what clients have submitted

-- entries have the owners of their batches
owners_are : (batches : List ClientBatch) → map (λ (e : ℕ × Batch). e.0) (entries_of batches) ≡ owners_of batches
owners_are [] = refl
owners_are (b ∷ batches) = ap (λ (cs : List ℕ). b.client ∷ cs) (owners_are batches)

-- replies to the scripts that a list of batches was parted into have the order of that list
pub order_of_shares : (batches : List ClientBatch) (replies : List (List Reply))
    → ((k : ℕ) (b : ClientBatch) → slice_get batches k ≡ Some b → IsClient b.client)
    → map (map (λ (r : Reply). r.batch)) replies ≡ shares_from 1 (client_count batches) (entries_of batches)
    → IsOrderOf (owners_of batches) replies
order_of_shares batches replies lawful same = record {
  known = λ k d inside.
      let there = found_at batches k (omega (arith, inside, length-map batches (λ (b : ClientBatch). b.client))) in
      let found : slice_get (owners_of batches) k ≡ Some there.0.client =
      slice_get-map (λ (b : ClientBatch). b.client) batches k
      ∙ ap (option_map (λ (b : ClientBatch). b.client)) there.1 in
      let is : slice_index_or (owners_of batches) k d ≡ there.0.client =
      get_or_from_slice_get (owners_of batches) k there.0.client d found in
      let so_many : length replies ≡ client_count batches =
      sym (length-map replies (map (λ (r : Reply). r.batch))) ∙ ap length same
      ∙ length-shares_from 1 (client_count batches) (entries_of batches) in
      let least : 1 ≤ there.0.client = (lawful k there.0 there.1).least in
      let counted : there.0.client ≤ client_count batches = client_counted 1 batches k there.0 there.1 in
      (omega (arith, is, least), omega (arith, is, so_many, counted));
  each = λ k share found.
      let delivered : List Batch = map (λ (r : Reply). r.batch) share in
      let mapped : slice_get (map (map (λ (r : Reply). r.batch)) replies) k ≡ Some delivered =
      slice_get-map (map (λ (r : Reply). r.batch)) replies k ∙ ap (option_map (map (λ (r : Reply). r.batch))) found in
      let own : delivered ≡ own_of (1 + k) (entries_of batches) =
      slice_get-shares_from 1 (client_count batches) k (entries_of batches) delivered
      (sym (ap (λ (xs : List (List Batch)). slice_get xs k) same) ∙ mapped) in
      sym (length-map share (λ (r : Reply). r.batch)) ∙ ap length own ∙ length-own_of (1 + k) (entries_of batches)
      ∙ ap (times_in (1 + k)) (owners_are batches)
      ∙ ap (λ c. times_in c (owners_of batches)) (let e : 1 + k ≡ k + 1 = omega arith in e);
}

-- subscribers of some bindings are those of equal ones
pub subscribed_same : (h : History) (start : ℕ) (closes : List (Option ℕ)) (subscribers : List SubscriberState)
    (these those : List Arguments) → these ≡ those
    → AreSubscribed h start these closes subscribers → AreSubscribed h start those closes subscribers
subscribed_same h start closes subscribers these those same are =
    subst (λ (bindings : List Arguments). AreSubscribed h start bindings closes subscribers) same are

-- so is what is counted of them
pub counted_same : (plan : BrokerPlan) (counts : Counts) (these those : List Arguments) → these ≡ those
    → MayCount plan these counts → MayCount plan those counts
counted_same plan counts these those same may =
    subst (λ (bindings : List Arguments). MayCount plan bindings counts) same may

-- and a report of a run with some scripts is one of a run with equal ones
pub ran_same : (config : Config) (faults : Faults) (held : Option Saved) (honest : Bool) (risks : Risks)
    (report : Report) (these those : List (List Batch)) → these ≡ those
    → RanFrom config faults held honest risks these report → RanFrom config faults held honest risks those report
ran_same config faults held honest risks report these those same ran =
    subst (λ (scripts : List (List Batch)). RanFrom config faults held honest risks scripts report) same ran

-- ---- what is printed

-- a script's text has the same meaning as all its bytes, so what is printed of it is printed of them
stated_same : (Prints : Script → List ℕ → Type 0) (text : List ℕ) (bytes : Option (List ℕ)) (printed : List ℕ)
    → IfSome bytes (IsParsedAs script_of text) → StatesScript Prints (Some text) printed
    → StatesScript Prints bytes printed
stated_same Prints text bytes printed same (script, (stated, prints)) =
    (script, (same_parsed script_of text bytes (Ok script) same stated, prints))

all_bytes : {X : Type 0} (Prints : Script → List ℕ → Report → List ℕ → Type 0) (Finds : Script → Option X → Type 0)
    (PrintsFault : List ℕ → Ending → List ℕ → Type 0)
    (setting : Setting) (text : List ℕ) (bytes : Option (List ℕ)) (ending : Ending) (printed : List ℕ)
    → IfSome bytes (IsParsedAs script_of text)
    → RunCommandPrints Prints Finds PrintsFault setting (Some text) ending printed
    → RunCommandPrints Prints Finds PrintsFault setting bytes ending printed
all_bytes Prints Finds PrintsFault setting text bytes Done printed same prints =
    stated_same (λ script. RunsTo (Prints script) setting script) text bytes printed same prints
all_bytes Prints Finds PrintsFault setting text bytes BadWords printed same prints =
    stated_same (λ script none. Finds script None × (none ≡ [])) text bytes printed same prints
all_bytes Prints Finds PrintsFault setting text bytes (BadScript at) printed same prints = (
  at_same_word (λ word. PrintsFault word (BadScript at)) script_of text bytes at printed same prints.1 prints.0,
  same_parsed script_of text bytes (Err at) same prints.1,
)
all_bytes Prints Finds PrintsFault setting text bytes (Failed why) printed same prints = prints
all_bytes Prints Finds PrintsFault setting text bytes (Refused why) printed same prints = absurd prints
all_bytes Prints Finds PrintsFault setting text bytes (BadSteps at) printed same prints = absurd prints

-- nothing is printed if what has to be found isn't in the script
pub prints_none : {X : Type 0} (Prints : Script → List ℕ → Report → List ℕ → Type 0)
    (Finds : Script → Option X → Type 0) (PrintsFault : List ℕ → Ending → List ℕ → Type 0) (setting : Setting) (bytes : Option (List ℕ)) (ending : Ending)
    (printed : List ℕ) → ending ≡ BadWords → StatesScript (λ script text. Finds script None × (text ≡ [])) bytes printed
    → RunCommandPrints Prints Finds PrintsFault setting bytes ending printed
prints_none Prints Finds PrintsFault setting bytes ending printed is none =
    subst (λ (e : Ending). RunCommandPrints Prints Finds PrintsFault setting bytes e printed) (sym is) none

-- the same of what a command made of the text of a script
pub run_of_script : {X : Type 0} (Prints : Script → List ℕ → Report → List ℕ → Type 0)
    (Finds : Script → Option X → Type 0) (PrintsFault : List ℕ → Ending → List ℕ → Type 0)
    (setting : Setting) (text script : List ℕ) (bytes : Option (List ℕ)) (made : Result RunOutput RunFailed)
    → text ≡ script → IfSome bytes (IsParsedAs script_of script)
    → IfOk made (λ m. RunCommandPrints Prints Finds PrintsFault setting (Some text) m.output.ending m.output.text.items)
    → IfOk made (λ m. RunCommandPrints Prints Finds PrintsFault setting bytes m.output.ending m.output.text.items)
run_of_script Prints Finds PrintsFault setting text script bytes (Err why) is same prints = tt
run_of_script Prints Finds PrintsFault setting text script bytes (Ok m) is same prints =
    all_bytes Prints Finds PrintsFault setting script bytes m.output.ending m.output.text.items same
    (subst (λ (xs : List ℕ).
    RunCommandPrints Prints Finds PrintsFault setting (Some xs) m.output.ending m.output.text.items) is prints)

-- and of the very run that it came to
printed_of : (Prints : Script → List ℕ → Report → List ℕ → Type 0) (text : List ℕ) (bytes : Option (List ℕ))
    (ran : Option Ran) (printed : List ℕ) → IfSome bytes (IsParsedAs script_of text)
    → IsPrintedOf Prints (Some text) ran printed → IsPrintedOf Prints bytes ran printed
printed_of Prints text bytes None printed same is = tt
printed_of Prints text bytes (Some ran) printed same is =
    stated_same (λ script. Prints script ran.owners.items ran.report) text bytes printed same is

pub printed_of_bytes : (Prints : Script → List ℕ → Report → List ℕ → Type 0) (text script : List ℕ)
    (bytes : Option (List ℕ)) (made : Result RunOutput RunFailed) → text ≡ script
    → IfSome bytes (IsParsedAs script_of script)
    → IfOk made (λ m. IsPrintedOf Prints (Some text) m.ran m.output.text.items)
    → IfOk made (λ m. IsPrintedOf Prints bytes m.ran m.output.text.items)
printed_of_bytes Prints text script bytes (Err why) is same prints = tt
printed_of_bytes Prints text script bytes (Ok m) is same prints =
    printed_of Prints script bytes m.ran m.output.text.items same
    (subst (λ (xs : List ℕ). IsPrintedOf Prints (Some xs) m.ran m.output.text.items) is prints)

-- a run of the script that a text writes is one of the script of all its bytes
same_run : (setting : Setting) (text script : List ℕ) (bytes : Option (List ℕ)) (ending : Ending) (ran : Option Ran)
    → text ≡ script → IfSome bytes (IsParsedAs script_of script)
    → HasRunOf setting (Some text) ending ran → HasRunOf setting bytes ending ran
same_run setting text script bytes ending None is same none = none
same_run setting text script None ending (Some ran) is same has = tt
same_run setting text script (Some all) ending (Some ran) is same has =
    (has.0, (sym same.0 ∙ ap script_of (sym is) ∙ has.1.0, has.1.1))

pub ran_of_bytes : (setting : Setting) (text script : List ℕ) (bytes : Option (List ℕ))
    (made : Result RunOutput RunFailed) → text ≡ script → IfSome bytes (IsParsedAs script_of script)
    → IfOk made (λ m. HasRunOf setting (Some text) m.output.ending m.ran)
    → IfOk made (λ m. HasRunOf setting bytes m.output.ending m.ran)
ran_of_bytes setting text script bytes (Ok m) is same has =
    same_run setting text script bytes m.output.ending m.ran is same has
ran_of_bytes setting text script bytes (Err why) is same has = tt

-- so it is once the output is printed
pub ran_printed : (setting : Setting) (bytes old new : Option (List ℕ)) (wished : Outcome) (ending : Ending)
    (ran : Option Ran) → IsPrinted old new wished ending → HasRunOf setting bytes wished.ending ran
    → HasRunOf setting bytes ending ran
ran_printed setting bytes old new wished ending (Some ran) printed has = has
ran_printed setting bytes old new wished ending None (inl failed) none = λ done. subst IsWriteFault done failed
ran_printed setting bytes old new wished ending None (inr written) none = λ done. none (sym written.0 ∙ done)

-- a command that failed has come to no report
pub none_ran : (setting : Setting) (bytes old new : Option (List ℕ)) (PrintsFault : List ℕ → Ending → List ℕ → Type 0)
    (why : ProgramFault) (ending : Ending) → PrintsFailure PrintsFault old new why ending
    → HasRunOf setting bytes ending None
none_ran setting bytes old new PrintsFault why ending printed =
    ran_printed setting bytes old new (record { text = printed.0; ending = Failed why }) ending None printed.1.1
    (λ done. let no : Failed why ≡ Done = done in cc)

-- what a command prints is what it writes, unless a write failed
pub writes_text : (prints : Ending → List ℕ → Type 0) (old new : Option (List ℕ)) (text : List ℕ)
    (wished ending : Ending) → IsPrinted old new (record { text = text; ending = wished }) ending → prints wished text
    → Writes prints old new ending
writes_text prints old new text wished ending (inl failed) is = inl failed
writes_text prints old new text wished ending (inr written) is =
    inr (text, (written.1, subst (λ (e : Ending). prints e text) (sym written.0) is))

-- so is the line of a command that failed
pub writes_failure : (prints : Ending → List ℕ → Type 0) (PrintsFault : List ℕ → Ending → List ℕ → Type 0)
    (old new : Option (List ℕ)) (why : ProgramFault) (ending : Ending) → PrintsFailure PrintsFault old new why ending
    → ((line : List ℕ) → PrintsFault [] (Failed why) line → prints (Failed why) line) → Writes prints old new ending
writes_failure prints PrintsFault old new why ending (line, (stated, printed)) fails =
    writes_text prints old new line (Failed why) ending printed (fails line stated)
