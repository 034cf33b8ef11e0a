-- What a command writes of what it makes of its input.
use Rattle.cdc_commands.proofs.Terms.{Act, BadScript, BadSteps, BadWords, Done, Err, Failed, IfErr, IfOk, IfSome, IsGoodScript, IsParsedAs, IsPrinted, IsReadFault, IsSimulationFault, IsSomeAnd, IsWriteFault, List, MayFailScript, None, Ok, Option, Outcome, Output, Plan, PrintsAtWord, PrintsFailure, PrintsNone, PrintsPlan, PrintsScript, Refused, ReportsPlan, Result, Script, ScriptFault, SimulationInput, Some, StepError, Writes, [], acts_of, bytes_at, ending_of, inl, inr, of_acts, of_files, outcome_of, refusal_ending, script_of, subst, sym, ℕ, ◌∙◌, ◌≡◌}
use Rattle.cdc_script.specs.declared.faults.Span.{Span}
use Rattle.cdc_commands.specs.declared.book_reports.ParsedBatches.{ParsedBatches}
use Rattle.cdc_commands.specs.declared.books.BooksOutput.{BooksOutput}
use Rattle.cdc_commands.specs.declared.endings.Ending.{Ending}
use Rattle.cdc_output.specs.declared.faults.ProgramFault.{ProgramFault}
use Rattle.cdc_output.specs.declared.faults.ProgramFault.TheVariants as fault
use Rattle.cdc_commands.specs.BookReports.{AreBatchesOf, AreParsedFrom}
use Rattle.cdc_commands.specs.Checked.{IsGoodStepFile, ValidatesFiles}
use Rattle.cdc_commands.specs.QueuePrinted.{AnswersQueue, PrintsQueue}

-- a command writes what it made of its input, or why it made nothing
pub writes_made : (prints : Ending → List ℕ → Type 0) (PrintsFault : List ℕ → Ending → List ℕ → Type 0)
    (old new : Option (List ℕ)) (made : Result Output ProgramFault) (ending : Ending)
    → IfOk made (λ output. IsPrinted old new (outcome_of output) ending)
    → IfErr made (λ why. PrintsFailure PrintsFault old new why ending)
    → IfOk made (λ output. prints output.ending output.text.items)
    → IfErr made (λ why. (line : List ℕ) → PrintsFault [] (Failed why) line → prints (Failed why) line)
    → Writes prints old new ending
writes_made prints PrintsFault old new (Ok output) ending (inl failed) fault is fails = inl failed
writes_made prints PrintsFault old new (Ok output) ending (inr text) fault is fails =
    inr (output.text.items, (text.1, subst (λ (e : Ending). prints e output.text.items) (sym text.0) is))
writes_made prints PrintsFault old new (Err why) ending text (line, (stated, inl failed)) is fails = inl failed
writes_made prints PrintsFault old new (Err why) ending text (line, (stated, inr fault)) is fails =
    inr (
      line,
      (fault.1, subst (λ (e : Ending). prints e line) (sym fault.0) (fails line stated)),
    )

-- a failed write is no failed read
write_no_read : (ending : Ending) → IsWriteFault ending → IsReadFault ending → ⊥
write_no_read (Failed (fault.WriteFault why)) wrote read = read
write_no_read (Failed (fault.ReadFault why)) wrote read = wrote
write_no_read (Failed (fault.Store why)) wrote read = wrote
write_no_read (Failed fault.OutOfMemory) wrote read = wrote
write_no_read (Failed fault.PeerGone) wrote read = wrote
write_no_read (Failed fault.SessionsExhausted) wrote read = wrote
write_no_read (Failed fault.StartNotAllowed) wrote read = wrote
write_no_read (Failed fault.NotOneSystem) wrote read = wrote
write_no_read Done wrote read = wrote
write_no_read (Refused why) wrote read = wrote
write_no_read (BadScript at) wrote read = wrote
write_no_read (BadSteps at) wrote read = wrote
write_no_read BadWords wrote read = wrote

-- what is printed ends as a failed read only if a read failed before
printed_read : (old new : Option (List ℕ)) (wished : Outcome) (ending : Ending)
    → IsPrinted old new wished ending → IsReadFault ending → IsReadFault wished.ending
printed_read old new wished ending (inl failed) read = absurd (write_no_read ending failed read)
printed_read old new wished ending (inr written) read = subst IsReadFault written.0 read

-- so does a command that prints what it made of its input, or why it made nothing
pub read_before : (PrintsFault : List ℕ → Ending → List ℕ → Type 0) (old new : Option (List ℕ))
    (made : Result Output ProgramFault) (ending : Ending)
    → IfOk made (λ output. IsPrinted old new (outcome_of output) ending)
    → IfErr made (λ why. PrintsFailure PrintsFault old new why ending)
    → IsReadFault ending → IsReadFault (ending_of made)
read_before PrintsFault old new (Ok output) ending text fault read =
    printed_read old new (outcome_of output) ending text read
read_before PrintsFault old new (Err why) ending text (line, (stated, printed)) read =
    printed_read old new (record { text = line; ending = Failed why }) ending printed read

-- the batches of the script stay those of the text once the output is printed
pub parsed_printed : (bytes old new : Option (List ℕ)) (wished : Outcome) (ending : Ending)
    (parsed : Option ParsedBatches)
    → IsPrinted old new wished ending → AreParsedFrom bytes wished.ending parsed → AreParsedFrom bytes ending parsed
parsed_printed bytes old new wished ending (Some parsed) printed are = are
parsed_printed bytes old new wished ending None (inl failed) none = λ done. subst IsWriteFault done failed
parsed_printed bytes old new wished ending None (inr written) none = λ done. none (sym written.0 ∙ done)

-- a command that failed has none
pub none_parsed : (bytes old new : Option (List ℕ)) (PrintsFault : List ℕ → Ending → List ℕ → Type 0)
    (why : ProgramFault) (ending : Ending) → PrintsFailure PrintsFault old new why ending
    → AreParsedFrom bytes ending None
none_parsed bytes old new PrintsFault why ending printed =
    parsed_printed bytes old new (record { text = printed.0; ending = Failed why }) ending None printed.1.1
    (λ done. let no : Failed why ≡ Done = done in cc)

-- the batches of a script that was read are those of the text
pub parsed_of_script : {E : Type 0} (bytes : List ℕ) (script : Script) (made : Result BooksOutput E)
    → script_of bytes ≡ Ok script → IfOk made (λ x. IsSomeAnd x.parsed (AreBatchesOf script))
    → IfOk made (λ x. AreParsedFrom (Some bytes) x.output.ending x.parsed)
parsed_of_script bytes script (Ok x) reads are = go x.parsed are
  where
    go : (parsed : Option ParsedBatches) → IsSomeAnd parsed (AreBatchesOf script)
        → AreParsedFrom (Some bytes) x.output.ending parsed
    go None is = absurd is
    go (Some parsed) is = (script, (reads, is))
parsed_of_script bytes script (Err why) reads are = tt

-- what fails because memory ran out fails as a command that reads may
pub may_fail : (why : ProgramFault) → IsSimulationFault why → MayFailScript why
may_fail (fault.ReadFault why) is = absurd is
may_fail (fault.WriteFault why) is = absurd is
may_fail (fault.Store why) is = absurd is
may_fail fault.OutOfMemory is = tt
may_fail fault.PeerGone is = absurd is
may_fail fault.SessionsExhausted is = absurd is
may_fail fault.StartNotAllowed is = absurd is
may_fail fault.NotOneSystem is = absurd is

-- for whatever is printed of words
module _ (Prints : List ℕ → List ℕ → Type 0) where
  -- what is printed for a word is printed if the file isn't known
  at_some_word : (file : Option (List ℕ)) (span : Span) (printed : List ℕ)
      → PrintsAtWord Prints file span printed → PrintsAtWord Prints None span printed
  at_some_word None span printed prints = prints
  at_some_word (Some bytes) span printed prints = (bytes_at bytes span, prints)

  -- what is printed for the word of a text is printed for that of all its bytes
  pub at_same_word : {A : Type 0} (parse : List ℕ → Result A ScriptFault) (text : List ℕ) (bytes : Option (List ℕ))
      (at : ScriptFault) (printed : List ℕ) → IfSome bytes (IsParsedAs parse text) → parse text ≡ Err at
      → PrintsAtWord Prints (Some text) at.word printed → PrintsAtWord Prints bytes at.word printed
  at_same_word parse text None at printed same bad prints = (bytes_at text at.word, prints)
  at_same_word parse text (Some all) at printed same bad prints =
      subst (λ (word : List ℕ). Prints word printed) (same.1 at bad) prints

-- a text of which nothing is known, or which is parsed so, is parsed as this
pub same_parsed : {A : Type 0} (parse : List ℕ → Result A ScriptFault) (text : List ℕ) (bytes : Option (List ℕ))
    (parsed : Result A ScriptFault) → IfSome bytes (IsParsedAs parse text) → parse text ≡ parsed
    → IfSome bytes (λ all. parse all ≡ parsed)
same_parsed parse text None parsed same is = tt
same_parsed parse text (Some all) parsed same is = sym same.0 ∙ is

-- what is printed for a text of a script is printed for all its bytes
pub printed_of_script : (Prints : Script → List ℕ → Type 0) (PrintsFault : List ℕ → Ending → List ℕ → Type 0)
    (text : List ℕ) (bytes : Option (List ℕ)) (ending : Ending) (printed : List ℕ)
    → IfSome bytes (IsParsedAs script_of text)
    → PrintsScript Prints PrintsFault (Some text) ending printed → PrintsScript Prints PrintsFault bytes ending printed
printed_of_script Prints PrintsFault text None Done printed same prints = tt
printed_of_script Prints PrintsFault text (Some all) Done printed same prints =
    (prints.0, (sym same.0 ∙ prints.1.0, prints.1.1))
printed_of_script Prints PrintsFault text bytes (BadScript at) printed same prints = (
  at_same_word (λ word. PrintsFault word (BadScript at)) script_of text bytes at printed same prints.1 prints.0,
  same_parsed script_of text bytes (Err at) same prints.1,
)
printed_of_script Prints PrintsFault text bytes (Failed why) printed same prints = prints
printed_of_script Prints PrintsFault text bytes (Refused why) printed same prints = absurd prints
printed_of_script Prints PrintsFault text bytes (BadSteps at) printed same prints = absurd prints
printed_of_script Prints PrintsFault text bytes BadWords printed same prints = absurd prints

-- a good script is good in all its bytes
pub good_script : (text : List ℕ) (bytes : Option (List ℕ)) (script : Script) → IfSome bytes (IsParsedAs script_of text)
    → script_of text ≡ Ok script → IfSome bytes IsGoodScript
good_script text None script same good = tt
good_script text (Some all) script same good = (script, sym same.0 ∙ good)

-- so is a good step file
pub good_steps : (text : List ℕ) (bytes : Option (List ℕ)) (acts : List Act) → IfSome bytes (IsParsedAs acts_of text)
    → acts_of text ≡ Ok acts → IfSome bytes IsGoodStepFile
good_steps text None acts same good = tt
good_steps text (Some all) acts same good = (acts, sym same.0 ∙ good)

-- for whatever is printed of faults
module _ (PrintsFault : List ℕ → Ending → List ℕ → Type 0) where
  -- the fault of a text of a script is that of all its bytes
  pub bad_script : (text : List ℕ) (script steps : Option (List ℕ)) (at : ScriptFault) (printed : List ℕ)
      → IfSome script (IsParsedAs script_of text) → script_of text ≡ Err at
      → PrintsFault (bytes_at text at.word) (BadScript at) printed
      → ValidatesFiles PrintsFault script steps (BadScript at) printed
  bad_script text script steps at printed same bad prints = (
    at_same_word (λ word. PrintsFault word (BadScript at)) script_of text script at printed same bad prints,
    same_parsed script_of text script (Err at) same bad,
  )

  -- the same of a step file, after a good script
  pub bad_steps : (text : List ℕ) (script steps : Option (List ℕ)) (at : ScriptFault) (printed : List ℕ)
      → IfSome script IsGoodScript → IfSome steps (IsParsedAs acts_of text) → acts_of text ≡ Err at
      → PrintsFault (bytes_at text at.word) (BadSteps at) printed
      → ValidatesFiles PrintsFault script steps (BadSteps at) printed
  bad_steps text script steps at printed good same bad prints = (
    at_same_word (λ word. PrintsFault word (BadSteps at)) acts_of text steps at printed same bad prints,
    (good, same_parsed acts_of text steps (Err at) same bad),
  )

-- the same of a queue
queue_of_script : (number : ℕ) (text : List ℕ) (bytes : Option (List ℕ)) (ending : Ending) (printed : List ℕ)
    → IfSome bytes (IsParsedAs script_of text)
    → (stated : Script) × ((script_of text ≡ Ok stated) × AnswersQueue stated number ending printed)
    → IfSome bytes (λ all. (stated : Script)
    × ((script_of all ≡ Ok stated) × AnswersQueue stated number ending printed))
queue_of_script number text None ending printed same prints = tt
queue_of_script number text (Some all) ending printed same prints =
    (prints.0, (sym same.0 ∙ prints.1.0, prints.1.1))

pub printed_of_queue : (PrintsFault : List ℕ → Ending → List ℕ → Type 0) (number : ℕ) (text : List ℕ)
    (bytes : Option (List ℕ)) (ending : Ending) (printed : List ℕ) → IfSome bytes (IsParsedAs script_of text)
    → PrintsQueue PrintsFault number (Some text) ending printed → PrintsQueue PrintsFault number bytes ending printed
printed_of_queue PrintsFault number text bytes (BadScript at) printed same prints = (
  at_same_word (λ word. PrintsFault word (BadScript at)) script_of text bytes at printed same prints.1 prints.0,
  same_parsed script_of text bytes (Err at) same prints.1,
)
printed_of_queue PrintsFault number text bytes (Failed why) printed same prints = prints
printed_of_queue PrintsFault number text bytes Done printed same prints =
    queue_of_script number text bytes Done printed same prints
printed_of_queue PrintsFault number text bytes (Refused why) printed same prints =
    queue_of_script number text bytes (Refused why) printed same prints
printed_of_queue PrintsFault number text bytes (BadSteps at) printed same prints =
    queue_of_script number text bytes (BadSteps at) printed same prints
printed_of_queue PrintsFault number text bytes BadWords printed same prints =
    queue_of_script number text bytes BadWords printed same prints

-- a plan that is parsed from the text of a script is parsed from all its bytes
plan_of_script : (Prints : Plan → List ℕ → Type 0) (window : ℕ) (script : List ℕ) (bytes : Option (List ℕ))
    (steps : Option (Result (List Act) ScriptFault)) (file : Option (List ℕ)) (printed : List ℕ)
    → IfSome bytes (IsParsedAs script_of script)
    → ReportsPlan Prints (record { window = window; script = Some script; steps = steps; step_file = file }) printed
    → ReportsPlan Prints (record { window = window; script = bytes; steps = steps; step_file = file }) printed
plan_of_script Prints window script bytes steps file printed same (plan, (states, prints)) = (
  plan,
  (
    record {
      window_is = states.window_is;
      script_stated = same_parsed script_of script bytes (Ok plan.script) same states.script_stated;
      steps_stated = states.steps_stated;
    },
    prints,
  ),
)

-- a plan whose steps are parsed so is one of steps of which nothing is known
plan_of_unknown : (Prints : Plan → List ℕ → Type 0) (window : ℕ) (script : Option (List ℕ))
    (steps : Result (List Act) ScriptFault) (file : Option (List ℕ)) (printed : List ℕ)
    → ReportsPlan Prints (record { window = window; script = script; steps = Some steps; step_file = file }) printed
    → ReportsPlan Prints (record { window = window; script = script; steps = None; step_file = None }) printed
plan_of_unknown Prints window script steps file printed (plan, (states, prints)) = (
  plan,
  (record { window_is = states.window_is; script_stated = states.script_stated; steps_stated = tt }, prints),
)

-- for whatever is printed of plans in whose script something is found, and of faults
module _ {X : Type 0} (ReportsOf : Plan → Option StepError → List ℕ → Type 0) (Finds : Script → Option X → Type 0)
    (ReportsFault : List ℕ → Ending → List ℕ → Type 0) where
  -- what is printed for a text of a script is printed for all its bytes
  of_script : (window : ℕ) (script : List ℕ) (bytes : Option (List ℕ)) (steps : Option (Result (List Act) ScriptFault))
      (file : Option (List ℕ)) (ending : Ending) (printed : List ℕ) → IfSome bytes (IsParsedAs script_of script)
      → PrintsPlan ReportsOf Finds ReportsFault
      (record { window = window; script = Some script; steps = steps; step_file = file }) ending printed
      → PrintsPlan ReportsOf Finds ReportsFault
      (record { window = window; script = bytes; steps = steps; step_file = file }) ending printed
  of_script window script bytes steps file Done printed same prints =
      plan_of_script (λ plan. ReportsOf plan None) window script bytes steps file printed same prints
  of_script window script bytes steps file (Refused why) printed same prints =
      plan_of_script (λ plan. ReportsOf plan (Some why)) window script bytes steps file printed same prints
  of_script window script bytes steps file BadWords printed same prints =
      plan_of_script (PrintsNone Finds) window script bytes steps file printed same prints
  of_script window script bytes steps file (BadScript at) printed same prints = (
    at_same_word (λ word. ReportsFault word (BadScript at)) script_of script bytes at printed same prints.1 prints.0,
    same_parsed script_of script bytes (Err at) same prints.1,
  )
  of_script window script None steps file (BadSteps at) printed same prints = (prints.0, (tt, prints.1.1))
  of_script window script (Some all) steps file (BadSteps at) printed same prints =
      (prints.0, ((prints.1.0.0, sym same.0 ∙ prints.1.0.1), prints.1.1))
  of_script window script bytes steps file (Failed why) printed same prints = prints

  -- what is printed for steps is printed if nothing is known of them
  of_unknown_steps : (window : ℕ) (script : Option (List ℕ)) (steps : Result (List Act) ScriptFault)
      (file : Option (List ℕ)) (ending : Ending) (printed : List ℕ)
      → PrintsPlan ReportsOf Finds ReportsFault
      (record { window = window; script = script; steps = Some steps; step_file = file }) ending printed
      → PrintsPlan ReportsOf Finds ReportsFault
      (record { window = window; script = script; steps = None; step_file = None }) ending printed
  of_unknown_steps window script steps file Done printed prints =
      plan_of_unknown (λ plan. ReportsOf plan None) window script steps file printed prints
  of_unknown_steps window script steps file (Refused why) printed prints =
      plan_of_unknown (λ plan. ReportsOf plan (Some why)) window script steps file printed prints
  of_unknown_steps window script steps file BadWords printed prints =
      plan_of_unknown (PrintsNone Finds) window script steps file printed prints
  of_unknown_steps window script steps file (BadScript at) printed prints = prints
  of_unknown_steps window script steps file (BadSteps at) printed prints = (
    at_some_word (λ word. ReportsFault word (BadSteps at)) file at.word printed prints.0,
    (prints.1.0, tt),
  )
  of_unknown_steps window script steps file (Failed why) printed prints = prints

  -- the same of the text of a step file
  of_file : (window : ℕ) (script : Option (List ℕ)) (text all : List ℕ) (ending : Ending) (printed : List ℕ)
      → IsParsedAs acts_of text all
      → PrintsPlan ReportsOf Finds ReportsFault
      (record { window = window; script = script; steps = Some (acts_of all); step_file = Some text }) ending printed
      → PrintsPlan ReportsOf Finds ReportsFault
      (record { window = window; script = script; steps = Some (acts_of all); step_file = Some all }) ending printed
  of_file window script text all (BadSteps at) printed same prints = (
    at_same_word (λ word. ReportsFault word (BadSteps at)) acts_of text (Some all) at printed same
        (same.0 ∙ prints.1.1) prints.0,
    prints.1,
  )
  of_file window script text all Done printed same prints = prints
  of_file window script text all (Refused why) printed same prints = prints
  of_file window script text all (BadScript at) printed same prints = prints
  of_file window script text all (Failed why) printed same prints = prints
  of_file window script text all BadWords printed same prints = prints

  -- what is printed for the acts of a text is printed for those of all its bytes
  of_steps : (window : ℕ) (script : Option (List ℕ)) (steps : List ℕ) (bytes : Option (List ℕ)) (ending : Ending)
      (printed : List ℕ) → IfSome bytes (IsParsedAs acts_of steps)
      → PrintsPlan ReportsOf Finds ReportsFault (of_files window script (Some steps)) ending printed
      → PrintsPlan ReportsOf Finds ReportsFault (of_files window script bytes) ending printed
  of_steps window script steps None ending printed same prints =
      of_unknown_steps window script (acts_of steps) (Some steps) ending printed prints
  of_steps window script steps (Some all) ending printed same prints =
      of_file window script steps all ending printed same
      (subst (λ (acts : Result (List Act) ScriptFault). PrintsPlan ReportsOf Finds ReportsFault
      (record { window = window; script = script; steps = Some acts; step_file = Some steps }) ending printed)
      same.0 prints)

  -- what is printed of a simulation with this ending is printed by the command
  pub prints_after : (input : SimulationInput) (refusal : Option StepError) (ending : Ending) (printed : List ℕ)
      → ending ≡ refusal_ending refusal → ReportsPlan (λ plan. ReportsOf plan refusal) input printed
      → PrintsPlan ReportsOf Finds ReportsFault input ending printed
  prints_after input None ending printed is prints =
      subst (λ (e : Ending). PrintsPlan ReportsOf Finds ReportsFault input e printed) (sym is) prints
  prints_after input (Some why) ending printed is prints =
      subst (λ (e : Ending). PrintsPlan ReportsOf Finds ReportsFault input e printed) (sym is) prints

  -- so is nothing, if what has to be found isn't in the script
  pub prints_none : (input : SimulationInput) (ending : Ending) (printed : List ℕ) → ending ≡ BadWords
      → ReportsPlan (PrintsNone Finds) input printed → PrintsPlan ReportsOf Finds ReportsFault input ending printed
  prints_none input ending printed is prints =
      subst (λ (e : Ending). PrintsPlan ReportsOf Finds ReportsFault input e printed) (sym is) prints

  -- what is printed for acts is printed for a file that has them
  in_file : (window : ℕ) (script : Option (List ℕ)) (acts : List Act) (file : Option (List ℕ)) (ending : Ending)
      (printed : List ℕ) → PrintsPlan ReportsOf Finds ReportsFault (of_acts window script acts) ending printed
      → PrintsPlan ReportsOf Finds ReportsFault
      (record { window = window; script = script; steps = Some (Ok acts); step_file = file }) ending printed
  in_file window script acts file (BadSteps at) printed prints =
      let no : Ok acts ≡ Err at = prints.1.1 in cc
  in_file window script acts file Done printed prints = prints
  in_file window script acts file (Refused why) printed prints = prints
  in_file window script acts file (BadScript at) printed prints = prints
  in_file window script acts file (Failed why) printed prints = prints
  in_file window script acts file BadWords printed prints = prints

  -- for whatever is printed of what a command made
  module _ (text_of : Output → List ℕ) where
    -- the same of what it made of the text of a script, which may be none
    pub made_of_script : (window : ℕ) (text script : List ℕ) (bytes : Option (List ℕ))
        (steps : Option (Result (List Act) ScriptFault)) (file : Option (List ℕ)) (made : Result Output ProgramFault)
        → text ≡ script → IfSome bytes (IsParsedAs script_of script)
        → IfOk made (λ o. PrintsPlan ReportsOf Finds ReportsFault
        (record { window = window; script = Some text; steps = steps; step_file = file }) o.ending (text_of o))
        → IfOk made (λ o. PrintsPlan ReportsOf Finds ReportsFault
        (record { window = window; script = bytes; steps = steps; step_file = file }) o.ending (text_of o))
    made_of_script window text script bytes steps file (Ok o) is same prints =
        of_script window script bytes steps file o.ending (text_of o) same
        (subst (λ (xs : List ℕ). PrintsPlan ReportsOf Finds ReportsFault
        (record { window = window; script = Some xs; steps = steps; step_file = file }) o.ending (text_of o)) is prints)
    made_of_script window text script bytes steps file (Err why) is same prints = tt

    -- the same of what it made of the text of steps
    pub made_of_steps : (window : ℕ) (script : Option (List ℕ)) (text steps : List ℕ) (bytes : Option (List ℕ))
        (made : Result Output ProgramFault) → text ≡ steps → IfSome bytes (IsParsedAs acts_of steps)
        → IfOk made (λ o. PrintsPlan ReportsOf Finds ReportsFault (of_files window script (Some text)) o.ending
        (text_of o))
        → IfOk made (λ o. PrintsPlan ReportsOf Finds ReportsFault (of_files window script bytes) o.ending (text_of o))
    made_of_steps window script text steps bytes (Ok o) is same prints =
        of_steps window script steps bytes o.ending (text_of o) same
        (subst (λ (xs : List ℕ). PrintsPlan ReportsOf Finds ReportsFault (of_files window script (Some xs)) o.ending
        (text_of o)) is prints)
    made_of_steps window script text steps bytes (Err why) is same prints = tt

    -- what is printed for the acts of a text without a fault is printed for the text
    pub made_of_acts : (window : ℕ) (script : Option (List ℕ)) (steps : List ℕ) (acts : List Act)
        (made : Result Output ProgramFault) → acts_of steps ≡ Ok acts
        → IfOk made (λ o. PrintsPlan ReportsOf Finds ReportsFault (of_acts window script acts) o.ending (text_of o))
        → IfOk made (λ o. PrintsPlan ReportsOf Finds ReportsFault (of_files window script (Some steps)) o.ending
        (text_of o))
    made_of_acts window script steps acts (Ok o) stated prints =
        subst (λ (parsed : Result (List Act) ScriptFault). PrintsPlan ReportsOf Finds ReportsFault
        (record { window = window; script = script; steps = Some parsed; step_file = Some steps }) o.ending
        (text_of o)) (sym stated) (in_file window script acts (Some steps) o.ending (text_of o) prints)
    made_of_acts window script steps acts (Err why) stated prints = tt

    -- a bad script is reported whatever the steps are
    pub made_of_bad_script : (window : ℕ) (script : List ℕ) (steps : Option (Result (List Act) ScriptFault))
        (file : Option (List ℕ)) (made : Result Output ProgramFault)
        → IfOk made (λ o. (at : ScriptFault) × ((o.ending ≡ BadScript at) × ((script_of script ≡ Err at)
        × ReportsFault (bytes_at script at.word) (BadScript at) (text_of o))))
        → IfOk made (λ o. PrintsPlan ReportsOf Finds ReportsFault
        (record { window = window; script = Some script; steps = steps; step_file = file }) o.ending (text_of o))
    made_of_bad_script window script steps file (Ok o) (at, (is, (bad, line))) =
        subst (λ (e : Ending). PrintsPlan ReportsOf Finds ReportsFault
        (record { window = window; script = Some script; steps = steps; step_file = file }) e (text_of o)) (sym is)
        (line, bad)
    made_of_bad_script window script steps file (Err why) bad = tt
