-- What one line makes of a chain.
use Rattle.std.proofs.Common.{◌≡◌, ◌≢◌, inl, inr, ℕ, ◌+◌, List, [], ◌∷◌, ◌++◌, Bool, true, false, cond, Some, None, Option}
use Rattle.std.proofs.Common.{Result, Ok, Err, refl, sym, ap, ◌∙◌, subst, append_assoc, append-nil}
use Rattle.std.specs.Prelude.{IfOk, IfSome}
use Rattle.cdc_match.specs.Arguments.{Arguments}
use Rattle.cdc_types.specs.declared.events.Event.{Event}
use Rattle.cdc_follow.specs.declared.entries.Content.{Content}
use Rattle.cdc_follow.specs.declared.entries.Entry.{Entry}
use Rattle.cdc_follow.specs.declared.errors.LineError.{LineError}
use Rattle.cdc_follow.specs.declared.errors.LineError.TheVariants.{OutOfMemory, TooLong}
use Rattle.cdc_follow.specs.declared.streams.FollowError.{FollowError}
use Rattle.cdc_follow.specs.Entries.{line_entry}
use Rattle.cdc_follow.specs.LineErrors.{GivesUnlessMemory}
use Rattle.cdc_follow.specs.Lines.{FirstLineIsLong, TakesLine, lines_of}
use Rattle.cdc_follow.proofs.LineLemmas.{lines_of-none}
use Rattle.cdc_follow.proofs.StopLemmas.{gives_err, gives_ok, long_entry}
use Rattle.cdc_chain.specs.declared.chain.Chaining.{Chaining}
use Rattle.cdc_chain.specs.declared.chain.Chaining.TheVariants as chaining
use Rattle.cdc_chain.specs.declared.streams.ChainStop.{ChainStop}
use Rattle.cdc_chain.specs.declared.streams.ChainStop.TheVariants as stop
use Rattle.cdc_chain.specs.Chains.{ChainState, Chained, Made, chain, chain_entry, chain_read, made_first, made_of}
use Rattle.cdc_chain.specs.Chains.{made_by, next_chain, nothing, outcome_of, state_by, stop_by, stopped, stops_at}
use Rattle.cdc_chain.specs.Lines.{QueueLine, lines_text}
use Rattle.cdc_chain.specs.Private.Steps.{GoesOn, LineMakes, StepMakes}

-- the chain of no lines
pub chain_none : (bindings : List Arguments) (state : ChainState) (number : ℕ)
    → chain bindings state number [] ≡ stopped state stop.AtEnd
unfolding chain
chain_none bindings state number = refl

-- the chain of lines by what is read of the first one
pub chain_first : (bindings : List Arguments) (state : ChainState) (number : ℕ) (line : List ℕ) (rest : List (List ℕ))
    (read : Result (Option Entry) LineError) → line_entry false line ≡ read
    → chain bindings state number (line ∷ rest)
    ≡ chain_read bindings state number read (λ after. chain bindings after (number + 1) rest)
unfolding chain
chain_first bindings state number line rest read is =
    ap (λ read. chain_read bindings state number read (λ after. chain bindings after (number + 1) rest)) is

-- an entry at which chaining stops, and one after which it goes on
pub entry_by : (bindings : List Arguments) (state : ChainState) (number : ℕ) (content : Content)
    (later : ChainState → Chained) (stops : Bool) → stops_at (outcome_of state content) ≡ stops
    → chain_entry bindings state number content later
    ≡ cond stops (stopped state (stop_by (outcome_of state content) number))
    (made_first (made_of bindings state content) (later (next_chain bindings state content)))
entry_by bindings state number content later stops is =
    ap (λ b. cond b (stopped state (stop_by (outcome_of state content) number))
    (made_first (made_of bindings state content) (later (next_chain bindings state content)))) is

-- an entry at which chaining stops changes nothing, and makes nothing
stop_keeps : (bindings : List Arguments) (state : ChainState) (made : Chaining) (content : Content)
    → stops_at made ≡ true → state_by made bindings state content ≡ state
stop_keeps bindings state chaining.Taken content is = cc
stop_keeps bindings state chaining.Duplicate content is = cc
stop_keeps bindings state chaining.Ended content is = cc
stop_keeps bindings state chaining.AfterEnd content is = refl
stop_keeps bindings state chaining.OutOfRange content is = refl

stop_makes : (bindings : List Arguments) (state : ChainState) (made : Chaining) (content : Content)
    → stops_at made ≡ true → (made_by made bindings state content).lines ≡ []
stop_makes bindings state chaining.Taken content is = cc
stop_makes bindings state chaining.Duplicate content is = cc
stop_makes bindings state chaining.Ended content is = cc
stop_makes bindings state chaining.AfterEnd content is = refl
stop_makes bindings state chaining.OutOfRange content is = refl

-- ---- a line, by what reading it gave and by what became of its entry

module _ (bindings : List Arguments) (number : ℕ) (line : List ℕ) (old : ChainState) (before : List ℕ) where
  -- nothing was made before
  made_nothing : (later : Chained) → made_first nothing later ≡ later
  made_nothing later = refl

  pub makes_when_none : (read : Option Entry) → GivesUnlessMemory (Ok read) (line_entry false line) → read ≡ None
      → LineMakes bindings number line old None old before before
  makes_when_none read gives is = record {
    made = nothing;
    leads = λ rest. chain_first bindings old number line rest (Ok None)
        (gives_ok read (line_entry false line) gives
        ∙ ap (λ (read : Option Entry). let answer : Result (Option Entry) LineError = Ok read in answer) is);
    text = sym (append-nil before);
  }

  pub makes_when_bad : (error : LineError) → GivesUnlessMemory (Err error) (line_entry false line)
      → (answer : Result (Option ChainStop) FollowError)
      → IfOk answer (λ made. (made ≡ Some (stop.BadLine number error)) × (error ≢ OutOfMemory))
      → IfOk answer (λ made. LineMakes bindings number line old made old before before)
  makes_when_bad error gives (Ok made) is =
      subst (λ made. LineMakes bindings number line old made old before before) (sym is.0) (
        λ rest. chain_first bindings old number line rest (Err error)
            (gives_err error (line_entry false line) gives is.1),
        refl,
      )
  makes_when_bad error gives (Err failed) is = tt

  -- what the line has
  entry_read : (read : Option Entry) (entry : Entry) → GivesUnlessMemory (Ok read) (line_entry false line)
      → read ≡ Some entry → line_entry false line ≡ Ok (Some entry)
  entry_read read entry gives is =
      gives_ok read (line_entry false line) gives
      ∙ ap (λ (read : Option Entry). let answer : Result (Option Entry) LineError = Ok read in answer) is

  no_lines : (after : List ℕ) (lines : List QueueLine) → after ≡ before ++ lines_text lines → lines ≡ []
      → after ≡ before
  no_lines after lines adds none = adds ∙ ap (λ lines. before ++ lines_text lines) none ∙ append-nil before

  pub makes_when_on : (read : Option Entry) (entry : Entry) (made : Chaining) (new : ChainState) (after : List ℕ)
      → GivesUnlessMemory (Ok read) (line_entry false line) → read ≡ Some entry
      → made ≡ outcome_of old entry.content → new ≡ next_chain bindings old entry.content
      → after ≡ before ++ lines_text (made_of bindings old entry.content).lines
      → false ≡ stops_at made
      → LineMakes bindings number line old None new before after
  makes_when_on read entry made new after gives is becomes next adds goes =
      subst (λ state. LineMakes bindings number line old None state before after) (sym next) (record {
        made = made_of bindings old entry.content;
        leads = λ rest. chain_first bindings old number line rest (Ok (Some entry)) (entry_read read entry gives is)
            ∙ entry_by bindings old number entry.content (λ after. chain bindings after (number + 1) rest) false
            (sym (goes ∙ ap stops_at becomes));
        text = adds;
      })

  pub makes_when_stop : (read : Option Entry) (entry : Entry) (made : Chaining) (new : ChainState) (why : ChainStop)
      (after : List ℕ) → GivesUnlessMemory (Ok read) (line_entry false line) → read ≡ Some entry
      → made ≡ outcome_of old entry.content → new ≡ next_chain bindings old entry.content
      → after ≡ before ++ lines_text (made_of bindings old entry.content).lines
      → true ≡ stops_at made → why ≡ stop_by made number
      → LineMakes bindings number line old (Some why) new before after
  makes_when_stop read entry made new why after gives is becomes next adds stops reason =
      let at : stops_at (outcome_of old entry.content) ≡ true = sym (stops ∙ ap stops_at becomes) in (
        λ rest. chain_first bindings old number line rest (Ok (Some entry)) (entry_read read entry gives is)
            ∙ entry_by bindings old number entry.content (λ after. chain bindings after (number + 1) rest) true at
            ∙ ap (λ state. stopped state (stop_by (outcome_of old entry.content) number))
            (sym (next ∙ stop_keeps bindings old (outcome_of old entry.content) entry.content at))
            ∙ ap (stopped new) (sym (reason ∙ ap (λ made. stop_by made number) becomes)),
        no_lines after (made_of bindings old entry.content).lines adds
            (stop_makes bindings old (outcome_of old entry.content) entry.content at),
      )

-- ---- the first line of bytes

module _ (bindings : List Arguments) (number : ℕ) (old : ChainState) (before : List ℕ) where
  -- a line was read
  pub step_taken : (new : ChainState) (after : List ℕ) (known left : Option (List ℕ)) (line : List ℕ) (more : Bool)
      (answer : Result (Option ChainStop) FollowError) → more ≡ true
      → IfSome known (λ bytes. TakesLine more bytes line left)
      → IfOk answer (λ made. LineMakes bindings number line old made new before after)
      → IfOk answer (λ made. IfSome known (λ bytes. StepMakes bindings number old bytes made new left before after))
  step_taken new after known left line more (Err error) is takes makes = tt
  step_taken new after None left line more (Ok made) is takes makes = tt
  step_taken new after (Some bytes) left line more (Ok made) is takes makes =
      by_stop made (subst (λ more. TakesLine more bytes line left) is takes) makes
    where
      by_stop : (made : Option ChainStop) → TakesLine true bytes line left
          → LineMakes bindings number line old made new before after
          → StepMakes bindings number old bytes made new left before after
      by_stop None taken makes = (line, taken.0, taken.1, taken.2, makes)
      by_stop (Some why) taken makes =
          (ap (chain bindings old number) taken.2 ∙ makes.0 (lines_of taken.0), makes.1)

  -- no line is left
  pub step_none : (known left : Option (List ℕ)) (line : List ℕ) (more : Bool) → more ≡ false
      → IfSome known (λ bytes. TakesLine more bytes line left)
      → IfSome known (λ bytes. StepMakes bindings number old bytes (Some stop.AtEnd) old left before before)
  step_none None left line more is takes = tt
  step_none (Some bytes) left line more is takes =
      let none : bytes ≡ [] = subst (λ more. TakesLine more bytes line left) is takes in (
        ap (λ bytes. chain bindings old number (lines_of bytes)) none
            ∙ ap (chain bindings old number) lines_of-none ∙ chain_none bindings old number,
        refl,
      )

  -- the line has too many bytes
  pub step_long : (known left : Option (List ℕ)) → IfSome known FirstLineIsLong
      → IfSome known (λ bytes. StepMakes bindings number old bytes (Some (stop.BadLine number TooLong)) old left before
      before)
  step_long None left long = tt
  step_long (Some bytes) left long = (
    ap (chain bindings old number) long.2
        ∙ chain_first bindings old number long.0 long.1 (Err TooLong) (long_entry false long.0 long.3),
    refl,
  )
