-- What is printed so far of a stream that is checked, line by line.
use Rattle.std.proofs.Common.{◌≡◌, ℕ, ◌+◌, List, [], ◌++◌, take, drop, append_assoc, Bool, true}
use Rattle.std.proofs.Common.{Option, None, Some, refl, sym, ap, ◌∙◌, subst}
use Rattle.std.specs.Prelude.{IfSome, IsSome, is_some}
use Rattle.std.specs.Io.KnownBytes.{Appends}
use Rattle.std.proofs.KnownBytes.{Appends-trans}
use Rattle.std.proofs.lemmas.List.{take-append-drop}
use Rattle.cdc_match.specs.Arguments.{Arguments}
use Rattle.cdc_output.specs.declared.faults.ProgramFault.{ProgramFault}
use Rattle.cdc_follow.specs.declared.streams.Taken.{Taken}
use Rattle.cdc_audit.specs.declared.refusals.Refusal.{Refusal}
use Rattle.cdc_checked_follow.specs.declared.streams.CheckStop.{CheckStop}
use Rattle.cdc_checked_follow.specs.declared.turns.CheckTurn.{CheckTurn}
use Rattle.cdc_checked_follow.specs.declared.turns.CheckTurn.TheVariants.{GoesOn, Stops}
use Rattle.cdc_checked_follow.specs.Checking.{CheckedState}
use Rattle.cdc_checked_follow.specs.Standing.{CheckedFollowerState, StandsFor}
use Rattle.cdc_checked_follow.specs.Streams.{StepLeadsTo}
use Rattle.cdc_checked_follow.specs.Turns.{StepTurns, stop_of}
use Rattle.cdc_checked_follow.proofs.StreamLemmas.{Goes}
use Rattle.cdc_streams.specs.Saving.{IfStopped, PrintsFault, is_write_fault}
use Rattle.cdc_streams.specs.declared.endings.StreamEnding.{StreamEnding}
use Rattle.cdc_streams.specs.declared.endings.StreamEnding.TheVariants.{Failed}
use Rattle.cdc_streams.proofs.SavingLemmas.{appends_nothing}
use Rattle.cdc_expect.specs.Checked.{checked_text, kept_by, lines_text, turn_text}
use Rattle.cdc_expect.specs.Printing.{PrintsExpected, PrintsFirst}
use Rattle.cdc_expect.proofs.CheckedTextLemmas.{text_begins, text_on, text_stop}
use Rattle.cdc_expect.proofs.PrintLemmas.{command_fails, first_after, first_none, first_part}

module _ (binding : Arguments) (skips : Bool) where
  -- ---- one line

  -- whatever a follower stood for, the first bytes of the text of all lines from this one on were printed
  abbrev pub FailsFrom : CheckedFollowerState → ℕ → Option (List ℕ) → ProgramFault → Option (List ℕ)
      → Option (List ℕ) → Type 0
  FailsFrom old number known why before after = IfSome known (λ bytes. (state : CheckedState)
      → StandsFor binding old state → PrintsFirst why (lines_text binding skips state number bytes) before after)

  pub none_printed : (old : CheckedFollowerState) (number : ℕ) (known : Option (List ℕ)) (why : ProgramFault)
      (now : Option (List ℕ)) → FailsFrom old number known why now now
  none_printed old number None why now = tt
  none_printed old number (Some bytes) why now = λ state stands.
      first_none why (lines_text binding skips state number bytes) now

  -- the first bytes of a line's text are the first ones of that of all lines from it on
  pub line_fails : (old new : CheckedFollowerState) (number : ℕ) (turn : CheckTurn) (why : ProgramFault)
      (known left before after : Option (List ℕ))
      → IfSome known (λ bytes. StepLeadsTo binding skips number old bytes (stop_of turn) new left)
      → IfSome known (λ bytes. StepTurns binding skips number old bytes turn)
      → (IsSome (stop_of turn) → new ≡ old) → PrintsFirst why (turn_text number turn (kept_by new)) before after
      → FailsFrom old number known why before after
  line_fails old new number turn why None left before after step turns stays prints = tt
  line_fails old new number turn why (Some bytes) left before after step turns stays prints = λ state stands.
      let text = turn_text number turn (kept_by new) in
      let n = prints.0 in
      let begins = text_begins binding skips number old state stands new bytes turn left step turns stays in
      first_part why (is_write_fault why) (take n text) (drop n text ++ begins.0)
      (lines_text binding skips state number bytes) before after
      (begins.1 ∙ ap (λ (all : List ℕ). all ++ begins.0) (sym (take-append-drop n text))
      ∙ append_assoc (take n text) (drop n text) begins.0) prints.1

  -- ---- the lines so far

  -- the text of the lines before this one was printed
  pub record PrintedTo (start : CheckedState) (bytes : List ℕ) (follower : CheckedFollowerState) (number : ℕ)
      (rest : List ℕ) (before now : Option (List ℕ)) : Type 0 where
    pub next : CheckedState
    pub stands : StandsFor binding follower next
    pub done : List ℕ
    pub prints : Appends before now done
    pub text : checked_text binding skips start bytes ≡ done ++ lines_text binding skips next number rest

  abbrev pub HasPrinted : CheckedFollowerState → Option (List ℕ) → CheckedFollowerState → ℕ → Option (List ℕ)
      → Option (List ℕ) → Option (List ℕ) → Type 0
  HasPrinted start known follower number left before now = IfSome known (λ bytes. IfSome left (λ rest.
      (state : CheckedState) → StandsFor binding start state → PrintedTo state bytes follower number rest before now))

  -- what holds before a line
  pub record SoFar (start : CheckedFollowerState) (known : Option (List ℕ)) (follower : CheckedFollowerState)
      (number : ℕ) (left before now : Option (List ℕ)) : Type 0 where
    pub goes : Goes binding skips start known follower number left
    pub printed : HasPrinted start known follower number left before now

  pub printed_begins : (start : CheckedFollowerState) (known before : Option (List ℕ))
      → HasPrinted start known start 1 known before before
  printed_begins start None before = tt
  printed_begins start (Some bytes) before = λ state stands. record {
    next = state;
    stands = stands;
    done = [];
    prints = appends_nothing before;
    text = refl;
  }

  printed_line : (start : CheckedState) (bytes : List ℕ) (old new : CheckedFollowerState) (number : ℕ)
      (made : Taken) (why : Option Refusal) (mid : List ℕ) (left before now after : Option (List ℕ))
      → PrintedTo start bytes old number mid before now
      → (step : StepLeadsTo binding skips number old mid None new left)
      → StepTurns binding skips number old mid (GoesOn made why)
      → Appends now after (turn_text number (GoesOn made why) (kept_by new))
      → PrintedTo start bytes new (number + 1) step.1 before after
  printed_line start bytes old new number made why mid left before now after has step turns adds =
      let on = text_on binding skips number old has.next has.stands new mid step.0 step.1 made why step.3 step.4 turns in
      let text = turn_text number (GoesOn made why) (kept_by new) in
      let later = lines_text binding skips on.next (number + 1) step.1 in
      record {
        next = on.next;
        stands = on.stands_then;
        done = has.done ++ text;
        prints = Appends-trans before now after has.done text has.prints adds;
        text = has.text ∙ ap (λ (l : List ℕ). has.done ++ l) on.text ∙ sym (append_assoc has.done text later);
      }

  printed_more : (start old new : CheckedFollowerState) (number : ℕ) (made : Taken) (why : Option Refusal)
      (known mid left before now after : Option (List ℕ)) → Goes binding skips start known old number mid
      → HasPrinted start known old number mid before now
      → IfSome mid (λ bytes. StepLeadsTo binding skips number old bytes None new left)
      → IfSome mid (λ bytes. StepTurns binding skips number old bytes (GoesOn made why))
      → Appends now after (turn_text number (GoesOn made why) (kept_by new))
      → HasPrinted start known new (number + 1) left before after
  printed_more start old new number made why None mid left before now after goes has step turns adds = tt
  printed_more start old new number made why (Some bytes) None left before now after goes has step turns adds =
      absurd goes
  printed_more start old new number made why (Some bytes) (Some mid) left before now after goes has step turns adds =
      subst (λ (it : Option (List ℕ)). HasPrinted start (Some bytes) new (number + 1) it before after) (sym step.2)
      (λ state stands. printed_line state bytes old new number made why mid left before now after (has state stands)
      step turns adds)

  pub printed_on : (start old new : CheckedFollowerState) (number : ℕ) (turn : CheckTurn) (made : Taken)
      (why : Option Refusal) (known mid left before now after : Option (List ℕ)) → turn ≡ GoesOn made why
      → SoFar start known old number mid before now
      → IfSome mid (λ bytes. StepLeadsTo binding skips number old bytes (stop_of turn) new left)
      → IfSome mid (λ bytes. StepTurns binding skips number old bytes turn)
      → Appends now after (turn_text number turn (kept_by new))
      → HasPrinted start known new (number + 1) left before after
  printed_on start old new number turn made why known mid left before now after is so_far step turns adds =
      printed_more start old new number made why known mid left before now after so_far.goes so_far.printed
      (subst (λ (it : CheckTurn). IfSome mid (λ bytes. StepLeadsTo binding skips number old bytes (stop_of it) new left))
      is step)
      (subst (λ (it : CheckTurn). IfSome mid (λ bytes. StepTurns binding skips number old bytes it)) is turns)
      (subst (λ (it : CheckTurn). Appends now after (turn_text number it (kept_by new))) is adds)

  -- following stops
  pub printed_stops : (start old new : CheckedFollowerState) (number : ℕ) (turn : CheckTurn) (stop : CheckStop)
      (known mid before now after : Option (List ℕ)) → turn ≡ Stops stop
      → SoFar start known old number mid before now
      → IfSome mid (λ bytes. StepTurns binding skips number old bytes turn)
      → (IsSome (stop_of turn) → new ≡ old) → Appends now after (turn_text number turn (kept_by new))
      → IfSome known (λ bytes. (state : CheckedState) → StandsFor binding start state
      → Appends before after (checked_text binding skips state bytes))
  printed_stops start old new number turn stop None mid before now after is so_far turns stays adds = tt
  printed_stops start old new number turn stop (Some bytes) None before now after is so_far turns stays adds =
      absurd so_far.goes
  printed_stops start old new number turn stop (Some bytes) (Some mid) before now after is so_far turns stays adds =
      λ state stands.
      let has = so_far.printed state stands in
      let text = turn_text number (Stops stop) (kept_by new) in
      let same : new ≡ old = stays (ap (λ (it : CheckTurn). is_some (stop_of it)) is) in
      let whole : checked_text binding skips state bytes ≡ has.done ++ text =
      has.text ∙ ap (λ (l : List ℕ). has.done ++ l) (text_stop binding skips number old has.next has.stands new mid stop
      same (subst (λ (it : CheckTurn). StepTurns binding skips number old mid it) is turns)) in
      subst (Appends before after) (sym whole)
      (Appends-trans before now after has.done text has.prints
      (subst (λ (it : CheckTurn). Appends now after (turn_text number it (kept_by new))) is adds))

  -- a line fails
  pub printed_fails : (start old : CheckedFollowerState) (number : ℕ) (why : ProgramFault)
      (known mid before now after : Option (List ℕ)) → SoFar start known old number mid before now
      → FailsFrom old number mid why now after
      → IfSome known (λ bytes. (state : CheckedState) → StandsFor binding start state
      → PrintsFirst why (checked_text binding skips state bytes) before after)
  printed_fails start old number why None mid before now after so_far fails = tt
  printed_fails start old number why (Some bytes) None before now after so_far fails = absurd so_far.goes
  printed_fails start old number why (Some bytes) (Some mid) before now after so_far fails = λ state stands.
      let has = so_far.printed state stands in
      first_after why has.done (lines_text binding skips has.next number mid) (checked_text binding skips state bytes)
      before now after has.text has.prints (fails has.next has.stands)

  -- there are too many lines
  pub printed_so_far : (start old : CheckedFollowerState) (number : ℕ) (why : ProgramFault)
      (known mid before now : Option (List ℕ)) → SoFar start known old number mid before now
      → IfSome known (λ bytes. (state : CheckedState) → StandsFor binding start state
      → PrintsFirst why (checked_text binding skips state bytes) before now)
  printed_so_far start old number why known mid before now so_far =
      printed_fails start old number why known mid before now now so_far (none_printed old number mid why now)

  -- ---- the command

  pub checked_fails : {T : Type 0} (fails : ProgramFault → List ℕ → Type 0) (fault : ProgramFault)
      (start : CheckedFollowerState) (known before mid after : Option (List ℕ)) (ending : StreamEnding T)
      → IfSome known (λ bytes. (state : CheckedState) → StandsFor binding start state
      → PrintsFirst fault (checked_text binding skips state bytes) before mid)
      → IfStopped ending (λ stop. ⊥) → PrintsFault fails [] mid after fault ending
      → (is_write_fault fault ≡ true → (ending ≡ Failed fault) × Appends mid after [])
      → IfSome known (λ bytes. (state : CheckedState) → StandsFor binding start state
      → PrintsExpected fails (checked_text binding skips state bytes) before after ending)
  checked_fails fails fault start None before mid after ending first never last quiet = tt
  checked_fails fails fault start (Some bytes) before mid after ending first never last quiet = λ state stands.
      command_fails fails fault (Some bytes) before mid after (checked_text binding skips state) ending
      (first state stands) never last quiet
