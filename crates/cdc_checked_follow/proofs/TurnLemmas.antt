-- What comes of a line that is checked, by what it is read as and by what becomes of its entry.
use Rattle.std.proofs.Common.{◌≡◌, ◌≢◌, ℕ, List, [], ◌∷◌, Bool, true, false, Some, None, Option}
use Rattle.std.proofs.Common.{Result, Ok, Err, sym, ap, ◌∙◌, subst}
use Rattle.std.specs.Prelude.{IfOk, IfSome, if◌then◌else◌}
use Rattle.cdc_types.specs.declared.events.Event.{Event}
use Rattle.cdc_types.specs.declared.events.Headers.{Headers}
use Rattle.cdc_message.specs.Headers.{headers_of_event}
use Rattle.cdc_match.specs.Arguments.{Arguments}
use Rattle.cdc_match.specs.Matching.{matches}
use Rattle.cdc_audit.specs.declared.refusals.Refusal.{Refusal}
use Rattle.cdc_follow.specs.declared.entries.Content.{Content}
use Rattle.cdc_follow.specs.declared.entries.Content.TheVariants as content
use Rattle.cdc_follow.specs.declared.follower.Following.TheVariants.{Applied, PassedBy}
use Rattle.cdc_follow.specs.declared.entries.Entry.{Entry}
use Rattle.cdc_follow.specs.declared.errors.LineError.{LineError}
use Rattle.cdc_follow.specs.declared.errors.LineError.TheVariants.{OutOfMemory, TooLong}
use Rattle.cdc_follow.specs.declared.follower.Following.{Following}
use Rattle.cdc_follow.specs.declared.streams.FollowError.{FollowError}
use Rattle.cdc_follow.specs.declared.streams.Taken.TheVariants as taken
use Rattle.cdc_follow.specs.Entries.{line_entry}
use Rattle.cdc_follow.specs.LineErrors.{GivesUnlessMemory}
use Rattle.cdc_follow.specs.Lines.{FirstLineIsLong, TakesLine, lines_of}
use Rattle.cdc_follow.proofs.LineLemmas.{lines_of-none}
use Rattle.cdc_follow.proofs.StopLemmas.{gives_err, gives_ok, long_entry}
use Rattle.cdc_checked_follow.specs.declared.follower.Checking.{Checking}
use Rattle.cdc_checked_follow.specs.declared.streams.CheckStop.{CheckStop}
use Rattle.cdc_checked_follow.specs.declared.streams.CheckStop.TheVariants as stop
use Rattle.cdc_checked_follow.specs.declared.turns.CheckTurn.{CheckTurn}
use Rattle.cdc_checked_follow.specs.declared.turns.CheckTurn.TheVariants.{GoesOn, Stops}
use Rattle.cdc_checked_follow.specs.Checking.{CheckedState, content_outcome, stop_for}
use Rattle.cdc_checked_follow.specs.Standing.{CheckedFollowerState, StandsFor}
use Rattle.cdc_checked_follow.specs.Turns.{LineTurns, StepTurns, applied_as, first_turn, following_of, line_turn, read_turn, refusal_of, turn_by}

-- what becomes of an applied event, by whether the binding takes it
pub applied_by : (binding : Arguments) (c : Content) (e : Event) (headers : Headers) (taken answer : Bool)
    → c ≡ content.Event e → taken ≡ matches binding headers → headers ≡ headers_of_event e → taken ≡ answer
    → (if answer then Applied else PassedBy) ≡ applied_as binding c
applied_by binding c e headers taken answer event is of_event by =
    let takes_it : answer ≡ matches binding (headers_of_event e) = sym by ∙ is ∙ ap (matches binding) of_event in
    ap (λ b. if b then Applied else PassedBy) takes_it ∙ sym (ap (applied_as binding) event)

module _ (binding : Arguments) (skips : Bool) (number : ℕ) (line : List ℕ) (old : CheckedFollowerState) where
  -- what comes of a line that is read so
  turn_read : (state : CheckedState) (read : Result (Option Entry) LineError) → line_entry false line ≡ read
      → line_turn binding skips state number line ≡ read_turn binding skips state number read
  turn_read state read is = ap (read_turn binding skips state number) is

  read_as : (read found : Option Entry) → GivesUnlessMemory (Ok read) (line_entry false line) → read ≡ found
      → line_entry false line ≡ Ok found
  read_as read found gives is =
      gives_ok read (line_entry false line) gives
      ∙ ap (λ (read : Option Entry). let answer : Result (Option Entry) LineError = Ok read in answer) is

  -- a line without an entry
  pub turns_when_none : (read : Option Entry) → GivesUnlessMemory (Ok read) (line_entry false line) → read ≡ None
      → LineTurns binding skips number line old (GoesOn taken.Nothing None)
  turns_when_none read gives is state stands = sym (turn_read state (Ok None) (read_as read None gives is))

  -- what comes of an entry of which this becomes
  abbrev turn_of : Entry → Checking → CheckTurn
  turn_of entry c = turn_by (stop_for skips c number) (taken.Entry entry (following_of binding entry.content c)) (refusal_of c)

  turn_is : (state : CheckedState) (read : Option Entry) (entry : Entry) (c : Checking)
      → GivesUnlessMemory (Ok read) (line_entry false line) → read ≡ Some entry
      → c ≡ content_outcome state entry.content → turn_of entry c ≡ line_turn binding skips state number line
  turn_is state read entry c gives is answer =
      ap (turn_of entry) answer ∙ sym (turn_read state (Ok (Some entry)) (read_as read (Some entry) gives is))

  -- a line with an entry, after which following goes on
  pub turns_when_on : (read : Option Entry) (entry : Entry) (c : Checking) (answer : Option CheckStop)
      (made : Following) (why : Option Refusal) → GivesUnlessMemory (Ok read) (line_entry false line)
      → read ≡ Some entry → answer ≡ stop_for skips c number → answer ≡ None
      → made ≡ following_of binding entry.content c → why ≡ refusal_of c
      → ((state : CheckedState) → StandsFor binding old state → c ≡ content_outcome state entry.content)
      → LineTurns binding skips number line old (GoesOn (taken.Entry entry made) why)
  turns_when_on read entry c answer made why gives is stops on becomes refused answers state stands =
      let entry_made = taken.Entry entry (following_of binding entry.content c) in
      ap (λ (made : Following). GoesOn (taken.Entry entry made) why) becomes
      ∙ ap (λ (why : Option Refusal). GoesOn entry_made why) refused
      ∙ sym (ap (λ answer. turn_by answer entry_made (refusal_of c)) (sym stops ∙ on))
      ∙ turn_is state read entry c gives is (answers state stands)

  -- a line with an entry, at which following stops
  pub turns_when_stop : (read : Option Entry) (entry : Entry) (c : Checking) (answer : Option CheckStop)
      (why : CheckStop) → GivesUnlessMemory (Ok read) (line_entry false line) → read ≡ Some entry
      → answer ≡ stop_for skips c number → answer ≡ Some why
      → ((state : CheckedState) → StandsFor binding old state → c ≡ content_outcome state entry.content)
      → LineTurns binding skips number line old (Stops why)
  turns_when_stop read entry c answer why gives is stops stopped answers state stands =
      let entry_made = taken.Entry entry (following_of binding entry.content c) in
      sym (ap (λ answer. turn_by answer entry_made (refusal_of c)) (sym stops ∙ stopped))
      ∙ turn_is state read entry c gives is (answers state stands)

  -- a line that is no entry
  turns_bad : (error : LineError) → line_entry false line ≡ Err error
      → LineTurns binding skips number line old (Stops (stop.BadLine number error))
  turns_bad error is state stands = sym (turn_read state (Err error) is)

  pub turns_when_bad : (error : LineError) → GivesUnlessMemory (Err error) (line_entry false line)
      → (answer : Result CheckTurn FollowError)
      → IfOk answer (λ turn. (turn ≡ Stops (stop.BadLine number error)) × (error ≢ OutOfMemory))
      → IfOk answer (λ turn. LineTurns binding skips number line old turn)
  turns_when_bad error gives (Ok turn) is =
      subst (LineTurns binding skips number line old) (sym is.0)
      (turns_bad error (gives_err error (line_entry false line) gives is.1))
  turns_when_bad error gives (Err failed) is = tt

module _ (binding : Arguments) (skips : Bool) (number : ℕ) (old : CheckedFollowerState) where
  -- a line that was read
  step_turns : (known left : Option (List ℕ)) (line : List ℕ) (turn : CheckTurn)
      → IfSome known (λ bytes. TakesLine true bytes line left) → LineTurns binding skips number line old turn
      → IfSome known (λ bytes. StepTurns binding skips number old bytes turn)
  step_turns None left line turn takes turns = tt
  step_turns (Some bytes) left line turn takes turns = λ state stands.
      turns state stands ∙ sym (ap (first_turn binding skips state number) takes.2)

  pub step_turns_line : (known left : Option (List ℕ)) (line : List ℕ) (more : Bool)
      (result : Result CheckTurn FollowError) → more ≡ true
      → IfSome known (λ bytes. TakesLine more bytes line left)
      → IfOk result (λ turn. LineTurns binding skips number line old turn)
      → IfOk result (λ turn. IfSome known (λ bytes. StepTurns binding skips number old bytes turn))
  step_turns_line known left line more (Ok turn) is takes turns =
      step_turns known left line turn (subst (λ more. IfSome known (λ bytes. TakesLine more bytes line left)) is takes)
      turns
  step_turns_line known left line more (Err error) is takes turns = tt

  -- no line is left
  turns_of_none : (known : Option (List ℕ)) → IfSome known (λ bytes. bytes ≡ [])
      → IfSome known (λ bytes. StepTurns binding skips number old bytes (Stops stop.AtEnd))
  turns_of_none None none = tt
  turns_of_none (Some bytes) none = λ state stands.
      sym (ap (first_turn binding skips state number) (ap lines_of none ∙ lines_of-none))

  pub step_turns_end : (known left : Option (List ℕ)) (line : List ℕ) (more : Bool) → more ≡ false
      → IfSome known (λ bytes. TakesLine more bytes line left)
      → IfSome known (λ bytes. StepTurns binding skips number old bytes (Stops stop.AtEnd))
  step_turns_end known left line more is takes =
      turns_of_none known (subst (λ more. IfSome known (λ bytes. TakesLine more bytes line left)) is takes)

  -- the first line is too long
  pub step_turns_long : (known : Option (List ℕ)) → IfSome known FirstLineIsLong
      → IfSome known (λ bytes. StepTurns binding skips number old bytes (Stops (stop.BadLine number TooLong)))
  step_turns_long None long = tt
  step_turns_long (Some bytes) long = λ state stands.
      turns_bad binding skips number long.0 old TooLong (long_entry false long.0 long.3) state stands
      ∙ sym (ap (first_turn binding skips state number) long.2)

  -- what comes of the first line of bytes comes of this line
  pub turns_of_line : (bytes line rest : List ℕ) (turn : CheckTurn) → lines_of bytes ≡ line ∷ lines_of rest
      → StepTurns binding skips number old bytes turn → LineTurns binding skips number line old turn
  turns_of_line bytes line rest turn is step = λ state stands.
      step state stands ∙ ap (first_turn binding skips state number) is
