-- What comes of a line, by what it is read as and by what becomes of its entry.
use Rattle.std.proofs.Common.{◌≡◌, ◌≢◌, ℕ, List, [], ◌∷◌, Bool, true, false, Some, None, Option}
use Rattle.std.proofs.Common.{Result, Ok, Err, refl, sym, ap, ◌∙◌, subst}
use Rattle.std.specs.Prelude.{IfOk, IfSome}
use Rattle.cdc_match.specs.Arguments.{Arguments}
use Rattle.cdc_follow.specs.declared.entries.Entry.{Entry}
use Rattle.cdc_follow.specs.declared.errors.LineError.{LineError}
use Rattle.cdc_follow.specs.declared.errors.LineError.TheVariants.{OutOfMemory, TooLong}
use Rattle.cdc_follow.specs.declared.follower.Following.{Following}
use Rattle.cdc_follow.specs.declared.streams.FollowError.{FollowError}
use Rattle.cdc_follow.specs.declared.streams.Rules.{Rules}
use Rattle.cdc_follow.specs.declared.streams.Stop.{Stop}
use Rattle.cdc_follow.specs.declared.streams.Stop.TheVariants as stop
use Rattle.cdc_follow.specs.declared.streams.Taken.{Taken}
use Rattle.cdc_follow.specs.declared.streams.Taken.TheVariants as taken
use Rattle.cdc_follow.specs.declared.streams.Turn.{Turn}
use Rattle.cdc_follow.specs.declared.streams.Turn.TheVariants.{GoesOn, Stops}
use Rattle.cdc_follow.specs.Entries.{line_entry}
use Rattle.cdc_follow.specs.Following.{FollowState, next_follow, outcome_of, stops_at}
use Rattle.cdc_follow.specs.LineErrors.{GivesUnlessMemory}
use Rattle.cdc_follow.specs.Lines.{FirstLineIsLong, TakesLine, lines_of}
use Rattle.cdc_follow.specs.Stops.{stop_by}
use Rattle.cdc_follow.specs.Streams.{NumberedEntry}
use Rattle.cdc_follow.specs.Turns.{LineTurns, StepTurns, TakesOff, entry_turn, first_state, first_turn, line_state}
use Rattle.cdc_follow.specs.Turns.{line_turn, read_state, read_turn}
use Rattle.cdc_follow.proofs.LineLemmas.{lines_of-none}
use Rattle.cdc_follow.proofs.StopLemmas.{gives_err, gives_ok, long_entry}

-- following goes on after an entry, or stops at it
entry_goes : (binding : Arguments) (rules : Rules) (state : FollowState) (numbered : NumberedEntry)
    → stops_at rules.skips_gaps (outcome_of binding state numbered.entry) ≡ false
    → entry_turn binding rules state numbered
    ≡ GoesOn (taken.Entry numbered.entry (outcome_of binding state numbered.entry))
entry_goes binding rules state numbered is = rw is refl

entry_stops : (binding : Arguments) (rules : Rules) (state : FollowState) (numbered : NumberedEntry)
    → stops_at rules.skips_gaps (outcome_of binding state numbered.entry) ≡ true
    → entry_turn binding rules state numbered ≡ Stops (stop_by (outcome_of binding state numbered.entry) numbered)
entry_stops binding rules state numbered is = rw is refl

module _ (binding : Arguments) (rules : Rules) (number : ℕ) (line : List ℕ) (old : FollowState) where
  -- what comes of a line that is read so, and what is kept after it
  turn_read : (read : Result (Option Entry) LineError) → line_entry rules.chained line ≡ read
      → line_turn binding rules old number line ≡ read_turn binding rules old number read
  turn_read read is = ap (read_turn binding rules old number) is

  state_read : (read : Result (Option Entry) LineError) → line_entry rules.chained line ≡ read
      → line_state binding rules old line ≡ read_state binding old read
  state_read read is = ap (read_state binding old) is

  read_as : (read found : Option Entry) → GivesUnlessMemory (Ok read) (line_entry rules.chained line) → read ≡ found
      → line_entry rules.chained line ≡ Ok found
  read_as read found gives is =
      gives_ok read (line_entry rules.chained line) gives
      ∙ ap (λ (read : Option Entry). let answer : Result (Option Entry) LineError = Ok read in answer) is

  -- a line without an entry
  pub turns_when_none : (read : Option Entry) → GivesUnlessMemory (Ok read) (line_entry rules.chained line)
      → read ≡ None → LineTurns binding rules number line old (GoesOn taken.Nothing) old
  turns_when_none read gives is =
      let none = read_as read None gives is in record {
        turn_is = sym (turn_read (Ok None) none);
        state_is = sym (state_read (Ok None) none);
      }

  -- a line with an entry, after which following goes on
  pub turns_when_on : (read : Option Entry) (entry : Entry) (made : Following) (new : FollowState)
      → GivesUnlessMemory (Ok read) (line_entry rules.chained line) → read ≡ Some entry
      → made ≡ outcome_of binding old entry → new ≡ next_follow binding old entry
      → false ≡ stops_at rules.skips_gaps made
      → LineTurns binding rules number line old (GoesOn (taken.Entry entry made)) new
  turns_when_on read entry made new gives is becomes next goes =
      let some = read_as read (Some entry) gives is in
      let numbered : NumberedEntry = record { line = number; entry = entry } in
      let on : stops_at rules.skips_gaps (outcome_of binding old entry) ≡ false =
      sym (goes ∙ ap (stops_at rules.skips_gaps) becomes) in record {
        turn_is = ap (λ (made : Following). GoesOn (taken.Entry entry made)) becomes
            ∙ sym (turn_read (Ok (Some entry)) some ∙ entry_goes binding rules old numbered on);
        state_is = next ∙ sym (state_read (Ok (Some entry)) some);
      }

  -- a line with an entry, at which following stops
  pub turns_when_stop : (read : Option Entry) (entry : Entry) (made : Following) (new : FollowState) (why : Stop)
      → GivesUnlessMemory (Ok read) (line_entry rules.chained line) → read ≡ Some entry
      → made ≡ outcome_of binding old entry → new ≡ next_follow binding old entry
      → true ≡ stops_at rules.skips_gaps made → why ≡ stop_by made (record { line = number; entry = entry })
      → LineTurns binding rules number line old (Stops why) new
  turns_when_stop read entry made new why gives is becomes next stops reason =
      let some = read_as read (Some entry) gives is in
      let numbered : NumberedEntry = record { line = number; entry = entry } in
      let at : stops_at rules.skips_gaps (outcome_of binding old entry) ≡ true =
      sym (stops ∙ ap (stops_at rules.skips_gaps) becomes) in record {
        turn_is = ap (λ (why : Stop). Stops why) (reason ∙ ap (λ made. stop_by made numbered) becomes)
            ∙ sym (turn_read (Ok (Some entry)) some ∙ entry_stops binding rules old numbered at);
        state_is = next ∙ sym (state_read (Ok (Some entry)) some);
      }

  -- a line that is no entry
  turns_bad : (error : LineError) → line_entry rules.chained line ≡ Err error
      → LineTurns binding rules number line old (Stops (stop.BadLine number error)) old
  turns_bad error is = record {
    turn_is = sym (turn_read (Err error) is);
    state_is = sym (state_read (Err error) is);
  }

  pub turns_when_bad : (error : LineError) → GivesUnlessMemory (Err error) (line_entry rules.chained line)
      → (answer : Result Turn FollowError)
      → IfOk answer (λ turn. (turn ≡ Stops (stop.BadLine number error)) × (error ≢ OutOfMemory))
      → IfOk answer (λ turn. LineTurns binding rules number line old turn old)
  turns_when_bad error gives (Ok turn) is =
      subst (λ turn. LineTurns binding rules number line old turn old) (sym is.0)
      (turns_bad error (gives_err error (line_entry rules.chained line) gives is.1))
  turns_when_bad error gives (Err failed) is = tt

module _ (binding : Arguments) (rules : Rules) (number : ℕ) (old : FollowState) where
  takes_off : (bytes line : List ℕ) (left : Option (List ℕ)) (turn : Turn) → TakesLine true bytes line left
      → TakesOff turn bytes left
  takes_off bytes line left (GoesOn taken) takes = (line, takes.0, takes.1, takes.2)
  takes_off bytes line left (Stops stop) takes = tt

  -- a line that was read
  pub step_turns : (new : FollowState) (known left : Option (List ℕ)) (line : List ℕ) (turn : Turn)
      → IfSome known (λ bytes. TakesLine true bytes line left) → LineTurns binding rules number line old turn new
      → IfSome known (λ bytes. StepTurns binding rules number old bytes turn new left)
  step_turns new None left line turn takes turns = tt
  step_turns new (Some bytes) left line turn takes turns = record {
    turn_is = turns.turn_is ∙ sym (ap (first_turn binding rules old number) takes.2);
    state_is = turns.state_is ∙ sym (ap (first_state binding rules old) takes.2);
    takes = takes_off bytes line left turn takes;
  }

  -- no line is left
  turns_of_none : (known left : Option (List ℕ)) → IfSome known (λ bytes. bytes ≡ [])
      → IfSome known (λ bytes. StepTurns binding rules number old bytes (Stops stop.AtEnd) old left)
  turns_of_none None left none = tt
  turns_of_none (Some bytes) left none =
      let lines : lines_of bytes ≡ [] = ap lines_of none ∙ lines_of-none in record {
        turn_is = sym (ap (first_turn binding rules old number) lines);
        state_is = sym (ap (first_state binding rules old) lines);
        takes = tt;
      }

  pub step_turns_end : (known left : Option (List ℕ)) (line : List ℕ) (more : Bool) → more ≡ false
      → IfSome known (λ bytes. TakesLine more bytes line left)
      → IfSome known (λ bytes. StepTurns binding rules number old bytes (Stops stop.AtEnd) old left)
  step_turns_end known left line more is takes =
      turns_of_none known left (subst (λ more. IfSome known (λ bytes. TakesLine more bytes line left)) is takes)

  -- the first line is too long
  pub step_turns_long : (known left : Option (List ℕ)) → IfSome known FirstLineIsLong
      → IfSome known (λ bytes. StepTurns binding rules number old bytes (Stops (stop.BadLine number TooLong)) old left)
  step_turns_long None left long = tt
  step_turns_long (Some bytes) left long =
      let bad = turns_bad binding rules number long.0 old TooLong (long_entry rules.chained long.0 long.3) in record {
        turn_is = bad.turn_is ∙ sym (ap (first_turn binding rules old number) long.2);
        state_is = bad.state_is ∙ sym (ap (first_state binding rules old) long.2);
        takes = tt;
      }

-- what comes of the first line of bytes comes of this line
pub turns_of_line : (binding : Arguments) (rules : Rules) (number : ℕ) (old new : FollowState)
    (bytes line rest : List ℕ) (taken : Taken) (left : Option (List ℕ)) → lines_of bytes ≡ line ∷ lines_of rest
    → StepTurns binding rules number old bytes (GoesOn taken) new left
    → LineTurns binding rules number line old (GoesOn taken) new
turns_of_line binding rules number old new bytes line rest taken left is step = record {
  turn_is = step.turn_is ∙ ap (first_turn binding rules old number) is;
  state_is = step.state_is ∙ ap (first_state binding rules old) is;
}
