-- The text of lines that are checked, by what comes of the first one.
use Rattle.std.proofs.Common.{◌≡◌, ℕ, ◌+◌, Bool, List, [], ◌∷◌, ◌++◌, append-nil, Option, None, Some, refl, sym, ap, ◌∙◌}
use Rattle.std.specs.Prelude.{IsSome}
use Rattle.cdc_match.specs.Arguments.{Arguments}
use Rattle.cdc_follow.specs.Lines.{lines_of}
use Rattle.cdc_follow.specs.declared.streams.Taken.{Taken}
use Rattle.cdc_audit.specs.declared.refusals.Refusal.{Refusal}
use Rattle.cdc_checked_follow.specs.declared.streams.CheckStop.{CheckStop}
use Rattle.cdc_checked_follow.specs.declared.turns.CheckTurn.{CheckTurn}
use Rattle.cdc_checked_follow.specs.declared.turns.CheckTurn.TheVariants.{GoesOn, Stops}
use Rattle.cdc_checked_follow.specs.Checking.{CheckedState}
use Rattle.cdc_checked_follow.specs.Standing.{CheckedFollowerState, StandsFor}
use Rattle.cdc_checked_follow.specs.Streams.{LineLeadsTo, StepLeadsTo}
use Rattle.cdc_checked_follow.specs.Turns.{StepTurns, first_turn, line_state, line_turn, stop_of}
use Rattle.cdc_checked_follow.proofs.TurnLemmas.{turns_of_line}
use Rattle.cdc_expect.specs.declared.lines.Kept.{Kept}
use Rattle.cdc_expect.specs.Checked.{kept_by, kept_of, lines_text, numbered_text, state_after, text_after, turn_text}

-- a follower shows what was followed
shows : (binding : Arguments) (follower : CheckedFollowerState) (state : CheckedState)
    → StandsFor binding follower state → kept_by follower ≡ kept_of binding state
shows binding follower state stands =
    ap (λ count. let it : Kept = record { applied = count; last = follower.last } in it) stands.applied
    ∙ ap (λ t. let it : Kept = record { applied = (kept_of binding state).applied; last = t } in it) stands.last

module _ (binding : Arguments) (skips : Bool) (number : ℕ) (old : CheckedFollowerState) (state : CheckedState)
    (stands : StandsFor binding old state) where
  text_none : numbered_text binding skips state number [] ≡ []
  unfolding numbered_text
  text_none = refl

  text_first : (line : List ℕ) (rest : List (List ℕ)) → numbered_text binding skips state number (line ∷ rest)
      ≡ turn_text number (line_turn binding skips state number line)
      (kept_of binding (state_after (line_turn binding skips state number line) state line))
      ++ text_after (line_turn binding skips state number line)
      (numbered_text binding skips (line_state state line) (number + 1) rest)
  unfolding numbered_text
  text_first line rest = refl

  -- the same if this comes of the first line
  text_by : (line : List ℕ) (rest : List (List ℕ)) (turn : CheckTurn) → turn ≡ line_turn binding skips state number line
      → numbered_text binding skips state number (line ∷ rest)
      ≡ turn_text number turn (kept_of binding (state_after turn state line))
      ++ text_after turn (numbered_text binding skips (line_state state line) (number + 1) rest)
  text_by line rest turn is =
      text_first line rest
      ∙ ap (λ (it : CheckTurn). turn_text number it (kept_of binding (state_after it state line))
      ++ text_after it (numbered_text binding skips (line_state state line) (number + 1) rest)) (sym is)

  -- following goes on after the first line, with what was followed then
  pub record GoesAfter (new : CheckedFollowerState) (mid rest : List ℕ) (turn : CheckTurn) : Type 0 where
    pub next : CheckedState
    pub stands_then : StandsFor binding new next
    pub text : lines_text binding skips state number mid
        ≡ turn_text number turn (kept_by new) ++ lines_text binding skips next (number + 1) rest

  pub text_on : (new : CheckedFollowerState) (mid line rest : List ℕ) (made : Taken) (why : Option Refusal)
      → lines_of mid ≡ line ∷ lines_of rest → LineLeadsTo binding skips number line old None new
      → StepTurns binding skips number old mid (GoesOn made why) → GoesAfter new mid rest (GoesOn made why)
  text_on new mid line rest made why is leads turns =
      let on = leads state stands in
      let turn = turns_of_line binding skips number old mid line rest (GoesOn made why) is turns state stands in
      record {
        next = on.next;
        stands_then = on.stands;
        text = ap (numbered_text binding skips state number) is
            ∙ text_by line (lines_of rest) (GoesOn made why) turn
            ∙ ap (λ (s : CheckedState). turn_text number (GoesOn made why) (kept_of binding s)
            ++ numbered_text binding skips s (number + 1) (lines_of rest)) (sym on.next_is)
            ∙ ap (λ (it : Kept). turn_text number (GoesOn made why) it
            ++ lines_text binding skips on.next (number + 1) rest) (sym (shows binding new on.next on.stands));
      }

  -- following stops
  text_of_stop : (stop : CheckStop) (lines : List (List ℕ)) → Stops stop ≡ first_turn binding skips state number lines
      → numbered_text binding skips state number lines ≡ turn_text number (Stops stop) (kept_by old)
  text_of_stop stop [] turn = text_none ∙ ap (λ (it : CheckTurn). turn_text number it (kept_by old)) (sym turn)
  text_of_stop stop (line ∷ rest) turn =
      text_by line rest (Stops stop) turn
      ∙ append-nil (turn_text number (Stops stop) (kept_of binding state))
      ∙ ap (turn_text number (Stops stop)) (sym (shows binding old state stands))

  pub text_stop : (new : CheckedFollowerState) (mid : List ℕ) (stop : CheckStop) → new ≡ old
      → StepTurns binding skips number old mid (Stops stop)
      → lines_text binding skips state number mid ≡ turn_text number (Stops stop) (kept_by new)
  text_stop new mid stop same turns =
      text_of_stop stop (lines_of mid) (turns state stands)
      ∙ ap (λ (it : CheckedFollowerState). turn_text number (Stops stop) (kept_by it)) (sym same)

  -- either way the text begins with that of the first line
  pub text_begins : (new : CheckedFollowerState) (mid : List ℕ) (turn : CheckTurn) (left : Option (List ℕ))
      → StepLeadsTo binding skips number old mid (stop_of turn) new left
      → StepTurns binding skips number old mid turn → (IsSome (stop_of turn) → new ≡ old)
      → (more : List ℕ) × (lines_text binding skips state number mid ≡ turn_text number turn (kept_by new) ++ more)
  text_begins new mid (GoesOn made why) left step turns stays =
      let on = text_on new mid step.0 step.1 made why step.3 step.4 turns in
      (lines_text binding skips on.next (number + 1) step.1, on.text)
  text_begins new mid (Stops stop) left step turns stays = (
    [],
    text_stop new mid stop (stays refl) turns ∙ sym (append-nil (turn_text number (Stops stop) (kept_by new))),
  )
