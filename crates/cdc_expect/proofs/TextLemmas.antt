-- The text of lines, by what comes of the first one.
use Rattle.std.proofs.Common.{◌≡◌, ℕ, ◌+◌, List, [], ◌∷◌, ◌++◌, append-nil, Option, refl, sym, ap, ◌∙◌}
use Rattle.cdc_match.specs.Arguments.{Arguments}
use Rattle.cdc_follow.specs.declared.streams.Rules.{Rules}
use Rattle.cdc_follow.specs.declared.streams.Stop.{Stop}
use Rattle.cdc_follow.specs.declared.streams.Taken.{Taken}
use Rattle.cdc_follow.specs.declared.streams.Turn.{Turn}
use Rattle.cdc_follow.specs.declared.streams.Turn.TheVariants.{GoesOn, Stops}
use Rattle.cdc_follow.specs.Following.{FollowState}
use Rattle.cdc_follow.specs.Lines.{lines_of}
use Rattle.cdc_follow.specs.Turns.{StepTurns, first_state, first_turn, line_state, line_turn}
use Rattle.cdc_follow.proofs.TurnLemmas.{turns_of_line}
use Rattle.cdc_expect.specs.Expect.{lines_text, numbered_text, text_after, turn_text}

module _ (binding : Arguments) (rules : Rules) (old : FollowState) (number : ℕ) where
  text_none : numbered_text binding rules old number [] ≡ []
  unfolding numbered_text
  text_none = refl

  text_first : (line : List ℕ) (rest : List (List ℕ)) → numbered_text binding rules old number (line ∷ rest)
      ≡ turn_text number (line_turn binding rules old number line) (line_state binding rules old line).kept
      ++ text_after (line_turn binding rules old number line)
      (numbered_text binding rules (line_state binding rules old line) (number + 1) rest)
  unfolding numbered_text
  text_first line rest = refl

  -- following goes on after the first line
  pub text_on : (new : FollowState) (mid line rest : List ℕ) (taken : Taken) (left : Option (List ℕ))
      → lines_of mid ≡ line ∷ lines_of rest → StepTurns binding rules number old mid (GoesOn taken) new left
      → lines_text binding rules old number mid
      ≡ turn_text number (GoesOn taken) new.kept ++ lines_text binding rules new (number + 1) rest
  text_on new mid line rest taken left is step =
      let turns = turns_of_line binding rules number old new mid line rest taken left is step in
      let after = line_state binding rules old line in
      ap (numbered_text binding rules old number) is
      ∙ text_first line (lines_of rest)
      ∙ ap (λ (turn : Turn). turn_text number turn after.kept
      ++ text_after turn (numbered_text binding rules after (number + 1) (lines_of rest))) (sym turns.turn_is)
      ∙ ap (λ (state : FollowState). turn_text number (GoesOn taken) state.kept
      ++ numbered_text binding rules state (number + 1) (lines_of rest)) (sym turns.state_is)

  -- following stops
  text_of_stop : (new : FollowState) (stop : Stop) (lines : List (List ℕ))
      → Stops stop ≡ first_turn binding rules old number lines → new ≡ first_state binding rules old lines
      → numbered_text binding rules old number lines ≡ turn_text number (Stops stop) new.kept
  text_of_stop new stop [] turn state = text_none ∙ ap (λ (it : Turn). turn_text number it new.kept) (sym turn)
  text_of_stop new stop (line ∷ rest) turn state =
      let after = line_state binding rules old line in
      text_first line rest
      ∙ ap (λ (it : Turn). turn_text number it after.kept
      ++ text_after it (numbered_text binding rules after (number + 1) rest)) (sym turn)
      ∙ append-nil (turn_text number (Stops stop) after.kept)
      ∙ ap (λ (it : FollowState). turn_text number (Stops stop) it.kept) (sym state)

  pub text_stop : (new : FollowState) (mid : List ℕ) (stop : Stop) (left : Option (List ℕ))
      → StepTurns binding rules number old mid (Stops stop) new left
      → lines_text binding rules old number mid ≡ turn_text number (Stops stop) new.kept
  text_stop new mid stop left step = text_of_stop new stop (lines_of mid) step.turn_is step.state_is

  -- either way the text begins with that of the first line
  pub text_begins : (new : FollowState) (mid : List ℕ) (turn : Turn) (left : Option (List ℕ))
      → StepTurns binding rules number old mid turn new left
      → (more : List ℕ) × (lines_text binding rules old number mid ≡ turn_text number turn new.kept ++ more)
  text_begins new mid (GoesOn taken) left step =
      let takes = step.takes in (
        lines_text binding rules new (number + 1) takes.1,
        text_on new mid takes.0 takes.1 taken left takes.3 step,
      )
  text_begins new mid (Stops stop) left step =
      ([], text_stop new mid stop left step ∙ sym (append-nil (turn_text number (Stops stop) new.kept)))
