-- Counts of lines that are checked one after another.
use Rattle.std.proofs.Common.{◌≡◌, ℕ, ◌+◌, Bool, List, [], ◌∷◌, Option, refl, sym, ap, ◌∙◌}
use Rattle.cdc_match.specs.Arguments.{Arguments}
use Rattle.cdc_audit.specs.declared.refusals.Refusal.{Refusal}
use Rattle.cdc_follow.specs.Counts.{counts_with, no_counts, one_more}
use Rattle.cdc_follow.specs.declared.streams.Taken.{Taken}
use Rattle.cdc_checked_follow.specs.declared.streams.CheckStop.{CheckStop}
use Rattle.cdc_checked_follow.specs.declared.turns.CheckTurn.TheVariants.{GoesOn, Stops}
use Rattle.cdc_checked_follow.specs.Checking.{CheckedState}
use Rattle.cdc_checked_follow.specs.Counts.{counts_by, line_counts}
use Rattle.cdc_checked_follow.specs.Turns.{first_turn, line_state, line_turn}

module _ (binding : Arguments) (skips : Bool) where
  pub counts_none : (state : CheckedState) (number : ℕ) → line_counts binding skips state number [] ≡ no_counts
  unfolding line_counts
  counts_none state number = refl

  counts_first : (state : CheckedState) (number : ℕ) (line : List ℕ) (rest : List (List ℕ))
      → line_counts binding skips state number (line ∷ rest)
      ≡ counts_by (line_turn binding skips state number line)
      (line_counts binding skips (line_state state line) (number + 1) rest)
  unfolding line_counts
  counts_first state number line rest = refl

  -- the counts from a line on, after which following goes on
  pub counts_on : (state next : CheckedState) (number : ℕ) (line : List ℕ) (rest : List (List ℕ)) (made : Taken)
      (why : Option Refusal) → GoesOn made why ≡ line_turn binding skips state number line → next ≡ line_state state line
      → line_counts binding skips state number (line ∷ rest)
      ≡ counts_with one_more made (line_counts binding skips next (number + 1) rest)
  counts_on state next number line rest made why turns is =
      counts_first state number line rest
      ∙ ap (λ turn. counts_by turn (line_counts binding skips (line_state state line) (number + 1) rest)) (sym turns)
      ∙ ap (λ after. counts_with one_more made (line_counts binding skips after (number + 1) rest)) (sym is)

  -- no line is counted any more where following stops
  pub counts_end : (state : CheckedState) (number : ℕ) (why : CheckStop) (lines : List (List ℕ))
      → Stops why ≡ first_turn binding skips state number lines
      → line_counts binding skips state number lines ≡ no_counts
  counts_end state number why [] is = counts_none state number
  counts_end state number why (line ∷ rest) is =
      counts_first state number line rest
      ∙ ap (λ turn. counts_by turn (line_counts binding skips (line_state state line) (number + 1) rest)) (sym is)
