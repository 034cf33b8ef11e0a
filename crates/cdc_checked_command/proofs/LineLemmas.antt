-- Lines that are followed after others.
use Rattle.std.proofs.Common.{◌≡◌, ℕ, ◌+◌, List, [], ◌∷◌, ◌++◌, length, Bool, true, false, Option, None, Some, Result, Ok, Err, refl, sym, ap, ◌∙◌, arith}
use Rattle.cdc_match.specs.Arguments.{Arguments}
use Rattle.cdc_follow.specs.declared.entries.Entry.{Entry}
use Rattle.cdc_follow.specs.declared.errors.LineError.{LineError}
use Rattle.cdc_follow.specs.Entries.{line_entry}
use Rattle.cdc_checked_follow.specs.declared.follower.Checking.{Checking}
use Rattle.cdc_checked_follow.specs.declared.follower.Checking.TheVariants.{Applied, Late, Refused, Ended, OutOfRange}
use Rattle.cdc_checked_follow.specs.declared.streams.CheckStop.{CheckStop}
use Rattle.cdc_checked_follow.specs.declared.streams.CheckStop.TheVariants as stop
use Rattle.cdc_checked_follow.specs.Checking.{Checked, CheckedState, content_outcome, lines_checked, next_content, stop_for}
use Rattle.cdc_checked_follow.proofs.StreamLemmas.{bad_line, entry_line, no_lines, past_line}

-- following doesn't stop at an entry as if the lines had ended
never_ends : (skips : Bool) (c : Checking) (number : ℕ) (why : CheckStop) → stop_for skips c number ≡ Some why
    → why ≡ stop.AtEnd → ⊥
never_ends skips Applied number why stops ends = cc
never_ends skips Late number why stops ends = cc
never_ends true (Refused r) number why stops ends = cc
never_ends false (Refused r) number why stops ends = cc
never_ends skips Ended number why stops ends = cc
never_ends skips OutOfRange number why stops ends = cc

module _ (binding : Arguments) (skips : Bool) where
  -- lines that are followed to their end, and others after them
  abbrev pub GoesOnAfter : CheckedState → ℕ → List (List ℕ) → List (List ℕ) → Type 0
  GoesOnAfter state number front rest =
      (lines_checked skips state number front).stop ≡ stop.AtEnd
      → lines_checked skips state number (front ++ rest)
      ≡ lines_checked skips (lines_checked skips state number front).state (number + length front) rest

  after_line : (state : CheckedState) (number : ℕ) (line : List ℕ) (front rest : List (List ℕ))
      (read : Result (Option Entry) LineError) → line_entry false line ≡ read
      → ((state : CheckedState) → GoesOnAfter state (number + 1) front rest)
      → GoesOnAfter state number (line ∷ front) rest
  after_line state number line front rest (Ok None) is later ends =
      let first = past_line binding skips state number line front is in
      let count : (number + 1) + length front ≡ number + length (line ∷ front) = omega arith in
      past_line binding skips state number line (front ++ rest) is
      ∙ later state (ap (λ (a : Checked). a.stop) (sym first) ∙ ends)
      ∙ ap (λ (a : Checked). lines_checked skips a.state ((number + 1) + length front) rest) (sym first)
      ∙ ap (λ n. lines_checked skips (lines_checked skips state number (line ∷ front)).state n rest) count
  after_line state number line front rest (Err error) is later ends =
      let first = bad_line binding skips state number line front error is in
      let never : stop.BadLine number error ≡ stop.AtEnd = ap (λ (a : Checked). a.stop) (sym first) ∙ ends in
      absurd cc
  after_line state number line front rest (Ok (Some entry)) is later ends = by _ refl
    where
      by : (answer : Option CheckStop) → stop_for skips (content_outcome state entry.content) number ≡ answer
          → lines_checked skips state number (line ∷ (front ++ rest))
          ≡ lines_checked skips (lines_checked skips state number (line ∷ front)).state
          (number + length (line ∷ front)) rest
      by None stops =
          let next = next_content state entry.content in
          let first = entry_line binding skips state number line front entry None is stops in
          let count : (number + 1) + length front ≡ number + length (line ∷ front) = omega arith in
          entry_line binding skips state number line (front ++ rest) entry None is stops
          ∙ later next (ap (λ (a : Checked). a.stop) (sym first) ∙ ends)
          ∙ ap (λ (a : Checked). lines_checked skips a.state ((number + 1) + length front) rest) (sym first)
          ∙ ap (λ n. lines_checked skips (lines_checked skips state number (line ∷ front)).state n rest) count
      by (Some why) stops =
          let first = entry_line binding skips state number line front entry (Some why) is stops in
          let same : why ≡ stop.AtEnd = ap (λ (a : Checked). a.stop) (sym first) ∙ ends in
          absurd (never_ends skips (content_outcome state entry.content) number why stops same)

  pub go_on : (state : CheckedState) (number : ℕ) (front rest : List (List ℕ)) → GoesOnAfter state number front rest
  go_on state number [] rest ends =
      let same : (lines_checked skips state number []).state ≡ state =
      ap (λ (a : Checked). a.state) (no_lines binding skips state number) in
      let count : number ≡ number + 0 = omega arith in
      ap (λ s. lines_checked skips s number rest) (sym same)
      ∙ ap (λ n. lines_checked skips (lines_checked skips state number []).state n rest) count
  go_on state number (line ∷ front) rest ends =
      after_line state number line front rest _ refl (λ next. go_on next (number + 1) front rest) ends
