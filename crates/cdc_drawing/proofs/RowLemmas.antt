-- Rows after one more step.
use Rattle.std.proofs.Common.{◌≡◌, ◌∙◌, ℕ, ◌+◌, List, [], ◌∷◌, ◌++◌, ap, arith, length, length-append, sym}
use Rattle.cdc_commands.specs.Seen.{Seen}
use Rattle.cdc_drawing.specs.declared.rows.Rows.{Rows}
use Rattle.cdc_drawing.specs.Drawings.{row, rows_after}
use Rattle.cdc_drawing.proofs.OneMoreStep.{rows_after-more}

-- they are the rows before and that of this step
pub step_drawn : (old new : Rows) (seen : List Seen) (s : Seen)
    → new.text.items ≡ old.text.items ++ row (old.count + 1) s → new.count ≡ old.count + 1
    → (old.text.items ≡ rows_after 0 seen) × (old.count ≡ length seen)
    → (new.text.items ≡ rows_after 0 (seen ++ s ∷ [])) × (new.count ≡ length (seen ++ s ∷ []))
step_drawn old new seen s text count has = (
  text
      ∙ ap (λ (before : List ℕ). before ++ row (old.count + 1) s) has.0
      ∙ ap (λ (n : ℕ). rows_after 0 seen ++ row (n + 1) s) has.1
      ∙ ap (λ (k : ℕ). rows_after 0 seen ++ row k s) (let e : length seen + 1 ≡ 0 + length seen + 1 = omega arith in e)
      ∙ sym (rows_after-more 0 seen s),
  count ∙ ap (λ (n : ℕ). n + 1) has.1 ∙ sym (length-append seen (s ∷ [])),
)
