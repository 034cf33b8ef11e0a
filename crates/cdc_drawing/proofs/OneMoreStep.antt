-- How a drawing grows with one more step.
use Rattle.std.proofs.Common.{◌≡◌, ◌∙◌, ℕ, ◌+◌, List, [], ◌∷◌, ◌++◌, ap, append-nil, append_assoc, arith, length, refl, sym}
use Rattle.cdc_commands.specs.Seen.{Seen}
use Rattle.cdc_drawing.specs.Drawings.{row, rows_after}

-- one more step is one more row
pub rows_after-more : (n : ℕ) (seen : List Seen) (s : Seen)
    → rows_after n (seen ++ s ∷ []) ≡ rows_after n seen ++ row (n + length seen + 1) s
rows_after-more n [] s =
    let same : n + 1 ≡ n + 0 + 1 = omega arith in append-nil (row (n + 1) s) ∙ ap (λ (k : ℕ). row k s) same
rows_after-more n (x ∷ seen) s =
    let same : n + 1 + length seen + 1 ≡ n + length (x ∷ seen) + 1 = omega arith in
    ap (λ (rest : List ℕ). row (n + 1) x ++ rest) (rows_after-more (n + 1) seen s)
    ∙ sym (append_assoc (row (n + 1) x) (rows_after (n + 1) seen) (row (n + 1 + length seen + 1) s))
    ∙ ap (λ (k : ℕ). (row (n + 1) x ++ rows_after (n + 1) seen) ++ row k s) same
