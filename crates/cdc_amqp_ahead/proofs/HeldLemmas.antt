-- Bytes that move to the front of a buffer.
use Rattle.std.proofs.Common.{◌≡◌, ◌≤◌, ◌+◌, ◌-◌, ℕ, List, length, take, drop, ap, ◌∙◌, arith, length-drop, take_all}
use Rattle.std.proofs.Math.Seq.{paste}
use Rattle.std.proofs.lemmas.List.Edits.{take-paste}

-- what follows the first bytes, moved over them, is what is left once the end is cut off
pub rest_moved : (all : List ℕ) (count size : ℕ) → length all ≡ size → count ≤ size
    → take (size - count) (paste all 0 (drop count all) (size - count)) ≡ drop count all
rest_moved all count size whole fits =
    let rest = drop count all in
    let left = size - count in
    let long : length rest ≡ left = omega (arith, length-drop count all, whole) in
    let same : left ≡ 0 + left = omega arith in
    ap (λ (k : ℕ). take k (paste all 0 rest left)) same
    ∙ take-paste all 0 rest left (omega (arith, long)) (omega (arith, whole, fits)) ∙ take_all left rest (omega (arith, long))
