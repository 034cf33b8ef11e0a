-- A text that is put together piece by piece.
use Rattle.std.proofs.Common.{◌≡◌, ◌∙◌, ℕ, List, ◌++◌, ap, append_assoc, refl}

-- a piece, and what follows it
pub pieces : (old mid new piece rest : List ℕ) → mid ≡ old ++ piece → new ≡ mid ++ rest → new ≡ old ++ (piece ++ rest)
pieces old mid new piece rest h k = rw (k, h, append_assoc) refl

-- a piece of two parts, and what follows it
pub two_parts : (old mid new first second rest : List ℕ) → mid ≡ old ++ (first ++ second) → new ≡ mid ++ rest
    → new ≡ old ++ (first ++ (second ++ rest))
two_parts old mid new first second rest h k =
    pieces old mid new (first ++ second) rest h k ∙ ap (λ (text : List ℕ). old ++ text) (append_assoc first second rest)
