-- A text that is put together piece by piece.
use Rattle.std.proofs.Common.{◌≡◌, ℕ, List, ◌++◌, append_assoc, refl}

-- a piece, and what follows it
pub pieces : (old mid new piece rest : List ℕ) → mid ≡ old ++ piece → new ≡ mid ++ rest → new ≡ old ++ (piece ++ rest)
pieces old mid new piece rest h k = rw (k, h, append_assoc) refl
