-- Text that grows piece by piece.
use Rattle.std.proofs.Common.{◌≡◌, ℕ, ◌+◌, List, ◌++◌, Some, take, append_assoc, append-nil, refl}
use Rattle.std.proofs.lemmas.Grind.{flat_map-append}
use Rattle.std.specs.List.{flat_map, slice_get}
use Rattle.cdc_output.proofs.FoundElements.{take_found}

-- a piece, and what follows it
pub pieces : (old mid new piece rest : List ℕ) → mid ≡ old ++ piece → new ≡ mid ++ rest → new ≡ old ++ (piece ++ rest)
pieces old mid new piece rest h k = rw (k, h, append_assoc) refl

-- the texts of the first elements of a list, and that of the next one
pub texts_more : {X : Type 0} (f : X → List ℕ) (xs : List X) (i : ℕ) (x : X) (old new : List ℕ)
    → old ≡ flat_map f (take i xs) → slice_get xs i ≡ Some x → new ≡ old ++ f x → new ≡ flat_map f (take (i + 1) xs)
texts_more f xs i x old new before found added =
    rw (take_found xs i x found, flat_map-append, append-nil, ← before) added
