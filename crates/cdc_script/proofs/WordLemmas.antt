-- Lines and words, taken off a text one after another.
use Rattle.std.proofs.Common.{◌≡◌, ℕ, ◌+◌, Bool, true, false, cond, List, [], ◌∷◌, length, take, drop, Some, None, refl, arith}
use Rattle.std.specs.Prelude.{◌==◌, nat_lt, position}
use Rattle.std.specs.List.{slice_split, position_or_len, onto_first}
use Rattle.std.specs.Str.Lines.{strip_carriage_return}
use Rattle.std.proofs.lemmas.List.Splits.{slice_split_first, slice_split_none}
use Rattle.std.proofs.lemmas.List.Sums.{fails_before_first}
use Rattle.cdc_script.specs.Words.{lines_from}
use borrow.Author.Tests.{ltb-true, ltb-false}

-- if no byte passes the test, the text is one part
pub unparted : (p : ℕ → Bool) (bytes : List ℕ) → nat_lt (position_or_len p bytes) (length bytes) ≡ false
    → slice_split p bytes ≡ bytes ∷ []
unparted p bytes h =
    slice_split_none p bytes (λ k d below. fails_before_first p bytes k d (omega (arith, ltb-false _ _ h)))

-- the first part and the others
split_found : (p : ℕ → Bool) (bytes : List ℕ) (i : ℕ) (t : Bool) → nat_lt (position_or_len p bytes) (length bytes) ≡ t
    → cond t (Some (position_or_len p bytes)) None ≡ Some i
    → slice_split p bytes ≡ take i bytes ∷ slice_split p (drop (i + 1) bytes)
split_found p bytes i true h e = let same : position_or_len p bytes ≡ i = cc in
    rw (← same) (slice_split_first p bytes 0 (ltb-true _ _ h))
split_found p bytes i false h e = cc

-- if there is no such index, the text is one part
split_missing : (p : ℕ → Bool) (bytes : List ℕ) (t : Bool) → nat_lt (position_or_len p bytes) (length bytes) ≡ t
    → cond t (Some (position_or_len p bytes)) None ≡ None → slice_split p bytes ≡ bytes ∷ []
split_missing p bytes true h e = cc
split_missing p bytes false h e = unparted p bytes h

-- the part before the first place that passes, and the parts after it
pub slice_split_some : (p : ℕ → Bool) (bytes : List ℕ) (i : ℕ) → position p bytes ≡ Some i
    → slice_split p bytes ≡ take i bytes ∷ slice_split p (drop (i + 1) bytes)
slice_split_some p bytes i h = split_found p bytes i _ refl h

-- no place passes
pub slice_split_nowhere : (p : ℕ → Bool) (bytes : List ℕ) → position p bytes ≡ None → slice_split p bytes ≡ bytes ∷ []
slice_split_nowhere p bytes h = split_missing p bytes _ refl h

-- a text has a first part
onto_first_some : (x : ℕ) (parts : List (List ℕ)) → (y : List ℕ) × (more : List (List ℕ))
    × (onto_first x parts ≡ y ∷ more)
onto_first_some x [] = (_, _, refl)
onto_first_some x (part ∷ parts) = (_, _, refl)

-- so the text after a line feed has a first line too, which may be empty
some_part : (p : ℕ → Bool) (bytes : List ℕ) → (y : List ℕ) × (more : List (List ℕ)) × (slice_split p bytes ≡ y ∷ more)
some_part p [] = (_, _, refl)
some_part p (x ∷ xs) =
    elim (p x) as (λ t. (y : List ℕ) × (more : List (List ℕ))
    × (cond t ([] ∷ slice_split p xs) (onto_first x (slice_split p xs)) ≡ y ∷ more))
    [ true ↦ (_, _, refl) | false ↦ onto_first_some x (slice_split p xs) ]

-- the first line of bytes that begin at this place, and those after it
pub lines_of_first : (start : ℕ) (text line after : List ℕ) (at next : ℕ) (stripped : List ℕ)
    → slice_split (λ b. b == 10) text ≡ line ∷ slice_split (λ b. b == 10) after
    → at ≡ start → next ≡ start + length line + 1 → stripped ≡ strip_carriage_return line
    → lines_from start text ≡ record { start = at; bytes = stripped } ∷ lines_from next after
lines_of_first start text line after at next stripped h begins follows bytes =
    let s = some_part (λ b. b == 10) after in
    rw (begins, follows, bytes, h) (rw s.2 refl)

-- the one line of bytes without a line feed
pub lines_of_one : (start next : ℕ) (text after : List ℕ) → slice_split (λ b. b == 10) text ≡ text ∷ []
    → (length text == 0) ≡ false → after ≡ []
    → lines_from start text ≡ record { start = start; bytes = text } ∷ lines_from next after
lines_of_one start next text after h some none = rw (none, h, some) refl
