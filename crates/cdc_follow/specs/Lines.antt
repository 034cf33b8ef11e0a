-- The lines of a stream: each ends with a line feed, the last one perhaps without it.
use Rattle.std.specs.Prelude.{◌≡◌, ℕ, ◌<◌, Bool, true, false, List, [], ◌∷◌, length, ◌==◌, if◌then◌else◌, Option, Some}
use Rattle.cdc_follow.specs.declared.entries.TheConstants.{LONGEST_LINE}

-- a byte joins the first line
abbrev pub join_first : ℕ → List (List ℕ) → List (List ℕ)
join_first byte [] = (byte ∷ []) ∷ []
join_first byte (line ∷ rest) = (byte ∷ line) ∷ rest

-- the lines of these bytes, without their line feeds
unfoldable pub lines_of : List ℕ → List (List ℕ)
lines_of [] = []
lines_of (byte ∷ rest) = if byte == 10 then [] ∷ lines_of rest else join_first byte (lines_of rest)

-- a line was taken of these bytes and the others are left; or there are none
abbrev pub TakesLine : Bool → List ℕ → List ℕ → Option (List ℕ) → Type 0
TakesLine true bytes line left = (rest : List ℕ) × (left ≡ Some rest) × (lines_of bytes ≡ line ∷ lines_of rest)
TakesLine false bytes line left = bytes ≡ []

-- the first line has too many bytes
abbrev pub FirstLineIsLong : List ℕ → Type 0
FirstLineIsLong bytes =
    (line : List ℕ) × (rest : List (List ℕ)) × (lines_of bytes ≡ line ∷ rest) × (LONGEST_LINE < length line)
