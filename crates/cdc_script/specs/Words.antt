-- The lines of a text and the words of a line, each with its place.
use Rattle.std.specs.Prelude.{ℕ, ◌+◌, Bool, not, ◌&&◌, ◌==◌, nat_le, List, [], ◌∷◌, length, filter, slice_index, if◌then◌else◌}
use Rattle.std.specs.List.{slice_split, list_all}
use Rattle.std.specs.Str.Lines.{strip_carriage_return}

-- bytes of a text, and the place of the first of them, from 0
pub record Placed : Type 0 where
  pub start : ℕ
  pub bytes : List ℕ

-- the parts of a text with their offsets: the first one is at `start`, and one byte separates each from the next
abbrev pub placed : ℕ → List (List ℕ) → List Placed
placed start [] = []
placed start (part ∷ rest) = record { start = start; bytes = part } ∷ placed (start + length part + 1) rest

-- the lines in such parts: an empty last part is no line, and only a part before a line feed loses its carriage return
abbrev pub lines_of_parts : ℕ → List (List ℕ) → List Placed
lines_of_parts start [] = []
lines_of_parts start (part ∷ []) = if length part == 0 then [] else record { start = start; bytes = part } ∷ []
lines_of_parts start (part ∷ next ∷ more) =
    record { start = start; bytes = strip_carriage_return part }
    ∷ lines_of_parts (start + length part + 1) (next ∷ more)

-- the lines of bytes that begin at this place
abbrev pub lines_from : ℕ → List ℕ → List Placed
lines_from start bytes = lines_of_parts start (slice_split (λ b. b == 10) bytes)

-- the lines of a text
abbrev pub lines : List ℕ → List Placed
lines text = lines_from 0 text

-- the words of bytes that begin at this place: spaces part words, and between two spaces there is none
abbrev pub words_from : ℕ → List ℕ → List Placed
words_from start bytes =
    filter (λ word. not (length word.bytes == 0)) (placed start (slice_split (λ b. b == 32) bytes))

-- the words of a line
abbrev pub words : Placed → List Placed
words line = words_from line.start line.bytes

-- the words of a line that count: a line that begins with a number sign is a comment, and has none
abbrev pub spoken : Placed → List Placed
spoken line = if slice_index line.bytes 0 == 35 then [] else words line

-- every byte of the word is a printable ASCII character
abbrev pub is_printable : List ℕ → Bool
is_printable word = list_all (λ b. nat_le 32 b && nat_le b 126) word

-- the word is printable
abbrev pub is_clear : Placed → Bool
is_clear word = is_printable word.bytes
