-- The letter of a word that isn't printable ASCII.
use Rattle.std.specs.Prelude.{ℕ, ◌+◌, Bool, not, ◌&&◌, ◌||◌, ◌==◌, nat_le, nat_lt, List, [], ◌∷◌, length, take, drop, position, unwrap_or, if◌then◌else◌}
use Rattle.std.specs.Str.{bytes_eq, is_utf8}
use Rattle.cdc_script.specs.declared.faults.Span.{Span}
use Rattle.cdc_script.specs.Words.{Placed}

-- how many bytes a letter has in UTF-8 whose first byte is this; 1 if no letter begins with it
abbrev pub letter_size : ℕ → ℕ
letter_size first =
    if nat_lt first 194 then 1 else if nat_lt first 224 then 2 else if nat_lt first 240 then 3
    else if nat_lt first 245 then 4 else 1

-- the bytes begin with the byte order mark of UTF-16
abbrev pub begins_utf_16 : List ℕ → Bool
begins_utf_16 bytes = bytes_eq (take 2 bytes) (255 ∷ 254 ∷ []) || bytes_eq (take 2 bytes) (254 ∷ 255 ∷ [])

-- how many bytes these are if they are UTF-8, and else 1
abbrev pub length_if_utf8 : List ℕ → ℕ
length_if_utf8 letter = if is_utf8 letter then length letter else 1

-- the number of bytes in the letter with which these bytes begin; a byte that belongs to no letter counts as one
abbrev pub letter_length : List ℕ → ℕ
letter_length [] = 0
letter_length (first ∷ rest) =
    if letter_size first == 1 then 1 else length_if_utf8 (take (letter_size first) (first ∷ rest))

-- the letter at the start of bytes that begin at this place; the byte order mark of UTF-16 at the start of a text
-- counts as one letter of two bytes
abbrev pub letter_at : ℕ → List ℕ → Span
letter_at start bytes =
    record { start = start; length = if (start == 0) && begins_utf_16 bytes then 2 else letter_length bytes }

-- the first letter of the word that isn't printable
abbrev pub bad_letter : Placed → Span
bad_letter word =
    let place = unwrap_or (position (λ b. not (nat_le 32 b && nat_le b 126)) word.bytes) 0 in
    letter_at (word.start + place) (drop place word.bytes)
