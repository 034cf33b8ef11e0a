-- Strings of JSON inside a page of HTML.
use Rattle.std.specs.Prelude.{◌≡◌, ℕ, ◌+◌, ◌/◌, ◌%◌, ◌++◌, ◌&&◌, ◌||◌, ◌==◌, Bool, false, true, List, [], ◌∷◌, codes, flat_map, nat_le, nat_lt, not, if◌then◌else◌}

-- the double quote, which ends a string
abbrev pub QUOTE : ℕ
QUOTE = 34

-- the backslash
abbrev pub BACKSLASH : ℕ
BACKSLASH = 92

-- a printable ASCII character
abbrev pub is_printable : ℕ → Bool
is_printable c = nat_le 32 c && nat_le c 126

-- what HTML gives a meaning: both quotes, the ampersand and the angle brackets
abbrev pub is_markup : ℕ → Bool
is_markup c = (c == QUOTE) || ((c == 39) || ((c == 38) || ((c == 60) || (c == 62))))

-- a byte that stands for itself
abbrev pub is_plain : ℕ → Bool
is_plain byte = is_printable byte && (not (byte == BACKSLASH) && not (is_markup byte))

-- the hexadecimal digit of a number up to 15
abbrev pub digit : ℕ → ℕ
digit n = if nat_lt n 10 then 48 + n else 87 + n

-- a byte as it is written: itself, or its number in two hexadecimal digits
abbrev pub unit : ℕ → List ℕ
unit byte = if is_plain byte then byte ∷ [] else codes "\\u00" ++ digit (byte / 16) ∷ digit (byte % 16) ∷ []

-- bytes as the inside of a string
abbrev pub escaped : List ℕ → List ℕ
escaped bytes = flat_map unit bytes

-- a byte of a page that neither ends a string nor means anything in HTML
abbrev pub IsSafe : ℕ → Type 0
IsSafe c = (is_printable c && not (is_markup c)) ≡ true
