-- The parts of a line of text.
use Rattle.std.specs.Prelude.{ℕ, ◌==◌, Bool, not, List, ◌++◌, codes, decimal, if◌then◌else◌}

-- a space and a number
abbrev pub spaced : ℕ → List ℕ
spaced n = codes " " ++ decimal n

-- a name, a space and a number
abbrev pub named : List ℕ → ℕ → List ℕ
named name n = name ++ spaced n

-- a space, and yes or no
abbrev pub yes_or_no : Bool → List ℕ
yes_or_no flag = if flag then codes " yes" else codes " no"

-- a name, a space, and yes or no
abbrev pub flagged : List ℕ → Bool → List ℕ
flagged name flag = name ++ yes_or_no flag

-- a byte is no line feed
abbrev pub is_in_line : ℕ → Bool
is_in_line b = not (b == 10)
