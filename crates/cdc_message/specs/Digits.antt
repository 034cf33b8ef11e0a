-- What reading digits one by one has read. Only private contracts cite it.
use Rattle.std.specs.Prelude.{◌≡◌, ◌≤◌, ◌+◌, ◌*◌, ℕ, List, drop, length, take, true}
use Rattle.std.specs.Char.{is_ascii_digit}
use Rattle.std.specs.List.{list_all}
use Rattle.std.specs.Str.Parse.{digits_value}

-- so many bytes at the front of a text are digits, and represent this number
pub record AreDigits (text : List ℕ) (count number : ℕ) : Type 0 where
  pub within : count ≤ length text
  pub digits : list_all is_ascii_digit (take count text) ≡ true
  pub value : number ≡ digits_value 10 (take count text)

-- a text that follows digits begins with four more, which represent this number
abbrev pub FourMore : List ℕ → ℕ → Type 0
FourMore text four =
    (all : List ℕ) (count number : ℕ) → drop count all ≡ text → AreDigits all count number
    → AreDigits all (count + 4) (number * 10000 + four)
