-- Decimal numbers in text.
use Rattle.std.specs.Prelude.{ℕ, ◌==◌, ◌&&◌, List, length, Bool, not, nat_le, if◌then◌else◌, Option, Some, None}
use Rattle.std.specs.Char.{is_ascii_digit}
use Rattle.std.specs.List.{list_all}
use Rattle.std.specs.Option.{option_and_then}
use Rattle.std.specs.Str.Parse.{digits_value}

-- one or more of the digits 0 to 9, and nothing else
abbrev pub is_decimal : List ℕ → Bool
is_decimal text = not (length text == 0) && list_all is_ascii_digit text

-- the number that a text writes, leading zeros allowed, if it writes one
abbrev pub decimal_value : List ℕ → Option ℕ
decimal_value text = if is_decimal text then Some (digits_value 10 text) else None

-- a number that must not be above the greatest one
abbrev pub at_most : ℕ → ℕ → Option ℕ
at_most greatest n = if nat_le n greatest then Some n else None

-- the number that a text writes, if it writes one that isn't above the greatest
abbrev pub decimal_up_to : ℕ → List ℕ → Option ℕ
decimal_up_to greatest text = option_and_then (at_most greatest) (decimal_value text)
