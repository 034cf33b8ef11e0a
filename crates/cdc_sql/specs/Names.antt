-- The names of schemas.
use Rattle.std.specs.Prelude.{ℕ, ◌==◌, ◌&&◌, ◌||◌, nat_le, not, Bool, List, length, slice_index}
use Rattle.std.specs.List.{list_all}

-- a byte is a digit
abbrev pub is_digit : ℕ → Bool
is_digit byte = nat_le 48 byte && nat_le byte 57

-- a byte is a lower-case letter, `_` or a digit
abbrev pub is_in_name : ℕ → Bool
is_in_name byte = ((nat_le 97 byte && nat_le byte 122) || byte == 95) || is_digit byte

-- a text is the name of a schema: it has one such byte or more, of which the first is no digit
abbrev pub is_name : List ℕ → Bool
is_name text = (not (length text == 0) && not (is_digit (slice_index text 0))) && list_all is_in_name text
