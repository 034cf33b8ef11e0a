-- Texts that a statement may quote.
use Rattle.std.specs.Prelude.{ℕ, ◌==◌, ◌&&◌, ◌||◌, nat_le, Bool, List}
use Rattle.std.specs.List.{list_all}

-- a byte is a lower-case letter, a digit, `_`, `=` or a space
abbrev pub is_plain_byte : ℕ → Bool
is_plain_byte byte = ((((nat_le 97 byte && nat_le byte 122) || (nat_le 48 byte && nat_le byte 57)) || byte == 95)
    || byte == 61) || byte == 32

-- a text has such bytes alone, so no quote and no backslash
abbrev pub is_plain : List ℕ → Bool
is_plain text = list_all is_plain_byte text
