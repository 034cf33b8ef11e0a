-- The words of a file, as they are shown.
use Rattle.std.specs.Prelude.{ℕ, ◌++◌, ◌&&◌, Bool, List, [], codes, length, map, nat_le, nat_lt, take, if◌then◌else◌}
use Rattle.cdc_commands.specs.declared.words.TheConstants.{MOST_SHOWN}

-- the byte is a printable ASCII character
abbrev pub is_printable : ℕ → Bool
is_printable byte = nat_le 32 byte && nat_le byte 126

-- a byte as it is shown: 63, a question mark, if it isn't printable
abbrev pub shown_byte : ℕ → ℕ
shown_byte byte = if is_printable byte then byte else 63

-- a word as it is shown: a long one is cut, and two dots follow
abbrev pub shown_bytes : List ℕ → List ℕ
shown_bytes word =
    map shown_byte (take MOST_SHOWN word) ++ (if nat_lt MOST_SHOWN (length word) then codes ".." else [])
