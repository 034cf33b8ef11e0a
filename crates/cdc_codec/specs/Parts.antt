-- Reading the parts of a text, whatever the text is.
use Rattle.std.specs.Prelude.{ℕ, Bool, true, false, List, codes, nat_eq, nat_lt, take, drop, unwrap_or}
use Rattle.std.specs.Prelude.{if◌then◌else◌}
use Rattle.std.specs.Char.{is_ascii_digit}
use Rattle.std.specs.List.{prefix_len, starts_with}
use Rattle.cdc_types.specs.Widths.{max_128}
use Rattle.cdc_message.specs.Decimals.{decimal_up_to}
use Rattle.cdc_codec.specs.Texts.{is_in_line}

-- what was read, and the bytes after it
pub record Part (T : Type 0) : Type 0 where
  pub value : T
  pub rest : List ℕ

-- the number whose digits a text begins with, 0 if there are none or too many
abbrev pub digits_at : List ℕ → Part ℕ
digits_at text = record {
  value = unwrap_or (decimal_up_to max_128 (take (prefix_len is_ascii_digit text) text)) 0;
  rest = drop (prefix_len is_ascii_digit text) text;
}

-- the same after one byte
unfoldable pub number_at : List ℕ → Part ℕ
number_at text = digits_at (drop 1 text)

-- a number below the bound; any other is read as 0
abbrev pub narrow : ℕ → ℕ → ℕ
narrow bound n = if nat_lt n bound then n else 0

-- " yes", or else " no"
unfoldable pub flag_at : List ℕ → Part Bool
flag_at text =
    if starts_with nat_eq text (codes " yes") then record { value = true; rest = drop 4 text }
    else record { value = false; rest = drop 3 text }

-- the bytes before the first line feed, and those after it
unfoldable pub line_at : List ℕ → Part (List ℕ)
line_at text = record {
  value = take (prefix_len is_in_line text) text;
  rest = drop 1 (drop (prefix_len is_in_line text) text);
}
