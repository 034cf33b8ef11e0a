-- Printable words as texts.
use Rattle.std.proofs.Common.{◌≡◌, ℕ, ◌<◌, ◌&&◌, true, List, arith}
use Rattle.std.specs.Prelude.{nat_le}
use Rattle.std.specs.Str.{IsUtf8}
use Rattle.std.proofs.lemmas.List.Sums.{AllPass-from_list_all}
use Rattle.std.proofs.lemmas.Str.{IsUtf8-from_ascii}
use Rattle.std.proofs.lemmas.Str.Ascii.{IsAscii-from_all}
use Rattle.cdc_script.specs.Words.{is_printable}

-- a printable byte is ASCII
ascii_byte : (b : ℕ) → (nat_le 32 b && nat_le b 126) ≡ true → b < 128
ascii_byte b h = grind (arith, h)

-- so a printable word is a text
pub printable_text : (word : List ℕ) → is_printable word ≡ true → IsUtf8 word
printable_text word h =
    let each = AllPass-from_list_all _ word h in
    IsUtf8-from_ascii word (IsAscii-from_all word (λ i d below. ascii_byte _ (each i d below)))
