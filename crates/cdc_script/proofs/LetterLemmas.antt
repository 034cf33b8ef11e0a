-- Letters in UTF-8.
use Rattle.std.proofs.Common.{◌≡◌, ℕ, Bool, true, false, List, length, refl}
use Rattle.std.specs.Str.{IsUtf8, is_utf8}
use Rattle.std.proofs.lemmas.Str.{IsUtf8-from_is_utf8, is_utf8-from_IsUtf8}
use Rattle.cdc_script.specs.Letters.{length_if_utf8}

-- UTF-8 has its length
pub length_of_text : (letter : List ℕ) → IsUtf8 letter → length letter ≡ length_if_utf8 letter
length_of_text letter text = rw (is_utf8-from_IsUtf8 letter text) refl

-- bytes that aren't UTF-8 count as one
length_otherwise : (letter : List ℕ) (b : Bool) → is_utf8 letter ≡ b → ¬ (IsUtf8 letter) → 1 ≡ length_if_utf8 letter
length_otherwise letter true h none = absurd (none (IsUtf8-from_is_utf8 letter h))
length_otherwise letter false h none = rw h refl

-- whatever they are
pub length_of_none : (letter : List ℕ) → ¬ (IsUtf8 letter) → 1 ≡ length_if_utf8 letter
length_of_none letter none = length_otherwise letter (is_utf8 letter) refl none
