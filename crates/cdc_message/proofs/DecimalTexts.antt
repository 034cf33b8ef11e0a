-- What a decimal text is read as.
use Rattle.std.proofs.Common.{◌≡◌, ◌≤◌, ◌<◌, ◌==◌, ◌&&◌, ◌-◌, ◌^◌, ◌∙◌, ℕ, List, length, get_or, Bool, true, false, not, Some, None, Result, Ok, Err, IsUtf8, refl, sym, ap, arith, rules, le-leb}
use Rattle.std.proofs.lemmas.Bool.Decides.{nat_tests}
use Rattle.std.proofs.lemmas.List.Sums.{AllPass-from_list_all}
use Rattle.std.proofs.lemmas.Str.{IsUtf8-from_ascii}
use Rattle.std.proofs.lemmas.Str.Ascii.{IsAscii-from_all}
use Rattle.std.proofs.lemmas.Str.Parse.{IsNumeralModel, numerals_by_value}
use Rattle.std.specs.Char.{is_ascii_digit}
use Rattle.std.specs.List.{list_all}
use Rattle.std.specs.Result.{OkIff, result_ok}
use Rattle.std.specs.Str.Parse.{digits_value}
use Rattle.cdc_message.specs.Decimals.{is_decimal, at_most}

-- `parse` and the definitions mean the same digits
pub own_digits : IsNumeralModel (λ text. list_all is_ascii_digit text ≡ true) (digits_value 10)
own_digits = numerals_by_value _ (search rules)

-- so that the two tests of a decimal text, that it has digits and nothing else, can be used one by one
both_true : (a b : Bool) → (a && b) ≡ true → (a ≡ true) × (b ≡ true)
both_true true true h = (refl, refl)
both_true true false h = absurd (cc)
both_true false b h = absurd (cc)

-- so that a decimal text is known to have a first digit
some_length : (n : ℕ) → not (n == 0) ≡ true → 0 < n
some_length n h = grind arith

-- a decimal text has digits alone, which is what `parse` asks
pub decimal_digits : (text : List ℕ) → is_decimal text ≡ true → list_all is_ascii_digit text ≡ true
decimal_digits text h = (both_true (not (length text == 0)) _ h).1

-- and it has at least one, without which `parse` refuses it
pub decimal_some : (text : List ℕ) → is_decimal text ≡ true → 0 < length text
decimal_some text h = some_length (length text) (both_true (not (length text == 0)) _ h).0

-- a number up to the greatest is taken
small : (greatest n : ℕ) → n ≤ greatest → at_most greatest n ≡ Some n
small greatest n h = rw (le-leb n greatest h)

-- a greater one isn't
large : (greatest n : ℕ) → (n ≤ greatest → ⊥) → at_most greatest n ≡ None
large greatest n h = grind arith

-- a number of 128 bits that `parse` gives is taken, and one that it refuses is too large
pub parsed_at_most : {E P : Type 0} (r : Result ℕ E) (n : ℕ) → OkIff r (P × (n < 2 ^ 128)) n → P
    → result_ok r ≡ at_most (2 ^ 128 - 1) n
parsed_at_most (Ok x) n is some = ap Some is.1 ∙ sym (small (2 ^ 128 - 1) n (omega (arith, is.0.1)))
parsed_at_most (Err e) n is some = sym (large (2 ^ 128 - 1) n (λ few. is (some, omega (arith, few))))

-- a digit's byte is one of ASCII
digit_is_ascii : (b : ℕ) → is_ascii_digit b ≡ true → b < 128
digit_is_ascii b digit = grind (arith, nat_tests)

-- digits are text, so they can be handed to `parse`
pub digits_are_text : (text : List ℕ) → list_all is_ascii_digit text ≡ true → IsUtf8 text
digits_are_text text digits =
    IsUtf8-from_ascii text
    (IsAscii-from_all text
    (λ k d below. digit_is_ascii (get_or text k d) (AllPass-from_list_all is_ascii_digit text digits k d below)))
