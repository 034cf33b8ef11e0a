-- A position has no quote and no backslash.
use Rattle.std.proofs.Common.{◌≡◌, ℕ, ◌<◌, ◌^◌, List, [], ◌∷◌, ◌++◌, Bool, true, false, refl}
use Rattle.std.proofs.Common.{sym, ap, ◌∙◌, arith, ◌&&◌, inl, inr}
use Rattle.std.specs.Prelude.{codes, decimal}
use Rattle.std.specs.Char.{is_ascii_digit}
use Rattle.std.specs.List.{list_all}
use Rattle.std.proofs.lemmas.Bool.{and_parts, false≢true}
use Rattle.std.proofs.lemmas.Bool.Decides.{eqb_tells}
use Rattle.std.proofs.lemmas.Fmt.{decimal_is_IsNumeral_wide}
use Rattle.std.proofs.lemmas.List.Folds.{list_all-append}
use Rattle.cdc_message.proofs.DecimalTexts.{own_digits}
use Rattle.cdc_codec.specs.Texts.{flagged}
use Rattle.cdc_sql.specs.Laws.{PositionsAreQuoted, is_unquoted}
use Rattle.cdc_sql.specs.Plain.{is_plain_byte}

-- a text has no quote and no backslash
record Unquoted (text : List ℕ) : Type 0 where
  pub none : list_all is_unquoted text ≡ true

-- such a text that is written out
given : {text : List ℕ} → list_all is_unquoted text ≡ true → Unquoted text
given none = record { none = none }

-- one text after another
join : (a b : List ℕ) → Unquoted a → Unquoted b → Unquoted (a ++ b)
join a b one two =
    given (list_all-append is_unquoted a b ∙ ap (λ t. t && list_all is_unquoted b) one.none ∙ two.none)

-- a test that fails at both
one_passes : (test : ℕ → Bool) (byte : ℕ) → test 39 ≡ false → test 92 ≡ false → test byte ≡ true
    → is_unquoted byte ≡ true
one_passes test byte quote escape passes =
    elim (eqb_tells byte 39) [
      | inl same ↦ absurd (false≢true (sym quote ∙ sym (ap test same.1) ∙ passes))
      | inr no_quote ↦ elim (eqb_tells byte 92) [
        | inl same ↦ absurd (false≢true (sym escape ∙ sym (ap test same.1) ∙ passes))
        | inr no_escape ↦ rw (no_quote.0, no_escape.0) refl
      ]
    ]

all_pass : (test : ℕ → Bool) (bytes : List ℕ) → test 39 ≡ false → test 92 ≡ false → list_all test bytes ≡ true
    → Unquoted bytes
all_pass test [] quote escape all = given refl
all_pass test (byte ∷ bytes) quote escape all =
    let parts = and_parts (test byte) (list_all test bytes) all in
    given (ap (λ t. t && list_all is_unquoted bytes) (one_passes test byte quote escape parts.0)
    ∙ (all_pass test bytes quote escape parts.1).none)

number : (n : ℕ) → n < 2 ^ 64 → Unquoted (decimal n)
number n fits =
    let numeral = (decimal_is_IsNumeral_wide n (omega (arith, fits))).0 in
    all_pass is_ascii_digit (decimal n) refl refl (own_digits.from (decimal n) numeral.1)

flag_is : (name : List ℕ) (flag : Bool) → Unquoted name → Unquoted (flagged name flag)
flag_is name true is = join name (codes " yes") is (given refl)
flag_is name false is = join name (codes " no") is (given refl)

pub quoted : PositionsAreQuoted
quoted chained binding place plain fits =
    (join (flagged (codes "book 1 chained") chained) _ (flag_is (codes "book 1 chained") chained (given refl))
    (join (codes " seen " ++ decimal place.seen) _
    (join (codes " seen ") (decimal place.seen) (given refl) (number place.seen fits.seen))
    (join (codes "\nbinding ") _ (given refl) (join binding _ (all_pass is_plain_byte binding refl refl plain)
    (join (codes "\nsubscriber 1 applied " ++ decimal place.applied) _
    (join (codes "\nsubscriber 1 applied ") (decimal place.applied) (given refl) (number place.applied fits.applied))
    (join (codes " last " ++ decimal place.last) _
    (join (codes " last ") (decimal place.last) (given refl) (number place.last fits.last))
    (join (flagged (codes " ended") place.ended) _ (flag_is (codes " ended") place.ended (given refl))
    (flag_is (codes " closed") place.closed (given refl))))))))).none
