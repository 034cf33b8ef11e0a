-- Numbers, flags and lines that were written are read back.
use Rattle.std.proofs.Common.{◌≡◌, ℕ, ◌+◌, ◌<◌, ◌≤◌, ◌^◌, List, [], ◌∷◌, ◌++◌, length, take, drop, Bool, true, false}
use Rattle.std.proofs.Common.{cond, Some, refl, sym, ap, ◌∙◌, arith, le-leb, lt-ltb}
use Rattle.std.specs.Prelude.{◌==◌, not, codes, decimal, nat_eq, unwrap_or}
use Rattle.std.specs.Char.{is_ascii_digit}
use Rattle.std.specs.List.{list_all, prefix_len, starts_with}
use Rattle.std.proofs.Math.Seq.{take-append_seam, drop-append_seam}
use Rattle.std.proofs.lemmas.Bool.{and_parts, false≢true}
use Rattle.std.proofs.lemmas.Fmt.{decimal_is_IsNumeral_wide}
use Rattle.cdc_types.specs.Widths.{max_128}
use Rattle.cdc_message.specs.Decimals.{decimal_up_to}
use Rattle.cdc_message.proofs.DecimalTexts.{own_digits}
use Rattle.cdc_codec.specs.Parts.{Part, line_at, narrow, number_at}
use Rattle.cdc_codec.specs.ReadBack.{ReadsFlag, ReadsLine, ReadsNumber}
use Rattle.cdc_codec.specs.Texts.{is_in_line, spaced}

-- bytes that pass a test end at the first byte that doesn't
prefix_end : (test : ℕ → Bool) (bytes : List ℕ) (end : ℕ) (rest : List ℕ) → list_all test bytes ≡ true
    → test end ≡ false → prefix_len test (bytes ++ end ∷ rest) ≡ length bytes
prefix_end test [] end rest all other = ap (λ b. cond b (1 + prefix_len test rest) 0) other
prefix_end test (b ∷ bytes) end rest all other =
    let parts = and_parts (test b) (list_all test bytes) all in
    let more = prefix_end test bytes end rest parts.1 other in
    ap (λ t. cond t (1 + prefix_len test (bytes ++ end ∷ rest)) 0) parts.0 ∙ omega (arith, more)

-- they are what precedes that byte, and it is what follows them
at_end : (test : ℕ → Bool) (bytes : List ℕ) (end : ℕ) (rest : List ℕ) → list_all test bytes ≡ true
    → test end ≡ false
    → (take (prefix_len test (bytes ++ end ∷ rest)) (bytes ++ end ∷ rest) ≡ bytes)
    × (drop (prefix_len test (bytes ++ end ∷ rest)) (bytes ++ end ∷ rest) ≡ end ∷ rest)
at_end test bytes end rest all other =
    let len = prefix_end test bytes end rest all other in (
      ap (λ k. take k (bytes ++ end ∷ rest)) len ∙ take-append_seam bytes (end ∷ rest),
      ap (λ k. drop k (bytes ++ end ∷ rest)) len ∙ drop-append_seam bytes (end ∷ rest),
    )

-- a part of a text
abbrev part : {T : Type 0} → T → List ℕ → Part T
part value rest = record { value = value; rest = rest }

-- two parts are equal if their halves are
same_part : {T : Type 0} (a b : T) (x y : List ℕ) → a ≡ b → x ≡ y → part a x ≡ part b y
same_part a b x y same more = ap (λ v. part v x) same ∙ ap (λ r. part b r) more

-- ---- numbers

no_zero : (n : ℕ) → 0 < n → not (n == 0) ≡ true
no_zero n h = grind arith

-- what a number is written as: digits, and at least one
digits_written : (n : ℕ) → n < 2 ^ 128 → list_all is_ascii_digit (decimal n) ≡ true
digits_written n fits =
    let numeral = (decimal_is_IsNumeral_wide n (omega (arith, fits))).0 in own_digits.from (decimal n) numeral.1

value_written : (n : ℕ) → n < 2 ^ 128 → decimal_up_to max_128 (decimal n) ≡ Some n
value_written n fits =
    let numeral = decimal_is_IsNumeral_wide n (omega (arith, fits)) in
    let within : n ≤ max_128 = omega (arith, fits) in
    rw (no_zero (length (decimal n)) numeral.0.0, digits_written n fits, numeral.1, le-leb n max_128 within) refl

-- a number is read back if another byte follows it
number_first : (n end : ℕ) (rest : List ℕ) → n < 2 ^ 128 → is_ascii_digit end ≡ false
    → number_at (spaced n ++ end ∷ rest) ≡ part n (end ∷ rest)
unfolding number_at
number_first n end rest fits other =
    let both = at_end is_ascii_digit (decimal n) end rest (digits_written n fits) other in
    same_part _ _ _ _
    (ap (λ digits. unwrap_or (decimal_up_to max_128 digits) 0) both.0
    ∙ ap (λ v. unwrap_or v 0) (value_written n fits)) both.1

narrow_is : (bound n : ℕ) → n < bound → narrow bound n ≡ n
narrow_is bound n fits = ap (λ b. cond b n 0) (lt-ltb n bound fits)

pub reads_number : (bound : ℕ) (text : List ℕ) (value : ℕ) (left : List ℕ) → bound ≤ 2 ^ 128
    → value ≡ (number_at text).value → left ≡ (number_at text).rest → ReadsNumber bound text value left
reads_number bound text value left wide value_is left_is n end rest fits other is =
    let short : n < 2 ^ 128 = omega arith in
    let read = ap number_at is ∙ number_first n end rest short other in
    (value_is ∙ ap (λ (p : Part ℕ). p.value) read, left_is ∙ ap (λ (p : Part ℕ). p.rest) read)

-- the same of a number that is narrowed
pub reads_narrow : (bound : ℕ) (text : List ℕ) (value : ℕ) (left : List ℕ) → bound ≤ 2 ^ 128
    → value ≡ narrow bound (number_at text).value → left ≡ (number_at text).rest → ReadsNumber bound text value left
reads_narrow bound text value left within value_is left_is n end rest fits other is =
    let both = reads_number bound text (number_at text).value left within refl left_is n end rest fits other is in
    (value_is ∙ ap (narrow bound) both.0 ∙ narrow_is bound n fits, both.1)

-- ---- flags

pub reads_yes : (text left : List ℕ) → starts_with nat_eq text (codes " yes") ≡ true → left ≡ drop 4 text
    → ReadsFlag text true left
reads_yes text left begins left_is true rest is = (refl, left_is ∙ ap (drop 4) is)
reads_yes text left begins left_is false rest is =
    absurd (false≢true (sym (ap (λ t. starts_with nat_eq t (codes " yes")) is) ∙ begins))

pub reads_no : (text left : List ℕ) → starts_with nat_eq text (codes " yes") ≡ false → left ≡ drop 3 text
    → ReadsFlag text false left
reads_no text left begins left_is false rest is = (refl, left_is ∙ ap (drop 3) is)
reads_no text left begins left_is true rest is =
    absurd (false≢true (sym begins ∙ ap (λ t. starts_with nat_eq t (codes " yes")) is))

-- ---- lines

pub reads_line : (text value left : List ℕ) → value ≡ (line_at text).value → left ≡ (line_at text).rest
    → ReadsLine text value left
unfolding line_at
reads_line text value left value_is left_is line rest all is =
    let both = at_end is_in_line line 10 rest all refl in (
      value_is ∙ ap (λ t. (line_at t).value) is ∙ both.0,
      left_is ∙ ap (λ t. (line_at t).rest) is ∙ ap (drop 1) both.1,
    )
