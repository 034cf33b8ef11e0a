-- Digits that are read one by one.
use Rattle.std.proofs.Common.{◌≡◌, ◌≤◌, ◌<◌, ◌+◌, ◌*◌, ◌-◌, ◌/◌, ◌%◌, ◌^◌, ◌∷◌, ◌++◌, ◌&&◌, ◌∙◌, ℕ, List, [], drop, length, get_or, take, true, ap, sym, subst, refl, suc, append-nil, append_assoc, arith, rules}
use Rattle.std.proofs.lemmas.Bool.Decides.{nat_tests}
use Rattle.std.proofs.Math.Seq.{take-length}
use Rattle.std.proofs.Math.Nat.{pow-le-pow_right, pow-suc}
use Rattle.std.proofs.lemmas.Fmt.{decimal_digit, decimal_step_wide}
use Rattle.std.proofs.lemmas.Int.Digits.{digits_value_push}
use Rattle.std.proofs.lemmas.List.{get_or-drop, get_or-take, length-drop, take_more}
use Rattle.std.proofs.lemmas.List.Folds.{list_all-append}
use Rattle.std.proofs.lemmas.Nat.{pow-add}
use Rattle.std.proofs.lemmas.Str.{digit_value_digit}
use Rattle.std.proofs.lemmas.Str.Parse.{digit_from_value, digits_value_short}
use Rattle.std.specs.Char.{digit_value, is_ascii_digit}
use Rattle.std.specs.Fmt.{decimal}
use Rattle.std.specs.Int.{IsInRange}
use Rattle.std.specs.List.{list_all}
use Rattle.std.specs.Str.Parse.{AllDigits, digits_value, digits_value_after}
use Rattle.cdc_message.specs.Digits.{AreDigits, FourMore}
use Rattle.cdc_message.proofs.DecimalTexts.{own_digits}

-- none were read yet
pub begun : (text : List ℕ) → AreDigits text 0 0
begun text = record { within = omega arith; digits = refl; value = refl }

-- digits of a number below a power of ten
pub below : (text : List ℕ) (count number most : ℕ) → AreDigits text count number → count ≤ most → number < 10 ^ most
below text count number most reads few = rw reads.value
    (digits_value_short own_digits (take count text) most reads.digits (grind (arith, rules)))

-- a digit's value
digit_is : (d : ℕ) → is_ascii_digit d ≡ true → digit_value d ≡ d - 48
digit_is d digit =
    let range : IsInRange 48 57 d = grind (arith, nat_tests) in
    let whole = digit_value_digit d range in
    omega (arith, whole)

pub digit_below : (d : ℕ) → is_ascii_digit d ≡ true → d - 48 < 10
digit_below d digit = grind (arith, nat_tests)

-- a digit more is read
pub more : (text : List ℕ) (count number d : ℕ) → AreDigits text count number → count < length text
    → d ≡ get_or text count 0 → is_ascii_digit d ≡ true → AreDigits text (count + 1) (number * 10 + (d - 48))
more text count number d reads within is digit =
    let both : (list_all is_ascii_digit (take count text)
    && list_all is_ascii_digit (get_or text count 0 ∷ [])) ≡ true =
    rw reads.digits (rw (sym is) (rw digit refl)) in
    let sum : digits_value 10 (take count text) * 10 + digit_value (get_or text count 0) ≡ number * 10 + (d - 48) =
    rw (sym reads.value) (rw (sym is) (ap (λ v. number * 10 + v) (digit_is d digit))) in
    record {
      within = omega (arith, within);
      digits =
          ap (list_all is_ascii_digit) (take_more text count 0 within)
          ∙ list_all-append is_ascii_digit (take count text) (get_or text count 0 ∷ []) ∙ both;
      value =
          sym (ap (digits_value 10) (take_more text count 0 within)
          ∙ digits_value_push 10 (take count text) (get_or text count 0) ∙ sum);
    }

-- a text from a place on, as a slice has it
pub rest_is : (text : List ℕ) (count : ℕ) → drop count text ≡ take (length text - count) (drop count text)
rest_is text count =
    sym (ap (λ k. take k (drop count text)) (sym (length-drop count text)) ∙ take-length (drop count text))

-- four digits more are read
pub four_more : (text : List ℕ) (p q r s : ℕ) → 4 ≤ length text → is_ascii_digit (get_or text 0 0) ≡ true
    → is_ascii_digit (get_or text 1 0) ≡ true → is_ascii_digit (get_or text 2 0) ≡ true
    → is_ascii_digit (get_or text 3 0) ≡ true → p ≡ get_or text 0 0 - 48 → q ≡ get_or text 1 0 - 48
    → r ≡ get_or text 2 0 - 48 → s ≡ get_or text 3 0 - 48 → FourMore text ((p * 10 + q) * 100 + (r * 10 + s))
four_more text p q r s room is_a is_b is_c is_d is_p is_q is_r is_s all count number rest reads =
    let lengths : length all - count ≡ length text = sym (length-drop count all) ∙ ap length rest in
    let there : (k : ℕ) → get_or text k 0 ≡ get_or all (count + k) 0 =
    λ (k : ℕ). ap (λ t. get_or t k 0) (sym rest) ∙ get_or-drop count all k 0 in
    let none : count + 0 ≡ count = omega arith in
    let two : count + 2 ≡ count + 1 + 1 = omega arith in
    let three : count + 3 ≡ count + 1 + 1 + 1 = omega arith in
    let four : count + 1 + 1 + 1 + 1 ≡ count + 4 = omega arith in
    let a : ℕ = get_or text 0 0 in
    let b : ℕ = get_or text 1 0 in
    let c : ℕ = get_or text 2 0 in
    let d : ℕ = get_or text 3 0 in
    let read_1 : AreDigits all (count + 1) (number * 10 + (a - 48)) =
    more all count number a reads (omega (arith, lengths, room)) (there 0 ∙ ap (λ k. get_or all k 0) none) is_a in
    let read_2 : AreDigits all (count + 1 + 1) ((number * 10 + (a - 48)) * 10 + (b - 48)) =
    more all (count + 1) _ b read_1 (omega (arith, lengths, room)) (there 1) is_b in
    let read_3 : AreDigits all (count + 1 + 1 + 1) (((number * 10 + (a - 48)) * 10 + (b - 48)) * 10 + (c - 48)) =
    more all (count + 1 + 1) _ c read_2 (omega (arith, lengths, room)) (there 2 ∙ ap (λ k. get_or all k 0) two) is_c in
    let read_4 : AreDigits all (count + 1 + 1 + 1 + 1)
    ((((number * 10 + (a - 48)) * 10 + (b - 48)) * 10 + (c - 48)) * 10 + (d - 48)) =
    more all (count + 1 + 1 + 1) _ d read_3 (omega (arith, lengths, room))
    (there 3 ∙ ap (λ k. get_or all k 0) three) is_d in
    let sum : (((number * 10 + (a - 48)) * 10 + (b - 48)) * 10 + (c - 48)) * 10 + (d - 48)
    ≡ number * 10000 + ((p * 10 + q) * 100 + (r * 10 + s)) = omega (arith, is_p, is_q, is_r, is_s) in
    subst (λ (k : ℕ). AreDigits all k (number * 10000 + ((p * 10 + q) * 100 + (r * 10 + s)))) four
    (subst (λ (n : ℕ). AreDigits all (count + 1 + 1 + 1 + 1) n) sum read_4)

-- ---- digits after the first 19

-- a digit more takes ten times the scale
pub scaled : (count : ℕ) → 19 ≤ count → 10 ^ (count - 19) * 10 ≡ 10 ^ (count + 1 - 19)
scaled count past =
    let next : suc (count - 19) ≡ count + 1 - 19 = omega (arith, past) in
    sym (pow-suc 10 (count - 19)) ∙ ap (λ k. 10 ^ k) next

-- four digits more take ten thousand times the scale
pub scaled_by_four : (count : ℕ) → 19 ≤ count → 10 ^ (count - 19) * 10000 ≡ 10 ^ (count + 4 - 19)
scaled_by_four count past =
    let next : count - 19 + 4 ≡ count + 4 - 19 = omega (arith, past) in
    sym (pow-add 10 (count - 19) 4) ∙ ap (λ k. 10 ^ k) next

-- which fits into 64 bits for up to 15 digits
pub scale_fits_four : (count : ℕ) → 19 ≤ count → count ≤ 34 → 10 ^ (count - 19) ≤ 10 ^ 15
scale_fits_four count past few =
    let less : count - 19 ≤ 15 = omega (arith, past, few) in
    pow-le-pow_right (omega arith) less

-- which fits into 64 bits for up to 18 digits
pub scale_fits : (count : ℕ) → 19 ≤ count → count ≤ 37 → 10 ^ (count - 19) ≤ 10 ^ 18
scale_fits count past few =
    let less : count - 19 ≤ 18 = omega (arith, past, few) in
    pow-le-pow_right (omega arith) less

-- both parts with a digit more
pub joined : (high low scale d : ℕ) → (high * scale + low) * 10 + d ≡ high * (scale * 10) + (low * 10 + d)
joined high low scale d = omega arith

-- both parts with four digits more
pub joined_by_four : (high low scale four : ℕ)
    → (high * scale + low) * 10000 + four ≡ high * (scale * 10000) + (low * 10000 + four)
joined_by_four high low scale four = omega arith

-- ---- what digits are printed as

-- a digit after those of a number above 0
after : (n : ℕ) (ds : List ℕ) → 0 < n → AllDigits 10 ds → digits_value_after 10 n ds < 10 ^ 64
    → decimal (digits_value_after 10 n ds) ≡ decimal n ++ ds
after n [] some all small = sym (append-nil (decimal n))
after n (c ∷ cs) some all small =
    let m : ℕ = n * 10 + digit_value c in
    let k = digit_value_digit c (digit_from_value c all.0) in
    let front : m / 10 ≡ n = omega (arith, all.0) in
    let end : 48 + m % 10 ≡ c = omega (arith, all.0) in
    let least = le_after m cs in
    after m cs (omega arith) all.1 small
    ∙ ap (λ x. x ++ cs) (decimal_step_wide m (omega arith) (omega (arith, least)) ∙ (λ i. decimal (front i) ++ (end i ∷ [])))
    ∙ append_assoc (decimal n) (c ∷ []) cs
  where
    le_after : (n : ℕ) (ds : List ℕ) → n ≤ digits_value_after 10 n ds
    le_after n [] = omega arith
    le_after n (c ∷ cs) = omega (arith, le_after (n * 10 + digit_value c) cs)

-- digits are printed as they stand, if no zero precedes another one
as_they_stand : (ds : List ℕ) → AllDigits 10 ds → 0 < length ds → (get_or ds 0 0 ≡ 48 → length ds ≡ 1)
    → digits_value 10 ds < 10 ^ 64 → decimal (digits_value 10 ds) ≡ ds
as_they_stand [] all some plain small = absurd (omega arith)
as_they_stand (c ∷ []) all some plain small =
    let k = digit_value_digit c (digit_from_value c all.0) in
    decimal_digit (0 * 10 + digit_value c) (omega (arith, all.0)) ∙ ap (λ x. x ∷ []) (omega arith)
as_they_stand (c ∷ e ∷ cs) all some plain small =
    let k = digit_value_digit c (digit_from_value c all.0) in
    let no : c ≡ 48 → ⊥ = λ z. omega (arith, plain z) in
    let is : 48 + (0 * 10 + digit_value c) ≡ c = omega arith in
    after (0 * 10 + digit_value c) (e ∷ cs) (omega arith) all.1 small
    ∙ ap (λ x. x ++ (e ∷ cs)) (decimal_digit (0 * 10 + digit_value c) (omega (arith, all.0)) ∙ ap (λ x. x ∷ []) is)

-- so the digits that were read are what the number is printed as
pub printed : (text : List ℕ) (count number : ℕ) → AreDigits text count number → 0 < count → count ≤ 38
    → (get_or text 0 0 ≡ 48 → count ≡ 1) → decimal number ≡ take count text
printed text count number reads some few plain =
    let all : length (take count text) ≡ count = grind (arith, rules, reads.within) in
    let digits = own_digits.to (take count text) reads.digits in
    let small = below text count number 38 reads few in
    ap decimal reads.value
    ∙ as_they_stand (take count text) digits (omega (arith, all, some))
    (λ first. all ∙ plain (sym (get_or-take count text 0 0 some) ∙ first))
    (omega (arith, small, reads.value))
