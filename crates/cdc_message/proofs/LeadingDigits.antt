-- The digits at the front of a text.
use Rattle.std.proofs.Common.{append-nil, ◌≡◌, ℕ, ◌-◌, ◌<◌, ◌≤◌, ◌==◌, ◌^◌, ◌&&◌, ◌∙◌, List, [], ◌∷◌, ◌++◌, length, get_or, take, drop, decimal, Bool, cond, true, false, Some, refl, sym, ap, arith, le-leb}
use Rattle.std.proofs.lemmas.Fmt.{decimal_is_IsNumeral_wide}
use Rattle.std.proofs.lemmas.List.{length-take-le, take-append-drop}
use Rattle.std.proofs.lemmas.List.Sums.{take_while-cons}
use Rattle.std.proofs.Math.ListN.{drop_of_length-le}
use Rattle.std.proofs.Math.Seq.{drop-append_seam, drop-cons, take-append_seam}
use Rattle.std.specs.Char.{is_ascii_digit}
use Rattle.std.specs.List.{list_all, prefix_len, take_while}
use Rattle.std.specs.Str.Parse.{digits_value}
use Rattle.cdc_message.specs.Decimals.{at_most, is_decimal}
use Rattle.cdc_message.specs.OwnBodies.{begins_with_digit}
use Rattle.cdc_message.proofs.DecimalTexts.{own_digits}

-- two tests that hold together
both : (a b : Bool) → (a && b) ≡ true → (a ≡ true) × (b ≡ true)
both true b h = (refl, h)
both false b h = cc

-- digits that no further digit follows are all digits at the front
prefix_is : (digits rest : List ℕ) → list_all is_ascii_digit digits ≡ true → begins_with_digit rest ≡ false
    → prefix_len is_ascii_digit (digits ++ rest) ≡ length digits
prefix_is [] [] all ends = refl
prefix_is [] (byte ∷ rest) all ends = rw ends
prefix_is (digit ∷ digits) rest all ends =
    let first = both (is_ascii_digit digit) (list_all is_ascii_digit digits) all in
    let others = prefix_is digits rest first.1 ends in
    rw first.0 (omega (arith, others))

-- no digit begins what follows the last byte, or a byte that is none
pub ends_all : (text : List ℕ) (count : ℕ) → length text ≤ count → begins_with_digit (drop count text) ≡ false
ends_all text count all = rw (drop_of_length-le text all)

pub ends_at : (text : List ℕ) (count : ℕ) → count < length text → is_ascii_digit (get_or text count 0) ≡ false
    → begins_with_digit (drop count text) ≡ false
ends_at text count within none = rw (drop-cons text count 0 within) none

-- as many bytes as a text has are all of it
pub all_taken : (text : List ℕ) (count : ℕ) → length text ≤ count → take count text ≡ text
all_taken text count all =
    sym (append-nil (take count text)) ∙ ap (λ back. take count text ++ back) (sym (drop_of_length-le text all))
    ∙ take-append-drop count text

-- so many digits, that no further digit follows, are all digits at the front
pub front_is : (text : List ℕ) (count : ℕ) → count ≤ length text → list_all is_ascii_digit (take count text) ≡ true
    → begins_with_digit (drop count text) ≡ false → take count text ≡ take_while is_ascii_digit text
front_is text count within all ends =
    let prefix : prefix_len is_ascii_digit text ≡ count =
    ap (prefix_len is_ascii_digit) (sym (take-append-drop count text))
    ∙ prefix_is (take count text) (drop count text) all ends ∙ length-take-le count text within in
    ap (λ k. take k text) (sym prefix)

-- a number's text is digits
decimal_digits : (n : ℕ) → n < 10 ^ 64 → list_all is_ascii_digit (decimal n) ≡ true
decimal_digits n small = own_digits.from (decimal n) (decimal_is_IsNumeral_wide n small).0.1

-- so a number that no digit follows is found at the front
decimal_prefix : (n : ℕ) (rest : List ℕ) → n < 10 ^ 64 → begins_with_digit rest ≡ false
    → prefix_len is_ascii_digit (decimal n ++ rest) ≡ length (decimal n)
decimal_prefix n rest small ends = prefix_is (decimal n) rest (decimal_digits n small) ends

-- and only one number is
pub one_number : (m n : ℕ) (r s : List ℕ) → m < 10 ^ 64 → n < 10 ^ 64 → begins_with_digit r ≡ false
    → begins_with_digit s ≡ false → decimal m ++ r ≡ decimal n ++ s → (m ≡ n) × (r ≡ s)
one_number m n r s m_small n_small r_ends s_ends same =
    let lengths : length (decimal m) ≡ length (decimal n) =
    sym (decimal_prefix m r m_small r_ends) ∙ ap (prefix_len is_ascii_digit) same ∙ decimal_prefix n s n_small s_ends in
    let texts : decimal m ≡ decimal n =
    sym (take-append_seam (decimal m) r) ∙ ap (take (length (decimal m))) same
    ∙ ap (λ k. take k (decimal n ++ s)) lengths ∙ take-append_seam (decimal n) s in (
      sym (decimal_is_IsNumeral_wide m m_small).1 ∙ ap (digits_value 10) texts
          ∙ (decimal_is_IsNumeral_wide n n_small).1,
      sym (drop-append_seam (decimal m) r) ∙ ap (drop (length (decimal m))) same
          ∙ ap (λ k. drop k (decimal n ++ s)) lengths ∙ drop-append_seam (decimal n) s,
    )

-- the number that was read at the front of a text is the one that was written there
pub read_is : (text rest : List ℕ) (number count n : ℕ) → decimal number ≡ take count text
    → begins_with_digit (drop count text) ≡ false → number < 10 ^ 64 → text ≡ decimal n ++ rest → n < 10 ^ 64
    → begins_with_digit rest ≡ false → (number ≡ n) × (drop count text ≡ rest)
read_is text rest number count n read whole small is n_small ends =
    one_number number n (drop count text) rest small n_small whole ends
    (ap (λ front. front ++ drop count text) read ∙ take-append-drop count text ∙ is)

-- the digits at the front of a text in which a number was written are the number's
pub digits_are : (text rest : List ℕ) (n : ℕ) → text ≡ decimal n ++ rest → n < 10 ^ 64 → begins_with_digit rest ≡ false
    → take_while is_ascii_digit text ≡ decimal n
digits_are text rest n is small ends =
    ap (take_while is_ascii_digit) is ∙ ap (λ k. take k (decimal n ++ rest)) (decimal_prefix n rest small ends)
    ∙ take-append_seam (decimal n) rest

-- a number has a digit
pub some_digit : (n : ℕ) → n < 10 ^ 64 → 0 < length (decimal n)
some_digit n small = (decimal_is_IsNumeral_wide n small).0.0

-- one more digit, if it is one
all_more : (is_digit : Bool) (digit : ℕ) (digits : List ℕ) → is_ascii_digit digit ≡ is_digit
    → list_all is_ascii_digit digits ≡ true
    → list_all is_ascii_digit (cond is_digit (digit ∷ digits) []) ≡ true
all_more true digit digits is all = rw is all
all_more false digit digits is all = refl

-- the digits at the front of a text are digits
all_digits : (text : List ℕ) → list_all is_ascii_digit (take_while is_ascii_digit text) ≡ true
all_digits [] = refl
all_digits (byte ∷ text) =
    rw (take_while-cons is_ascii_digit byte text)
    (all_more (is_ascii_digit byte) byte (take_while is_ascii_digit text) refl (all_digits text))

-- so if there is one, they are a decimal text
pub digits_are_decimal : (text digits : List ℕ) → digits ≡ take_while is_ascii_digit text → 0 < length digits
    → is_decimal digits ≡ true
digits_are_decimal text digits are some =
    let all : list_all is_ascii_digit digits ≡ true = rw are (all_digits text) in
    let has : (length digits == 0) ≡ false = grind arith in
    rw has all

-- a number of 128 bits isn't too large
pub number_fits : (digits : List ℕ) (n : ℕ) → digits ≡ decimal n → n < 2 ^ 128
    → at_most (2 ^ 128 - 1) (digits_value 10 digits) ≡ Some n
number_fits digits n are small =
    let value : digits_value 10 digits ≡ n =
    ap (digits_value 10) are ∙ (decimal_is_IsNumeral_wide n (omega arith)).1 in
    rw value (rw (le-leb n (2 ^ 128 - 1) (omega arith)))
