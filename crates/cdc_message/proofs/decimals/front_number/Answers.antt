use Rattle.std.proofs.Common.{◌≡◌, ◌≤◌, ◌<◌, ◌^◌, ◌∙◌, Option, None, Some, IfSome, ap, decimal, get_or, length, List, ℕ, refl, take, arith}
use Rattle.std.proofs.lemmas.Bool.Decides.{nat_tests}
use Rattle.cdc_message.specs.Digits.{AreDigits}
use Rattle.cdc_message.proofs.ShortNumbers.{below, printed}
use Rattle.cdc_message.proofs.decimals.front_number.Goals as goal
use Rattle.cdc_message.proofs.decimals.front_number.Goals.{then-count-gt1, else-count-gt1}

-- one digit
pub returns-in-Some-clause-digits : goal.returns-in-Some-clause-digits
returns-in-Some-clause-digits c = (
  c.in-Some.ensures.reads.within,
  printed c.args.text.now 1 c.in-Some.digit c.in-Some.ensures.reads (omega arith) (omega arith) (λ _. refl),
)

pub returns-in-Some-clause-fits : goal.returns-in-Some-clause-fits
returns-in-Some-clause-fits c = below c.args.text.now 1 c.in-Some.digit 38 c.in-Some.ensures.reads (omega arith)

pub returns-then-count-lt-FIRST-clause-digits : goal.returns-then-count-lt-FIRST-clause-digits
returns-then-count-lt-FIRST-clause-digits c =
    let read = c.first_digits-number in
    let plain : get_or c.args.text.now 0 0 ≡ 48 → read.result.1 ≡ 1 =
    elim c.if-count-gt1.branch [
      | then-count-gt1 w ↦ λ first. grind (arith, nat_tests, w.value-is)
      | else-count-gt1 w ↦ λ _. omega (arith, w.if-count-gt1.false, c.if-count-eq0.false)
    ] in (
      read.ensures.reads.within,
      ap decimal c.from.ensures
          ∙ printed c.args.text.now read.result.1 read.result.0 read.ensures.reads (omega (arith, c.if-count-eq0.false))
          (omega (arith, read.ensures.few)) plain,
    )

-- 19 digits are all that were asked for
pub more_digits-requires : goal.more_digits-requires
more_digits-requires c =
    let read = c.first_digits-number in
    let all : 19 ≡ read.result.1 = omega (arith, read.ensures.few, c.if-count-lt-FIRST.false) in
    rw all read.ensures.reads

-- what is printed of the digits that were read
shown : (text : List ℕ) (found : Option (ℕ × ℕ)) → (get_or text 0 0 ≡ 48 → ⊥)
    → IfSome found (λ read. AreDigits text read.1 read.0) → IfSome found (λ read. (19 ≤ read.1) × (read.1 ≤ 38))
    → IfSome found (λ read. (read.1 ≤ length text) × (decimal read.0 ≡ take read.1 text))
shown text None plain are few = tt
shown text (Some (number, count)) plain are few = (
  are.within,
  printed text count number are (omega (arith, few.0)) few.1 (λ first. absurd (plain first)),
)

small : (text : List ℕ) (found : Option (ℕ × ℕ)) → IfSome found (λ read. AreDigits text read.1 read.0)
    → IfSome found (λ read. (19 ≤ read.1) × (read.1 ≤ 38)) → IfSome found (λ read. read.0 < 10 ^ 38)
small text None are few = tt
small text (Some (number, count)) are few = below text count number 38 are few.1

pub returns-clause-digits : goal.returns-clause-digits
returns-clause-digits c =
    let read = c.first_digits-number in
    let plain : get_or c.args.text.now 0 0 ≡ 48 → ⊥ =
    elim c.if-count-gt1.branch [
      | then-count-gt1 w ↦ λ first. grind (arith, nat_tests, w.value-is)
      | else-count-gt1 w ↦ λ _. omega (arith, w.if-count-gt1.false, c.if-count-lt-FIRST.false)
    ] in
    shown c.args.text.now c.more_digits.result plain c.more_digits.ensures.reads c.more_digits.ensures.few

pub returns-clause-fits : goal.returns-clause-fits
returns-clause-fits c =
    small c.args.text.now c.more_digits.result c.more_digits.ensures.reads c.more_digits.ensures.few
