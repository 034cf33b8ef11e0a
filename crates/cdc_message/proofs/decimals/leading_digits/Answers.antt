use Rattle.std.proofs.Common.{◌∙◌, refl, sym}
use Rattle.std.proofs.lemmas.List.Folds.{list_all_more}
use Rattle.std.specs.Char.{is_ascii_digit}
use Rattle.cdc_message.proofs.LeadingDigits.{all_taken, ends_all, ends_at, front_is}
use Rattle.cdc_message.proofs.decimals.leading_digits.Goals as goal

pub loop-count-init : goal.loop-count-init
loop-count-init c = refl

pub loop-count-preserved : goal.loop-count-preserved
loop-count-preserved c =
    list_all_more is_ascii_digit c.args.text.now c.loop-count.count 0 c.loop-count-test.true
    ∙ rw c.loop-count.invariant (sym c.if-not-is_ascii_digit.ensures.value)

-- a byte that is no digit ends them
pub returns-then-not-is_ascii_digit : goal.returns-then-not-is_ascii_digit
returns-then-not-is_ascii_digit c =
    front_is c.args.text.now c.loop-count.count c.loop-count.auto.count-end c.loop-count.invariant
    (ends_at c.args.text.now c.loop-count.count c.loop-count-test.true (sym c.if-not-is_ascii_digit.ensures.value))

-- all bytes are digits
pub returns : goal.returns
returns c =
    sym (all_taken c.args.text.now c.loop-count.count c.loop-count-test.false)
    ∙ front_is c.args.text.now c.loop-count.count c.loop-count.auto.count-end c.loop-count.invariant
    (ends_all c.args.text.now c.loop-count.count c.loop-count-test.false)
