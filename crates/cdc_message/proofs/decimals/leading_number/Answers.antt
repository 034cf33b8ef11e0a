use Rattle.std.proofs.Common.{◌<◌, ◌^◌, ◌∙◌, length, ap, arith}
use Rattle.std.proofs.lemmas.Bool.Decides.{nat_tests}
use Rattle.cdc_message.proofs.LeadingDigits.{digits_are, digits_are_decimal, number_fits, some_digit}
use Rattle.cdc_message.proofs.decimals.leading_number.Goals as goal

-- a number has a digit
pub returns-then-is_empty : goal.returns-then-is_empty
returns-then-is_empty c n rest is small ends =
    let wide : n < 10 ^ 64 = omega arith in
    let digits = c.leading_digits-digits.ensures ∙ digits_are c.args.text.now rest n is wide ends in
    let some = some_digit n wide in
    let lengths = ap length digits in
    absurd (grind (arith, nat_tests))

pub value_of-requires : goal.value_of-requires
value_of-requires c =
    digits_are_decimal c.args.text.now c.leading_digits-digits.result.now c.leading_digits-digits.ensures
    (grind (arith, nat_tests))

pub returns : goal.returns
returns c n rest is small ends =
    let wide : n < 10 ^ 64 = omega arith in
    c.value_of.ensures
    ∙ number_fits c.leading_digits-digits.result.now n
    (c.leading_digits-digits.ensures ∙ digits_are c.args.text.now rest n is wide ends) small
