use Rattle.cdc_message.proofs.DecimalTexts.{decimal_digits, digits_are_text}
use Rattle.cdc_message.proofs.decimals.value_of.Goals as goal

pub returns-in_default : goal.returns-in_default
returns-in_default c =
    let digits = decimal_digits c.args.digits.now c.requires in
    absurd (c.in_default.ensures.cases.0 (digits_are_text c.args.digits.now digits))
