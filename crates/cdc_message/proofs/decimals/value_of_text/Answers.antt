use Rattle.std.proofs.Common.{◌∙◌}
use Rattle.std.proofs.lemmas.Str.Parse.{parse_digits}
use Rattle.std.specs.Str.Parse.{digits_value}
use Rattle.cdc_message.proofs.DecimalTexts.{own_digits, decimal_digits, decimal_some, parsed_at_most}
use Rattle.cdc_message.proofs.decimals.value_of_text.Goals as goal

pub returns : goal.returns
returns c =
    let text = c.args.digits.now in
    let digits = decimal_digits text c.requires in
    let parsed = parse_digits own_digits 128 text c.parse.result c.parse.ensures.value.0 digits in
    c.ok.ensures.value
    ∙ parsed_at_most c.parse.result (digits_value 10 text) parsed (decimal_some text c.requires)
