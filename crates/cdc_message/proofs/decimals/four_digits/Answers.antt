use Rattle.std.proofs.Common.{sym}
use Rattle.cdc_message.proofs.ShortNumbers.{four_more}
use Rattle.cdc_message.proofs.decimals.four_digits.Goals as goal

pub returns-in-len4-up-clause-reads : goal.returns-in-len4-up-clause-reads
returns-in-len4-up-clause-reads c =
    four_more c.args.text.now c.from.result c.from-in-len4-up.result c.from-in-len4-up-2.result
    c.from-in-len4-up-3.result c.in-len4-up.len_at_least (sym c.if-is_ascii_digit.ensures.value)
    (sym c.if-is_ascii_digit-2.ensures.value) (sym c.if-is_ascii_digit-3.ensures.value)
    (sym c.if-is_ascii_digit-4.ensures.value) c.from.ensures c.from-in-len4-up.ensures c.from-in-len4-up-2.ensures
    c.from-in-len4-up-3.ensures
