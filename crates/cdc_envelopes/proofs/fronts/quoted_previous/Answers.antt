use Rattle.std.proofs.Common.{◌++◌, ◌∙◌, ap, codes, decimal, refl, sym}
use Rattle.cdc_message.proofs.OwnParts.{not_none}
use Rattle.cdc_envelopes.proofs.FrontLemmas.{previous_quoted}
use Rattle.cdc_envelopes.proofs.fronts.quoted_previous.Goals as goal

pub returns-in_err-number-clause-complete : goal.returns-in_err-number-clause-complete
returns-in_err-number-clause-complete c n rest is fits =
    not_none c.in_err-number.was (c.number_after.ensures.complete n _ is fits refl).0

pub returns-in_err-literal-clause-complete : goal.returns-in_err-literal-clause-complete
returns-in_err-literal-clause-complete c n rest is fits =
    let first = c.number_after.ensures.complete n _ is fits refl in
    not_none c.in_err-literal.was (c.literal.ensures.complete rest first.1).0

pub returns-clause-previous : goal.returns-clause-previous
returns-clause-previous c =
    let n = c.in_ok-number.number in
    previous_quoted n _ _ c.in_ok-number.ensures.fits
    (c.in_ok-number.ensures.text
    ∙ ap (λ t. codes "\"previous\":\"" ++ (decimal n ++ t)) c.in_ok-literal.ensures.text)

pub returns-clause-complete : goal.returns-clause-complete
returns-clause-complete c n rest is fits =
    let first = c.number_after.ensures.complete n _ is fits refl in
    let second = c.literal.ensures.complete rest first.1 in
    (sym c.in_ok-number.was ∙ first.0, second.1)
