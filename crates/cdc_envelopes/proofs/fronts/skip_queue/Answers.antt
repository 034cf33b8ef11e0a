use Rattle.std.proofs.Common.{◌++◌, ◌∙◌, ap, codes, decimal, refl}
use Rattle.cdc_message.proofs.OwnParts.{not_none}
use Rattle.cdc_envelopes.proofs.FrontLemmas.{queue_front}
use Rattle.cdc_envelopes.proofs.fronts.skip_queue.Goals as goal

pub returns-in_err-literal-clause-complete : goal.returns-in_err-literal-clause-complete
returns-in_err-literal-clause-complete c n rest is fits =
    let first = c.number_after.ensures.complete n _ is fits refl in
    not_none c.in_err-literal.was (c.literal.ensures.complete rest first.1).0

pub returns-clause-begins : goal.returns-clause-begins
returns-clause-begins c =
    let n = c.in_ok-number_after.field-0 in
    queue_front n _ _ c.in_ok-number_after.ensures.fits
    (c.in_ok-number_after.ensures.text
    ∙ ap (λ t. codes "{\"queue\":" ++ (decimal n ++ t)) c.in_ok-literal.ensures.text)
