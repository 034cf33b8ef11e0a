use Rattle.std.proofs.Common.{◌++◌, ◌∙◌, ap, codes, decimal}
use Rattle.cdc_envelopes.proofs.FrontLemmas.{delivery_front}
use Rattle.cdc_envelopes.proofs.fronts.skip_delivery.Goals as goal

pub returns : goal.returns
returns c =
    let n = c.in_ok-number_after.field-0 in
    let position = c.in_ok-number_after-2.field-0 in
    delivery_front n position _ c.literal.new.self.rest.now _ c.in_ok-number_after.ensures.fits
    c.in_ok-number_after-2.ensures.fits
    (c.in_ok-number_after.ensures.text
    ∙ ap (λ t. codes "{\"kind\":\"delivery\",\"delivery\":" ++ (decimal n ++ t))
    (c.in_ok-number_after-2.ensures.text
    ∙ ap (λ t. codes ",\"position\":" ++ (decimal position ++ t)) c.in_ok-literal.ensures.text))
    c.in_ok-skip_flag.ensures
