use Rattle.std.proofs.Common.{◌++◌, ◌∙◌, ap, codes, decimal}
use Rattle.cdc_envelopes.proofs.FrontLemmas.{previous_bare}
use Rattle.cdc_envelopes.proofs.fronts.bare_previous.Goals as goal

pub returns : goal.returns
returns c =
    let n = c.in_ok-number.number in
    previous_bare n _ _ c.in_ok-number.ensures.fits
    (c.in_ok-number.ensures.text
    ∙ ap (λ t. codes "\"previous\":" ++ (decimal n ++ t)) c.in_ok-literal.ensures.text)
