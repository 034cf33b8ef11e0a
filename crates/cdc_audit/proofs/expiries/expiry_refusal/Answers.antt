use Rattle.cdc_audit.proofs.Words.{[], apart_line, ap₂, expiry_lines, first_line, late_line, sym, ◌∙◌, ◌∷◌}
use Rattle.cdc_audit.proofs.StandLemmas.{either_is}
use Rattle.cdc_audit.proofs.expiries.expiry_refusal.Goals as goal

pub returns : goal.returns
returns c =
    let e = c.args.event.now in
    either_is _ _ _ (late_line c.in-Some.first e ∷ []) (apart_line c.in-Some.first c.in-Some-last.last e ∷ [])
    c.or.ensures c.late_refusal-2.ensures c.apart_refusal.ensures
    ∙ sym (ap₂ (λ first last. first_line (expiry_lines first last e)) c.in-Some.is c.in-Some-last.is)
