use Rattle.cdc_audit.proofs.Words.{IsFirst, None, open_under, subst, sym, ◌∙◌}
use Rattle.cdc_audit.proofs.OpenLemmas.{first-none, first-some, no_first}
use Rattle.cdc_audit.proofs.open_ones.OpenOnes.first.Goals as goal

pub returns-in_err-due : goal.returns-in_err-due
returns-in_err-due c =
    subst (λ o. IsFirst (open_under c.args.self.now) o) (sym c.from_residual.ensures)
    (subst (λ events. IsFirst (open_under events) None) c.self.view_is
    (first-none c.self.inside.index c.self.inside.events.entries c.self.invariant
    (no_first c.first.result _ c.first.ensures.variant c.in_err-due.was)))

pub returns : goal.returns
returns c =
    subst (λ o. IsFirst (open_under c.args.self.now) o) (sym (c.copied.ensures ∙ c.get.ensures.value))
    (subst (λ events. IsFirst (open_under events) (open_under c.self.inside.events.entries c.in_ok-due.due.now.id))
    c.self.view_is
    (first-some c.self.inside.index c.self.inside.events.entries c.in_ok-due.due.now c.self.invariant
    c.in_ok-due.ensures.member c.in_ok-due.ensures.least))
