use Rattle.cdc_audit.proofs.Words.{Due, None, Some, ap, cond, contains, due_cmp, eq-eqb, false, is_eq, open_under, option_to_list, refl, ◌++◌, ◌∙◌, ◌≡◌}
use Rattle.cdc_audit.proofs.OpenLemmas.{index-removed, open_under-added}
use Rattle.cdc_audit.proofs.open_ones.OpenOnes.take_back.Goals as goal

pub invariant_of-self : goal.invariant_of-self
invariant_of-self c =
    let id = c.in-Some.id in
    let e = c.in-Some.last in
    let left = c.pop.new.self.entries in
    let none : open_under left id ≡ None =
    c.in-Some.ensures.updates.0 id
    ∙ ap (λ b. cond b None (open_under c.self.inside.events.entries id)) (eq-eqb id id refl) in
    index-removed c.self.inside.index c.remove-removed.new.self c.self.inside.events.entries left id e
    (ap (λ es. open_under es id) (c.pop.ensures.entries ∙ ap (λ o. left ++ option_to_list o) c.in-Some.is)
    ∙ open_under-added left e id id none
    ∙ ap (λ b. cond b (Some e) (open_under left id)) (eq-eqb id id refl))
    c.in-Some.ensures.updates.0
    (λ due. c.remove-removed.ensures.updates.0 due
    ∙ ap (λ (d : Due). cond (is_eq (due_cmp d due)) false (contains due_cmp c.self.inside.index due)) c.due_of.ensures)
    c.self.invariant
