use Rattle.cdc_audit.proofs.Words.{Event, List, None, [], ap, cond, insert_entry, is_some, nat_eq, not, open_under, refl, sym, ℕ, ◌++◌, ◌==◌, ◌∙◌, ◌∷◌, ◌≡◌}
use Rattle.cdc_audit.proofs.OpenLemmas.{index-added, insert-new, none_there, open_under-added}
use Rattle.cdc_audit.proofs.open_ones.OpenOnes.add.Goals as goal

pub invariant_of-self-2 : goal.invariant_of-self-2
invariant_of-self-2 c =
    let e = c.args.event.now in
    let id = e.transfer.id in
    let before = c.self.inside.events.entries in
    let none : open_under before id ≡ None = none_there _ (sym c.contains_key.ensures ∙ c.if-contains_key.false) in
    index-added c.self.inside.index c.add_due.new.index before c.insert_event.new.events.entries id e
    (not (e.transfer.timeout == 0)) refl none
    (λ other. ap (λ (es : List (ℕ × Event)). open_under es other)
    (c.insert_event.ensures ∙ ap (λ es. insert_entry nat_eq es id e) c.in_ok-reserve.ensures.entries
    ∙ insert-new before id e none)
    ∙ open_under-added before e id other none)
    c.in_ok-add_due.ensures.added c.self.invariant

pub returns-clause-events : goal.returns-clause-events
returns-clause-events c =
    let e = c.args.event.now in
    let id = e.transfer.id in
    let before = c.self.inside.events.entries in
    let none : open_under before id ≡ None = none_there _ (sym c.contains_key.ensures ∙ c.if-contains_key.false) in
    c.insert_event.ensures ∙ ap (λ es. insert_entry nat_eq es id e) c.in_ok-reserve.ensures.entries
    ∙ insert-new before id e none
    ∙ sym (ap (λ o. cond (is_some o) before (before ++ (id, e) ∷ [])) none)
    ∙ ap (λ (es : List (ℕ × Event)). cond (is_some (open_under es id)) es (es ++ (id, e) ∷ [])) c.self.view_is
