use Rattle.cdc_audit.proofs.Words.{AuditorState, account_at, ap, false, links_of, refl, sym, true, ◌∙◌}
use Rattle.cdc_audit.proofs.StandLemmas.{room_same}
use Rattle.cdc_audit.proofs.auditor.Auditor.room.Goals as goal

pub returns-then-self : goal.returns-then-self
returns-then-self c = λ ordered.
    room_same true c.args.self.now.foreign _ _ _ _ _ _ _ _
    (sym (sym (ap (λ (a : AuditorState). a.foreign) c.self.view_is) ∙ c.if-self.true)) refl refl refl refl

pub returns : goal.returns
returns c = λ ordered.
    room_same false c.args.self.now.foreign c.link_at.result _ c.links_of.result _ c.links_of-2.result _
    c.self.inside.chain _ (sym (sym (ap (λ (a : AuditorState). a.foreign) c.self.view_is) ∙ c.if-self.false))
    (c.link_at.ensures ∙ ap (account_at (links_of c.args.self.now.fields)) c.saturating_sub.ensures)
    (c.links_of.ensures ordered) (c.links_of-2.ensures ordered)
    (ap (λ (a : AuditorState). a.chain) c.self.view_is)
