use Rattle.cdc_audit.proofs.Words.{AuditorState, ap, ap₂, is_some, nat_lt, ◌∙◌}
use Rattle.cdc_audit.specs.Apart.{times_known}
use Rattle.cdc_audit.specs.Standing.{open_if, stored_if}
use Rattle.cdc_audit.proofs.StandLemmas.{facts_same}
use Rattle.cdc_audit.proofs.auditor.Auditor.facts.Goals as goal

pub returns-clause-facts : goal.returns-clause-facts
returns-clause-facts c = λ ordered.
    let auditor = c.args.self.now in
    let e = c.args.event.now in
    facts_same c.last.result _ _ _ c.first.result _ _ c.stored_if.result _ c.stored_if-2.result _ c.open_if.result _
    c.fields_of-debit_fields.result _ c.fields_of-credit_fields.result _ c.times_of.result _ c.times_of-2.result _ c.balances.result _
    c.balances-2.result _ c.room.result _
    (c.last.ensures ∙ ap (λ (a : AuditorState). a.kept.last) c.self.view_is)
    (ap (λ (a : AuditorState). nat_lt 0 a.chain) c.self.view_is)
    (ap (λ (a : AuditorState). a.expired) c.self.view_is)
    (c.stored_if.ensures ∙ ap (λ b. stored_if b auditor.transfers e.transfer.id) c.stores.ensures)
    (c.stored_if-2.ensures ∙ ap₂ (λ b id. stored_if b auditor.transfers id) c.settles.ensures c.settled_id.ensures)
    (c.open_if.ensures ∙ ap₂ (λ b id. open_if b auditor.open_ones id) c.settles-2.ensures c.settled_id-2.ensures)
    c.fields_of-debit_fields.ensures c.fields_of-credit_fields.ensures
    (c.times_of.ensures ordered
    ∙ ap (λ shown. times_known (is_some shown) auditor.times auditor.fields e.debit_account.timestamp)
    c.fields_of-debit_fields.ensures)
    (c.times_of-2.ensures ordered
    ∙ ap (λ shown. times_known (is_some shown) auditor.times auditor.fields e.credit_account.timestamp)
    c.fields_of-credit_fields.ensures)
    c.balances.ensures c.balances-2.ensures (c.room.ensures ordered)
