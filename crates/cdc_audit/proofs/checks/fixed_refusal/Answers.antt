use Rattle.cdc_audit.proofs.Words.{apart_lines, created_lines, fields_lines, ◌++◌}
use Rattle.cdc_audit.proofs.StandLemmas.{either_is}
use Rattle.cdc_audit.proofs.checks.fixed_refusal.Goals as goal

pub returns : goal.returns
returns c =
    let facts = c.args.facts.now in
    let e = c.args.event.now in
    let first = fields_lines facts.debit_fields e.ledger e.debit_account in
    let second = fields_lines facts.credit_fields e.ledger e.credit_account in
    either_is _ _ _ (first ++ second ++ created_lines e) (apart_lines facts.debit_times facts.credit_times e)
    c.or-3.ensures
    (either_is _ _ _ (first ++ second) (created_lines e) c.or-2.ensures
    (either_is _ _ _ first second c.or.ensures c.fields_refusal.ensures c.fields_refusal-2.ensures)
    c.created_refusal.ensures) c.apart_refusal.ensures
