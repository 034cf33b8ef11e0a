use Rattle.cdc_audit.proofs.Words.{[], if◌then◌else◌, stored_lines, stores, ◌++◌}
use Rattle.cdc_audit.specs.EventShapes.{account_lines}
use Rattle.cdc_audit.proofs.StandLemmas.{either_is}
use Rattle.cdc_audit.proofs.shapes.shape_refusal.Goals as goal

pub returns : goal.returns
returns c =
    let e = c.args.event.now in
    either_is _ _ _ (if stores e.kind then stored_lines e else [])
    (account_lines e.ledger e.debit_account ++ account_lines e.ledger e.credit_account) c.or-2.ensures
    c.transfer_refusal.ensures
    (either_is _ _ _ (account_lines e.ledger e.debit_account) (account_lines e.ledger e.credit_account) c.or.ensures
    c.account_refusal.ensures c.account_refusal-2.ensures)
