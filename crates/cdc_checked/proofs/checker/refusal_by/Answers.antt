use Rattle.cdc_audit.proofs.StandLemmas.{either_is}
use Rattle.cdc_checked.specs.Checked.{pending_lines, sums_lines}
use Rattle.cdc_checked.proofs.checker.refusal_by.Goals as goal

pub returns : goal.returns
returns c =
    let e = c.args.event.now in
    either_is _ _ _ (pending_lines c.args.pending e)
    (sums_lines c.args.pending c.args.debited.now c.args.credited.now e)
    c.or.ensures c.pending_refusal.ensures c.balances_refusal.ensures
