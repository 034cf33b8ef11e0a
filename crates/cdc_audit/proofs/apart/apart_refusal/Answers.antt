use Rattle.cdc_audit.proofs.Words.{times_lines, together_lines, ◌++◌}
use Rattle.cdc_audit.proofs.StandLemmas.{either_is}
use Rattle.cdc_audit.proofs.apart.apart_refusal.Goals as goal

pub returns : goal.returns
returns c =
    let e = c.args.event.now in
    let first = times_lines c.args.debit e.debit_account in
    let second = times_lines c.args.credit e.credit_account in
    either_is _ _ _ (first ++ second) (together_lines e) c.or-2.ensures
    (either_is _ _ _ first second c.or.ensures c.times_refusal.ensures c.times_refusal-2.ensures)
    c.together_refusal.ensures
