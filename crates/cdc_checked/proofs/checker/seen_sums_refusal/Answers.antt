use Rattle.std.proofs.Common.{◌∙◌, ap}
use Rattle.cdc_types.specs.Lines.{first_line}
use Rattle.cdc_audit.specs.declared.checks.Amounts.{Amounts}
use Rattle.cdc_audit.specs.Checks.{nothing}
use Rattle.cdc_audit.proofs.StandLemmas.{either_is}
use Rattle.cdc_checked.specs.Based.{moved_by, seen_lines}
use Rattle.cdc_checked.proofs.checker.seen_sums_refusal.Goals as goal

pub returns : goal.returns
returns c =
    let e = c.args.event.now in
    either_is _ _ _ (seen_lines e.debit_account c.args.debited (moved_by c.args.freed e) nothing)
    (seen_lines e.credit_account c.args.credited nothing (moved_by c.args.freed e))
    c.or.ensures
    (c.seen_refusal.ensures
    ∙ ap (λ (a : Amounts). first_line (seen_lines e.debit_account c.args.debited a nothing)) c.moved_by-amounts.ensures)
    (c.seen_refusal-2.ensures
    ∙ ap (λ (a : Amounts). first_line (seen_lines e.credit_account c.args.credited nothing a))
    c.moved_by-amounts.ensures)
