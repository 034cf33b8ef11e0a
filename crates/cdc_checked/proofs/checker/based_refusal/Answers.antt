use Rattle.std.proofs.Common.{◌∙◌, ap}
use Rattle.cdc_types.specs.Lines.{first_line}
use Rattle.cdc_audit.specs.Settling.{settling_lines}
use Rattle.cdc_audit.proofs.StandLemmas.{either_is}
use Rattle.cdc_checked.specs.Based.{freed_by, seen_sums}
use Rattle.cdc_checked.proofs.checker.based_refusal.Goals as goal

pub returns : goal.returns
returns c =
    let e = c.args.event.now in
    either_is _ _ _ (settling_lines c.args.pending e)
    (seen_sums (freed_by c.args.pending c.args.debited c.args.credited e) c.args.debited c.args.credited e)
    c.or.ensures c.settling_refusal.ensures
    (c.seen_sums_refusal.ensures
    ∙ ap (λ n. first_line (seen_sums n c.args.debited c.args.credited e)) c.freed_by-freed.ensures)
