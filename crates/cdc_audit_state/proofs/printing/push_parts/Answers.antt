use Rattle.cdc_audit_state.proofs.Words.{heading, on_ok_weaker, subscriber_text}
use Rattle.cdc_audit_state.specs.States.{state_text}
use Rattle.cdc_audit_state.proofs.PrintingLemmas.{pieces}
use Rattle.cdc_audit_state.proofs.printing.push_parts.Goals as goal

pub returns : goal.returns
unfolding state_text
returns c =
    let auditor = c.args.auditor.now in
    let book = rw c.subscriber.ensures.kept at c.in_ok-print.ensures in
    on_ok_weaker c.push_known.result (λ end.
    pieces _ c.push_heading.new.text.items _ (heading auditor) _ c.in_ok-push_heading.ensures
    (pieces _ c.print.new.writer.items _ (subscriber_text 1 auditor.kept) _ book end))
    c.push_known.ensures
