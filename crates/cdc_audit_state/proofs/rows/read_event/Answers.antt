use Rattle.cdc_audit_state.proofs.EventLemmas.{event_given, event_wrong}
use Rattle.cdc_audit_state.proofs.rows.read_event.Goals as goal

pub returns-in-Ok-clause-reads : goal.returns-in-Ok-clause-reads
returns-in-Ok-clause-reads c =
    λ e left is. event_given c.line.result.0.now c.line.result.1.now c.args.text.now c.in-Ok.event e left is
    c.line.ensures.reads c.in-Ok.ensures.event

pub returns-in_ok-unless_memory-in-Err-clause-reads : goal.returns-in_ok-unless_memory-in-Err-clause-reads
returns-in_ok-unless_memory-in-Err-clause-reads c =
    λ e left is. event_wrong c.line.result.0.now c.line.result.1.now c.args.text.now c.in-Err.error e left is
    c.line.ensures.reads c.in-Err.ensures.event c.in_ok-unless_memory-in-Err.ensures
