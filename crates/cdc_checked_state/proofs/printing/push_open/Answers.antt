use Rattle.std.proofs.Common.{ap, sym, ◌∙◌, ◌++◌}
use Rattle.cdc_audit_state.proofs.PrintingLemmas.{pushed_all, pushed_more}
use Rattle.cdc_checked_state.proofs.PrintingLemmas.{open_text, open_ones_text}
use Rattle.cdc_checked_state.proofs.printing.push_open.Goals as goal

pub loop-event-preserved : goal.loop-event-preserved
loop-event-preserved c =
    pushed_more open_text c.args.events.now.entries c.args.text.now.items c.loop-event.event-iterator c.next.new.self _
    c.loop-event.text.items c.push_event.new.text.items c.loop-event.invariant c.in-Some.ensures.steps
    c.in_ok-push_event.ensures

pub returns : goal.returns
returns c =
    pushed_all open_text c.args.events.now.entries c.args.text.now.items c.loop-event.event-iterator
    c.loop-event.text.items
    c.loop-event.invariant c.in-None.ensures.steps.0
    ∙ ap (λ text. c.args.text.now.items ++ text) (sym (open_ones_text c.args.events.now.entries))
