use Rattle.cdc_audit_state.proofs.PrintingLemmas.{Pushed}
use Rattle.cdc_checked_state.proofs.PrintingLemmas.{open_text}
use Rattle.cdc_checked_state.proofs.printing.push_open.Given as goal

-- the lines so far are printed
abbrev pub invariant-loop-event : goal.invariant-loop-event
invariant-loop-event l = Pushed open_text l.events.entries l.event-iterator l.initial.text.items l.text.items
