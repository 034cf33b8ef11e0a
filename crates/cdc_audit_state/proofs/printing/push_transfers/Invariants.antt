use Rattle.cdc_audit_state.proofs.PrintingLemmas.{Pushed, transfer_text}
use Rattle.cdc_audit_state.proofs.printing.push_transfers.Given as goal

abbrev pub invariant-loop-id : goal.invariant-loop-id
invariant-loop-id l = Pushed transfer_text l.transfers.entries l.id-iterator l.initial.text.items l.text.items
