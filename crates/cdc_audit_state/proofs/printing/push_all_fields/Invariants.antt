use Rattle.cdc_audit_state.proofs.PrintingLemmas.{Pushed, fields_text}
use Rattle.cdc_audit_state.proofs.printing.push_all_fields.Given as goal

abbrev pub invariant-loop-id : goal.invariant-loop-id
invariant-loop-id l = Pushed fields_text l.fields.entries l.id-iterator l.initial.text.items l.text.items
