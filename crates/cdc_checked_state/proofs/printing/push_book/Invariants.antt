use Rattle.cdc_audit_state.proofs.PrintingLemmas.{Pushed}
use Rattle.cdc_checked_state.proofs.PrintingLemmas.{account_text}
use Rattle.cdc_checked_state.proofs.printing.push_book.Given as goal

-- the lines so far are printed
abbrev pub invariant-loop-id : goal.invariant-loop-id
invariant-loop-id l = Pushed account_text l.book.entries l.id-iterator l.initial.text.items l.text.items
