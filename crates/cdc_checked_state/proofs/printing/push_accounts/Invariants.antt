use Rattle.cdc_audit_state.proofs.PrintingLemmas.{Pushed}
use Rattle.cdc_checked_state.proofs.PrintingLemmas.{known_text}
use Rattle.cdc_checked_state.proofs.printing.push_accounts.Given as goal

-- the lines so far are printed
abbrev pub invariant-loop-id : goal.invariant-loop-id
invariant-loop-id l = Pushed known_text l.accounts.entries l.id-iterator l.initial.text.items l.text.items
