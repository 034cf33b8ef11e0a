use Rattle.cdc_audit_state.proofs.PrintingLemmas.{Pushed}
use Rattle.cdc_checked_command.specs.JsonLines.{account_text}
use Rattle.cdc_checked_command.proofs.json_lines.push_book.Given as goal

-- the lines so far are printed
abbrev pub invariant-loop-id : goal.invariant-loop-id
invariant-loop-id l = Pushed account_text l.book.entries l.id-iterator l.initial.lines.text.items l.lines.text.items
