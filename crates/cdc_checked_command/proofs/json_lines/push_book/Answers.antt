use Rattle.cdc_audit_state.proofs.PrintingLemmas.{pushed_all, pushed_more}
use Rattle.cdc_checked_command.specs.JsonLines.{account_text}
use Rattle.cdc_checked_command.proofs.json_lines.push_book.Goals as goal

pub loop-id-preserved : goal.loop-id-preserved
loop-id-preserved c =
    pushed_more account_text c.args.book.now.entries c.args.lines.now.text.items c.loop-id.id-iterator
    c.next.new.self _ c.loop-id.lines.text.items c.push_account.new.lines.text.items c.loop-id.invariant
    c.in-Some.ensures.steps c.in_ok-push_account.ensures

pub returns : goal.returns
returns c =
    pushed_all account_text c.args.book.now.entries c.args.lines.now.text.items c.loop-id.id-iterator
    c.loop-id.lines.text.items c.loop-id.invariant c.in-None.ensures.steps.0
