use Rattle.std.proofs.Common.{ap, sym, ◌∙◌, ◌++◌}
use Rattle.cdc_audit_state.proofs.PrintingLemmas.{pushed_all, pushed_more}
use Rattle.cdc_checked_state.proofs.PrintingLemmas.{known_text, accounts_text}
use Rattle.cdc_checked_state.proofs.printing.push_accounts.Goals as goal

pub loop-id-preserved : goal.loop-id-preserved
loop-id-preserved c =
    pushed_more known_text c.args.accounts.now.entries c.args.text.now.items c.loop-id.id-iterator c.next.new.self _
    c.loop-id.text.items c.push_known.new.text.items c.loop-id.invariant c.in-Some.ensures.steps
    c.in_ok-push_known.ensures

pub returns : goal.returns
returns c =
    pushed_all known_text c.args.accounts.now.entries c.args.text.now.items c.loop-id.id-iterator c.loop-id.text.items
    c.loop-id.invariant c.in-None.ensures.steps.0
    ∙ ap (λ text. c.args.text.now.items ++ text) (sym (accounts_text c.args.accounts.now.entries))
