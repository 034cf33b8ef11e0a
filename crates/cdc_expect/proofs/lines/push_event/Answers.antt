use Rattle.std.specs.Prelude.{codes}
use Rattle.cdc_expect.specs.Lines.{account_text, head_text, kept_text}
use Rattle.cdc_output.proofs.TextLemmas.{pieces}
use Rattle.cdc_expect.proofs.lines.push_event.Goals as goal

pub returns : goal.returns
returns c =
    let e = c.args.event.now in
    pieces _ c.push_head.new.text.items _ (head_text c.args.number (codes "applied")) _ c.in_ok-push_head.ensures
    (pieces _ c.push_kept.new.text.items _ (kept_text c.args.kept) _ c.in_ok-push_kept.ensures
    (pieces _ c.push_account.new.text.items _ (account_text e.debit_account) _ c.in_ok-push_account.ensures
    (pieces _ c.push.new.text.items _ (codes ",") _ c.in_ok-push.ensures
    (pieces _ c.push_account-2.new.text.items _ (account_text e.credit_account) _ c.in_ok-push_account-2.ensures
    c.in_ok-push-2.ensures))))
