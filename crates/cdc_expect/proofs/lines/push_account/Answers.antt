use Rattle.std.specs.Prelude.{◌++◌, codes, decimal}
use Rattle.cdc_output.proofs.TextLemmas.{pieces}
use Rattle.cdc_expect.proofs.lines.push_account.Goals as goal

pub returns : goal.returns
returns c =
    let account = c.args.account.now in
    pieces _ c.push_named.new.text.items _ (codes "{\"id\":\"" ++ decimal account.id) _ c.in_ok-push_named.ensures
    (pieces _ c.push_named-2.new.text.items _ (codes "\",\"debits_pending\":\"" ++ decimal account.debits_pending) _
    c.in_ok-push_named-2.ensures
    (pieces _ c.push_named-3.new.text.items _ (codes "\",\"debits_posted\":\"" ++ decimal account.debits_posted) _
    c.in_ok-push_named-3.ensures
    (pieces _ c.push_named-4.new.text.items _ (codes "\",\"credits_pending\":\"" ++ decimal account.credits_pending) _
    c.in_ok-push_named-4.ensures
    (pieces _ c.push_named-5.new.text.items _ (codes "\",\"credits_posted\":\"" ++ decimal account.credits_posted) _
    c.in_ok-push_named-5.ensures c.in_ok-push.ensures))))
