use Rattle.std.specs.Prelude.{◌++◌, codes, decimal}
use Rattle.cdc_audit.specs.Texts.{field_name}
use Rattle.cdc_output.proofs.TextLemmas.{pieces}
use Rattle.cdc_expect.proofs.checked_turns.push_mismatch.Goals as goal

pub returns : goal.returns
returns c =
    let m = c.args.mismatch in
    let named = rw c.name.ensures at c.in_ok-push-2.ensures in
    pieces _ c.push_named.new.text.items _ (codes ",\"account\":\"" ++ decimal m.account) _ c.in_ok-push_named.ensures
    (pieces _ c.push.new.text.items _ (codes "\",\"field\":\"") _ c.in_ok-push.ensures
    (pieces _ c.push-2.new.text.items _ (field_name m.field) _ named
    (pieces _ c.push_named-2.new.text.items _ (codes "\",\"shown\":\"" ++ decimal m.shown) _
    c.in_ok-push_named-2.ensures
    (pieces _ c.push_named-3.new.text.items _ (codes "\",\"before\":\"" ++ decimal m.before) _
    c.in_ok-push_named-3.ensures
    (pieces _ c.push_named-4.new.text.items _ (codes "\",\"added\":\"" ++ decimal m.added) _
    c.in_ok-push_named-4.ensures
    (pieces _ c.push_named-5.new.text.items _ (codes "\",\"released\":\"" ++ decimal m.released) _
    c.in_ok-push_named-5.ensures c.in_ok-push-3.ensures))))))
