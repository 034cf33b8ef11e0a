use Rattle.std.proofs.Common.{◌++◌, codes, decimal}
use Rattle.std.proofs.lemmas.Result.{on_ok_weaker}
use Rattle.cdc_page_text.specs.Strings.{escaped}
use Rattle.cdc_page.proofs.Joined.{pieces}
use Rattle.cdc_page.proofs.page.push_labels.Goals as goal

pub returns : goal.returns
returns c =
    let labels = c.args.labels in
    let whole = c.push_number.new.page.items in
    let window = decimal labels.window in
    let after_trace = codes "\",\"window\":\"" ++ window in
    let trace = escaped labels.trace.now ++ after_trace in
    let after_refusal = codes "\",\"trace\":\"" ++ trace in
    let refusal = escaped labels.refusal.now ++ after_refusal in
    let after_name = codes "\",\"refusal\":\"" ++ refusal in
    let name = escaped labels.name.now ++ after_name in
    let script = codes "\"script\":\"" ++ name in
    on_ok_weaker c.push_number.result (λ last.
    pieces c.args.page.now.items c.push.new.page.items whole (codes "{\"format\":1,") script c.in_ok-push.ensures
    (pieces c.push.new.page.items c.push-2.new.page.items whole (codes "\"script\":\"") name c.in_ok-push-2.ensures
    (pieces c.push-2.new.page.items c.push_inside.new.page.items whole (escaped labels.name.now) after_name
    c.in_ok-push_inside.ensures
    (pieces c.push_inside.new.page.items c.push-3.new.page.items whole (codes "\",\"refusal\":\"") refusal
    c.in_ok-push-3.ensures
    (pieces c.push-3.new.page.items c.push_inside-2.new.page.items whole (escaped labels.refusal.now) after_refusal
    c.in_ok-push_inside-2.ensures
    (pieces c.push_inside-2.new.page.items c.push-4.new.page.items whole (codes "\",\"trace\":\"") trace
    c.in_ok-push-4.ensures
    (pieces c.push-4.new.page.items c.push_inside-3.new.page.items whole (escaped labels.trace.now) after_trace
    c.in_ok-push_inside-3.ensures
    (pieces c.push_inside-3.new.page.items c.push-5.new.page.items whole (codes "\",\"window\":\"") window
    c.in_ok-push-5.ensures last)))))))) c.push_number.ensures
