use Rattle.std.proofs.Common.{◌++◌, codes}
use Rattle.std.proofs.lemmas.Result.{on_ok_weaker}
use Rattle.cdc_page.proofs.Joined.{pieces}
use Rattle.cdc_page.proofs.page.push_steps.Goals as goal

pub returns : goal.returns
returns c =
    let old = c.args.page.now.items in
    let named = c.push.new.page.items in
    let opened = c.push-2.new.page.items in
    let filled = c.push_bytes.new.page.items in
    let whole = c.push-3.new.page.items in
    let steps = c.args.steps.now in
    on_ok_weaker c.push-3.result (λ last.
    pieces old named whole (codes "\",\"steps\":") (codes "[null" ++ (steps ++ codes "]}")) c.in_ok-push.ensures
    (pieces named opened whole (codes "[null") (steps ++ codes "]}") c.in_ok-push-2.ensures
    (pieces opened filled whole steps (codes "]}") c.in_ok-push_bytes.ensures last))) c.push-3.ensures
