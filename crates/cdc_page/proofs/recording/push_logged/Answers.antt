use Rattle.std.proofs.Common.{◌∙◌, ◌++◌, List, ap, codes, drop}
use Rattle.std.proofs.lemmas.Result.{on_ok_weaker}
use Rattle.cdc_ledger.specs.Events.{events}
use Rattle.cdc_page.specs.Events.{events_json}
use Rattle.cdc_types.specs.declared.events.Event.{Event}
use Rattle.cdc_page.proofs.Joined.{pieces}
use Rattle.cdc_page.proofs.recording.push_logged.Goals as goal

pub returns : goal.returns
returns c = λ seen same.
    let old = c.args.page.now.items in
    let named = c.push.new.page.items in
    let opened = c.push-2.new.page.items in
    let filled = c.push_events.new.page.items in
    let whole = c.push-3.new.page.items in
    let logged = events_json c.args.bindings.now (drop c.args.from (events c.args.ledger.now)) in
    let same_events = c.in_ok-push_events.ensures
    ∙ ap (λ (all : List Event). opened ++ events_json c.args.bindings.now (drop c.args.from all)) c.log.ensures in
    rw same (on_ok_weaker c.push-3.result (λ last.
    pieces old named whole (codes ",\"logged\":") (codes "[null" ++ (logged ++ codes "]}")) c.in_ok-push.ensures
    (pieces named opened whole (codes "[null") (logged ++ codes "]}") c.in_ok-push-2.ensures
    (pieces opened filled whole logged (codes "]}") same_events last))) c.push-3.ensures)
