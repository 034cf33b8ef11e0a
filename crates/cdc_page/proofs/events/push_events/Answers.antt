use Rattle.std.proofs.Common.{◌∙◌, ◌≤◌, ap, arith, length, sym}
use Rattle.cdc_page.proofs.EventLemmas.{all_events, no_event, one_event}
use Rattle.cdc_page.proofs.events.push_events.Goals as goal
use Rattle.cdc_page.proofs.events.push_events.Goals.{in-Some+in_ok-push_event, in_default}
use Rattle.cdc_page.specs.Events.{events_json}
use Rattle.std.proofs.Common.{◌++◌, drop}

pub loop-place-preserved : goal.loop-place-preserved
loop-place-preserved c =
    let events = c.args.log.now.events in
    let bindings = c.args.bindings.now in
    let whole = c.args.page.now.items ++ events_json bindings (drop c.args.from events) in
    elim c.match-get.branch [
      | in-Some+in_ok-push_event w ↦
          one_event bindings events c.loop-place.place w.in-Some.event.now c.loop-place.page.items
          c.match-get.page.items whole (sym w.in-Some.ensures) (rw w.page-is w.in_ok-push_event.ensures)
          c.loop-place.invariant
      | in_default w ↦
          absurd (no_event events c.loop-place.place (omega arith) (sym w.in_default.ensures))
    ]

pub returns : goal.returns
returns c =
    let events = c.args.log.now.events in
    let bindings = c.args.bindings.now in
    let past : length events ≤ c.loop-place.place = omega arith in
    all_events bindings events c.loop-place.place c.loop-place.page.items _ past c.loop-place.invariant
