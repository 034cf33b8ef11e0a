use Rattle.std.proofs.Common.{◌≡◌, ◌++◌, drop}
use Rattle.cdc_page.specs.Events.{events_json}
use Rattle.cdc_page.proofs.events.push_events.Given as goal

-- the text so far, and the events that are left, make the whole text
abbrev pub invariant-loop-place : goal.invariant-loop-place
invariant-loop-place l =
    l.page.items ++ events_json l.bindings (drop l.place l.log.events)
    ≡ l.fn.page.items ++ events_json l.bindings (drop l.from l.log.events)
