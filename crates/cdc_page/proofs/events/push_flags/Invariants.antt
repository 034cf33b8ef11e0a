use Rattle.std.proofs.Common.{◌≡◌, ◌++◌, flat_map, take}
use Rattle.cdc_page.specs.Events.{taken_flag}
use Rattle.cdc_page.proofs.events.push_flags.Given as goal

-- the flags so far
abbrev pub invariant-loop-binding : goal.invariant-loop-binding
invariant-loop-binding l =
    l.page.items ≡ l.fn.page.items ++ flat_map (taken_flag l.event) (take l.binding-index l.bindings)
