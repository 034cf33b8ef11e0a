use Rattle.std.proofs.Common.{◌≡◌, take}
use Rattle.cdc_page.proofs.bindings.copied.Given as goal

-- the copies so far
abbrev pub invariant-loop-binding : goal.invariant-loop-binding
invariant-loop-binding l = l.copies.items ≡ take l.binding-index l.bindings
