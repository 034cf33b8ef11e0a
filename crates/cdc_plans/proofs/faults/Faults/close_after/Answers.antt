use Rattle.std.proofs.Common.{ℕ}
use Rattle.std.proofs.lemmas.List.{take_more}
use Rattle.cdc_plans.proofs.faults.Faults.close_after.Goals as goal

-- one entry more was looked at
pub loop-entry-preserved : goal.loop-entry-preserved
loop-entry-preserved c =
    let items = c.deref-entry-items.result.now in
    let none : ℕ × ℕ = (0, 0) in
    rw (take_more items c.loop-entry.entry-index none c.loop-entry-test.true)
    (c.lesser-least.ensures _ c.loop-entry.invariant)
