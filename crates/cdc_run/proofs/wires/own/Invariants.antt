use Rattle.cdc_run.proofs.Words.{AreOwn, vec_capacity, vec_len, ◌-◌, ◌≡◌, ◌≤◌}
use Rattle.cdc_run.proofs.wires.own.Given as goal

abbrev pub invariant-loop-alloc : goal.invariant-loop-alloc
invariant-loop-alloc g l =
    AreOwn l.outs.items l.ins.items
    × (vec_len l.outs ≡ vec_len l.ins)
    × (vec_len l.ins ≤ l.count)
    × (vec_capacity l.outs ≡ l.count)
    × (vec_capacity l.ins ≡ l.count)

abbrev pub decreases-loop-alloc : goal.decreases-loop-alloc
decreases-loop-alloc g l = l.count - vec_len l.ins
