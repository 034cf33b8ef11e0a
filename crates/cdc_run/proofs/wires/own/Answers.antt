use Rattle.std.proofs.Common.{◌∙◌, arith}
use Rattle.cdc_run.proofs.Fresh.{own_push}
use Rattle.cdc_run.proofs.wires.own.Goals as goal

-- one link more
pub loop-alloc-preserved : goal.loop-alloc-preserved
loop-alloc-preserved g c =
    let outs = c.push_reserved in
    let ins = c.push_reserved-in-loop-alloc in
    let pushed = own_push c.loop-alloc.outs.items c.loop-alloc.ins.items c.in_ok-out.out c.in_ok-out.into
    c.loop-alloc.invariant.0 c.in_ok-out.ensures.out c.in_ok-out.ensures.into in (
      rw (outs.ensures.items, ins.ensures.items) pushed,
      omega arith,
      omega arith,
      outs.ensures.capacity ∙ c.loop-alloc.invariant.3,
      ins.ensures.capacity ∙ c.loop-alloc.invariant.4,
    )
