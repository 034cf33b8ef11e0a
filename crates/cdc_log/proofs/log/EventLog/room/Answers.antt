use Rattle.std.proofs.Common.{arith}
use Rattle.cdc_log.proofs.Segments.{filled-fits}
use Rattle.cdc_log.proofs.log.EventLog.room.Goals as goal

pub overflow_sub-result : goal.overflow_sub-result
overflow_sub-result c =
    let fits = filled-fits c.self.inside.len c.self.inside.segments.items c.self.invariant.filled in
    omega (arith, c.len.ensures)
