use Rattle.std.proofs.Common.{length, sym, ap, ◌∙◌}
use Rattle.cdc_log.specs.Log.{Log}
use Rattle.cdc_log.proofs.Segments.{length-joined}
use Rattle.cdc_log.proofs.log.EventLog.len.Goals as goal

pub returns : goal.returns
returns c =
    sym (length-joined c.self.inside.len c.self.inside.segments.items c.self.invariant.filled)
    ∙ ap (λ (log : Log). length log.events) c.self.view_is
