use Rattle.std.proofs.Common.{◌≡◌, ◌==◌, length, nat_eq, sym, ap, ◌∙◌}
use Rattle.cdc_log.specs.Log.{Log}
use Rattle.cdc_log.proofs.Segments.{length-joined}
use Rattle.cdc_log.proofs.log.EventLog.is_empty.Goals as goal

pub returns : goal.returns
returns c =
    let long = length-joined c.self.inside.len c.self.inside.segments.items c.self.invariant.filled in
    ap (λ n. nat_eq n 0) (sym long ∙ ap (λ (log : Log). length log.events) c.self.view_is)
