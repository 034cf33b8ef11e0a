use Rattle.cdc_publisher.proofs.Standing.{ended_is}
use Rattle.cdc_publisher.specs.SessionState.{SessionState}
use Rattle.std.proofs.Common.{◌∙◌, ap}
use Rattle.cdc_publisher.proofs.session.Session.has_ended.Goals as goal

pub returns : goal.returns
returns c = λ course stands.
    ap (λ (kept : SessionState). kept.ended) c.self.view_is ∙ ended_is c.args.self.now course stands
