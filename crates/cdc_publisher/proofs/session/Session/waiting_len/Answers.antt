use Rattle.std.proofs.Common.{◌∙◌, ap, length}
use Rattle.cdc_publisher.specs.SessionState.{SessionState}
use Rattle.cdc_publisher.proofs.Standing.{waiting_is}
use Rattle.cdc_publisher.proofs.session.Session.waiting_len.Goals as goal

pub returns : goal.returns
returns c = λ course stands.
    c.len.ensures.len ∙ ap (λ (kept : SessionState). length kept.unconfirmed) c.self.view_is
    ∙ waiting_is c.args.self.now course stands
