use Rattle.std.proofs.Common.{◌∙◌, ap, length}
use Rattle.cdc_publisher.specs.SessionState.{SessionState}
use Rattle.cdc_publisher.proofs.session.Session.unsent_len.Goals as goal

pub returns : goal.returns
returns c = λ course stands.
    c.len.ensures.len ∙ ap (λ (kept : SessionState). length kept.unsent) c.self.view_is ∙ ap length stands.unsent
