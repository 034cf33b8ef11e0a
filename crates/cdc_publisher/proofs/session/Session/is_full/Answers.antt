use Rattle.std.proofs.Common.{◌∙◌, ◌==◌, ap, ap₂, length}
use Rattle.cdc_publisher.specs.SessionState.{SessionState}
use Rattle.cdc_publisher.proofs.Standing.{waiting_is}
use Rattle.cdc_publisher.proofs.session.Session.is_full.Goals as goal

pub returns : goal.returns
returns c = λ course stands.
    c.is_full.ensures ∙ ap (λ (kept : SessionState). length kept.unconfirmed == kept.window) c.self.view_is
    ∙ ap₂ (λ count window. count == window) (waiting_is c.args.self.now course stands) stands.window
