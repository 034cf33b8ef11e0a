use Rattle.std.proofs.Common.{◌∙◌, ◌&&◌, ap, sym}
use Rattle.cdc_publisher.specs.SessionState.{SessionState, is_nil}
use Rattle.cdc_publisher.proofs.Standing.{done_is}
use Rattle.cdc_publisher.proofs.session.Session.done.Goals as goal

pub returns-then-self : goal.returns-then-self
returns-then-self c = λ course stands.
    c.is_empty.ensures
    ∙ ap (λ b. b && is_nil c.self.inside.unconfirmed.items) (sym c.if-self.true)
    ∙ ap (λ (kept : SessionState). kept.ended && is_nil kept.unconfirmed) c.self.view_is
    ∙ done_is c.args.self.now course stands
