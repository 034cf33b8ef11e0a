use Rattle.std.proofs.Common.{◌∙◌, ap}
use Rattle.std.specs.Prelude.{slice_get}
use Rattle.cdc_publisher.specs.SessionState.{SessionState}
use Rattle.cdc_publisher.proofs.session.Session.next_event.Goals as goal

pub returns : goal.returns
returns c = λ course stands.
    c.front.ensures ∙ ap (λ (kept : SessionState). slice_get kept.unsent 0) c.self.view_is
    ∙ ap (λ events. slice_get events 0) stands.unsent
