use Rattle.std.proofs.Common.{◌∙◌, ap, sym}
use Rattle.cdc_publisher.specs.SessionState.{SessionState, confirmed_of}
use Rattle.cdc_publisher.proofs.Rings.{confirmed_first, confirmed_none}
use Rattle.cdc_publisher.proofs.Standing.{confirmed_is}
use Rattle.cdc_publisher.proofs.session.Session.confirmed.Goals as goal

pub returns-in-Some-clause-confirmed : goal.returns-in-Some-clause-confirmed
returns-in-Some-clause-confirmed c = λ course stands.
    sym (confirmed_first c.self.inside.last_sent c.self.inside.unconfirmed.items c.in-Some.first.now
    (sym c.in-Some.ensures))
    ∙ ap (λ (kept : SessionState). confirmed_of kept.last_sent kept.unconfirmed) c.self.view_is
    ∙ confirmed_is c.args.self.now course stands

pub returns-in-None-clause-confirmed : goal.returns-in-None-clause-confirmed
returns-in-None-clause-confirmed c = λ course stands.
    sym (confirmed_none c.self.inside.last_sent c.self.inside.unconfirmed.items (sym c.in-None.ensures))
    ∙ ap (λ (kept : SessionState). confirmed_of kept.last_sent kept.unconfirmed) c.self.view_is
    ∙ confirmed_is c.args.self.now course stands
