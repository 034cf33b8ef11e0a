use Rattle.std.proofs.Common.{ap, sym, true, ◌∙◌}
use Rattle.cdc_subscriber.specs.Reception.{kept_of}
use Rattle.cdc_subscriber.specs.SubscriberState.{SubscriberState}
use Rattle.cdc_subscriber.proofs.ReceptionLemmas.{Listens-unsettled, kept_of-end}
use Rattle.cdc_subscriber.proofs.subscriber.Subscriber.take_end.Goals as goal

pub returns-clause-stands : goal.returns-clause-stands
returns-clause-stands c reception is =
    let listens = Listens-unsettled (kept_of reception) (rw is at (sym c.settled.ensures ∙ c.in_default.is)) in
    ap (λ (k : SubscriberState). record k { ended = true }) (c.self.view_is ∙ is) ∙ sym (kept_of-end reception listens)
