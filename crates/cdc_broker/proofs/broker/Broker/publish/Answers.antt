use Rattle.std.proofs.Common.{[], ◌∷◌, ◌++◌, sym, subst}
use Rattle.cdc_broker.specs.Broker.{BrokerState, HasAccepted}
use Rattle.cdc_broker.proofs.Accepted.{HasAccepted-published}
use Rattle.cdc_broker.proofs.broker.Broker.publish.Goals as goal

pub returns-clause-accepted : goal.returns-clause-accepted
returns-clause-accepted c =
    λ accepted has. subst (λ (s : BrokerState). HasAccepted s (accepted ++ c.args.item ∷ []))
    (sym c.in_ok-accept.ensures.ok) (HasAccepted-published c.args.self.now c.args.tag c.args.item accepted has)
