use Rattle.cdc_broker_actors.proofs.Words.{◌≡◌, all_served, length}
use Rattle.cdc_broker_actors.proofs.BrokerLemmas.Receiving.{IsServedTo}
use Rattle.cdc_broker_actors.proofs.broker.cores.BrokerCore.serve_all.Given as goal

abbrev pub invariant-loop-place : goal.invariant-loop-place
invariant-loop-place g l =
    (l.self ≡ all_served l.place l.initial.self) × IsServedTo (length l.initial.self.consumers) l.place l.self
