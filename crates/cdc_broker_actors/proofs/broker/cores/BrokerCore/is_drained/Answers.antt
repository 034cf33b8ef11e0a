use Rattle.cdc_broker_actors.proofs.Words.{◌==◌, Consumer, rules, tests}
use Rattle.std.proofs.lemmas.Iterator.{YieldsList-from_slice}
use Rattle.std.proofs.lemmas.Iterator.Search.{all_from_yields_List}
use Rattle.cdc_broker_actors.proofs.broker.cores.BrokerCore.is_drained.Goals as goal

pub returns-then-self : goal.returns-then-self
returns-then-self c =
    rw (← c.self.view_is, c.if-self.true)
    (all_from_yields_List (λ (x : Consumer). x.unacked == 0) _ _ c.all.result c.all.ensures.ran
    (YieldsList-from_slice c.self.inside.consumers.items (cc)) (λ x b q k. search (rules, tests)))
