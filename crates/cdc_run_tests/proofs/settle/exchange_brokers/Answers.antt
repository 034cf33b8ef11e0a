use Rattle.std.proofs.Common.{subst, sym}
use Rattle.cdc_broker_actors.specs.Broker.{BrokerCore}
use Rattle.cdc_actors.specs.Ends.{ActorState}
use Rattle.cdc_run_tests.specs.Systems.{MayBeSettled}
use Rattle.cdc_run_tests.proofs.Sitting.{first_seated, second_seated}
use Rattle.cdc_run_tests.proofs.settle.exchange_brokers.Goals as goal

pub returns-clause-first : goal.returns-clause-first
returns-clause-first c =
    subst (λ (broker : ActorState BrokerCore). MayBeSettled (record c.args.first.now { broker = broker }))
    (sym c.swap.ensures.x_after)
    (first_seated c.args.first.now c.args.second.now c.requires.one c.requires.two)

pub returns-clause-second : goal.returns-clause-second
returns-clause-second c =
    subst (λ (broker : ActorState BrokerCore). MayBeSettled (record c.args.second.now { broker = broker }))
    (sym c.swap.ensures.y_after)
    (second_seated c.args.first.now c.args.second.now c.requires.one c.requires.two)
