use Rattle.cdc_broker_actors.proofs.Words.{BrokerCore, FollowsToBroker, HasFailed, IsBrokerCore, Option, TakesIfSome, ToBroker, passed_on, refl, subst}
use Rattle.cdc_broker_actors.proofs.BrokerLemmas.Failing.{failed_unheard}
use Rattle.cdc_broker_actors.proofs.BrokerLemmas.Fields.{seen}
use Rattle.cdc_broker_actors.proofs.broker.cores.BrokerCore.receive_ready.Goals as goal

pub returns-in_err-message-clause-failed : goal.returns-in_err-message-clause-failed
returns-in_err-message-clause-failed g c =
    let old : BrokerCore = seen c.self.inside in
    let is : IsBrokerCore old = rw c.self.view_is c.requires in
    let new : BrokerCore = record old { inbox = c.receive_ready.new.inbox } in
    let fault = c.in_err-message.field-0.0 in
    let gone = c.in_err-message.ensures.refused in
    passed_on (λ f. HasFailed c.args.self.now f new) _ _ c.from_residual.ensures.1
    (rw c.self.view_is at (failed_unheard old new fault is (gone.0, λ i. record old { inbox = gone.1 i })))

pub handle-requires : goal.handle-requires
handle-requires g c =
    let old : BrokerCore = seen c.self.inside in (
      old,
      record {
        core = rw c.self.view_is c.requires;
        takes = subst
            (λ (ready : Option ToBroker). TakesIfSome FollowsToBroker old.inbox ready c.receive_ready.new.inbox)
            c.in-Some.is c.in_ok-message.ensures.after;
        after = refl;
      },
    )
