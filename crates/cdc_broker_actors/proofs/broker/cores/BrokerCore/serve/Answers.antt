use Rattle.cdc_broker_actors.proofs.Words.{◌<◌, ◌∙◌, ◌≡◌, BrokerCore, Consumer, IsBrokerCore, IsCutOff, Some, ap, false, length, passed_on, refl, slice_get, slice_get_read, slice_set, subst, sym, with_served, ℕ}
use Rattle.cdc_broker_actors.specs.declared.broker.cores.BrokerCore.TheInside.{Inside}
use Rattle.cdc_broker_actors.proofs.BrokerLemmas.Failing.{cut_stuck}
use Rattle.cdc_broker_actors.proofs.BrokerLemmas.Fields.{seen}
use Rattle.cdc_broker_actors.proofs.BrokerLemmas.Receiving.{may_deliver, served_so}
use Rattle.cdc_broker_actors.proofs.broker.cores.BrokerCore.serve.Goals as goal
use Rattle.cdc_broker_actors.proofs.broker.cores.BrokerCore.serve.Given.{Over}
use Rattle.cdc_broker_actors.proofs.broker.cores.BrokerCore.serve.Goals.{After-index_mut-consumer}

-- the broker as a queue is to be served, with the subscriber at its place
record IsServing (fields : Inside) (place : ℕ) (consumer : Consumer) : Type 0 where
  is : IsBrokerCore (seen fields)
  goes_on : fields.finished ≡ false
  found : slice_get fields.consumers.items place ≡ Some consumer

served : (g : Over) (c : After-index_mut-consumer g)
    → IsServing c.self.inside c.args.place c.index_mut-consumer.result.now
served g c =
    let old : BrokerCore = seen c.self.inside in
    let within = subst (λ (d : BrokerCore). c.args.place < length d.consumers) (sym c.self.view_is) c.requires.inside in
    record {
      is = subst IsBrokerCore (sym c.self.view_is) c.requires.core;
      goes_on = subst (λ (d : BrokerCore). d.finished ≡ false) (sym c.self.view_is) c.requires.goes_on;
      found = slice_get_read old.consumers _ c.args.place c.index_mut-consumer.result.now refl within
          c.index_mut-consumer.ensures.value;
    }

pub deliver-requires-clause-may : goal.deliver-requires-clause-may
deliver-requires-clause-may g c =
    let inside = c.self.inside in
    let old : BrokerCore = seen inside in
    let consumer = c.index_mut-consumer.result.now in
    let own = served g (goal.at.deliver-requires-clause-may g c).After-index_mut-consumer in
    may_deliver old own.is own.goes_on c.args.place consumer own.found

pub returns-clause-after : goal.returns-clause-after
returns-clause-after g c =
    let inside = c.self.inside in
    let old : BrokerCore = seen inside in
    let consumer = c.index_mut-consumer.result.now in
    let own = served g (goal.at.returns-clause-after g c).After-index_mut-consumer in
    served_so old c.as_slice-repeat.result.now c.args.place consumer c.deliver.new.consumer
    c.deliver.new.broker c.as_slice-repeat.ensures.value own.found c.in_ok-deliver.ensures.after
    ∙ ap (with_served c.args.place) c.self.view_is

pub returns-in_err-deliver-clause-failed : goal.returns-in_err-deliver-clause-failed
returns-in_err-deliver-clause-failed g c =
    let inside = c.self.inside in
    let old : BrokerCore = seen inside in
    let consumer = c.index_mut-consumer.result.now in
    let own = served g (goal.at.returns-in_err-deliver-clause-failed g c).After-index_mut-consumer in
    let fault = c.in_err-deliver.field-0.0 in
    let new : BrokerCore = record old {
      broker = c.deliver.new.broker;
      consumers = slice_set old.consumers c.args.place c.deliver.new.consumer;
    } in
    passed_on (λ f. IsCutOff c.args.self.now f new) _ _ c.from_residual.ensures.1
    (rw c.self.view_is at (cut_stuck old own.is own.goes_on c.args.place consumer own.found fault c.deliver.new.broker
    c.deliver.new.consumer c.in_err-deliver.ensures.failed))
