use Rattle.cdc_broker_actors.proofs.Words.{◌∙◌, ◌≡◌, All, AreStopping, BrokerCore, Consumer, IsBrokerCore, IsCutOff, List, MayStop, false, passed_on, subst, sym, with_items_is}
use Rattle.std.specs.Vec.{with_items}
use Rattle.cdc_broker_actors.proofs.BrokerLemmas.Failing.{cut_stopping}
use Rattle.cdc_broker_actors.proofs.BrokerLemmas.Fields.{seen}
use Rattle.cdc_broker_actors.proofs.BrokerLemmas.Finishing.{may_stop}
use Rattle.cdc_broker_actors.proofs.broker.cores.BrokerCore.stop.Goals as goal

pub stop_all-requires : goal.stop_all-requires
stop_all-requires g c =
    let old : BrokerCore = seen c.self.inside in
    subst (λ (consumers : List Consumer). All MayStop consumers) (sym c.as_mut_slice.ensures.value)
    (may_stop old (subst IsBrokerCore (sym c.self.view_is) c.requires.core)
    (subst (λ (d : BrokerCore). d.finished ≡ false) (sym c.self.view_is) c.requires.goes_on))

pub returns-in_err-stop_all-clause-failed : goal.returns-in_err-stop_all-clause-failed
returns-in_err-stop_all-clause-failed g c =
    let inside = c.self.inside in
    let old : BrokerCore = seen inside in
    let is : IsBrokerCore old = subst IsBrokerCore (sym c.self.view_is) c.requires.core in
    let goes_on : old.finished ≡ false = subst (λ (d : BrokerCore). d.finished ≡ false) (sym c.self.view_is)
    c.requires.goes_on in
    let consumers : List Consumer = c.stop_all.new.consumers in
    let written = with_items_is inside.consumers consumers (c.stop_all.auto.consumers ∙ c.as_mut_slice.ensures.len) in
    let fault = c.in_err-stop_all.field-0.0 in
    let new : BrokerCore = record old { consumers = (with_items inside.consumers consumers).items } in
    passed_on (λ f. IsCutOff c.args.self.now f new) _ _ c.from_residual.ensures.1
    (subst (λ (d : BrokerCore). IsCutOff d fault new) c.self.view_is
    (subst (λ (cs : List Consumer). IsCutOff old fault (record old { consumers = cs })) (sym written)
    (cut_stopping old is goes_on consumers
    (subst (λ (cs : List Consumer). AreStopping cs consumers) c.as_mut_slice.ensures.value
    c.in_err-stop_all.ensures.failed.1) fault c.in_err-stop_all.ensures.failed.0)))
