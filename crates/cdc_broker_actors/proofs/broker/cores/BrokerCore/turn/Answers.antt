use Rattle.cdc_broker_actors.proofs.Words.{◌∙◌, BrokerCore, HasFailed, all_served, ap, length, passed_on, stopped, ℕ}
use Rattle.cdc_broker_actors.proofs.BrokerLemmas.Receiving.{GoesOn-all}
use Rattle.cdc_broker_actors.proofs.BrokerLemmas.Finishing.{served_all}
use Rattle.cdc_broker_actors.proofs.BrokerLemmas.Counted.{few_turned}
use Rattle.cdc_broker_actors.proofs.BrokerLemmas.Failing.{cut_served, failed_then}
use Rattle.cdc_broker_actors.proofs.broker.cores.BrokerCore.turn.Goals as goal

pub serve_all-requires-clause-core : goal.serve_all-requires-clause-core
serve_all-requires-clause-core g c =
    (GoesOn-all c.args.self.now c.receive_all.new.self c.requires.kept.core c.requires.goes_on
    c.in_ok-receive_all.ensures.after).core

pub serve_all-requires-clause-goes_on : goal.serve_all-requires-clause-goes_on
serve_all-requires-clause-goes_on g c =
    (GoesOn-all c.args.self.now c.receive_all.new.self c.requires.kept.core c.requires.goes_on
    c.in_ok-receive_all.ensures.after).goes_on

pub returns-clause-turned : goal.returns-clause-turned
returns-clause-turned g c =
    let mid : BrokerCore = c.receive_all.new.self in
    let has = c.in_ok-receive_all.ensures.after in
    let on = GoesOn-all c.args.self.now mid c.requires.kept.core c.requires.goes_on has in
    record {
      received = mid;
      has = has;
      after = c.in_ok-stop.ensures.after
          ∙ ap stopped (c.in_ok-serve_all.ensures.after ∙ ap (λ (n : ℕ). all_served n mid) on.many);
    }

pub returns-clause-few : goal.returns-clause-few
returns-clause-few g c =
    let mid : BrokerCore = c.receive_all.new.self in
    few_turned c.args.more (length mid.consumers) c.args.self.now mid c.serve_all.new.self c.stop.new.self
    c.in_ok-receive_all.ensures.few c.in_ok-serve_all.ensures.after c.in_ok-stop.ensures.after

pub stop-requires-clause-core : goal.stop-requires-clause-core
stop-requires-clause-core g c =
    (served_all c.args.self.now c.receive_all.new.self c.serve_all.new.self c.requires.kept.core c.requires.goes_on
    c.in_ok-receive_all.ensures.after c.in_ok-serve_all.ensures.after).core

pub stop-requires-clause-goes_on : goal.stop-requires-clause-goes_on
stop-requires-clause-goes_on g c =
    (served_all c.args.self.now c.receive_all.new.self c.serve_all.new.self c.requires.kept.core c.requires.goes_on
    c.in_ok-receive_all.ensures.after c.in_ok-serve_all.ensures.after).goes_on

pub returns-in_err-serve_all-clause-failed : goal.returns-in_err-serve_all-clause-failed
returns-in_err-serve_all-clause-failed g c =
    let old = c.args.self.now in
    let fault = c.in_err-serve_all.field-0.0 in
    passed_on (λ f. HasFailed old f c.serve_all.new.self) _ _ c.from_residual-in_err-serve_all.ensures.1
    (failed_then old c.receive_all.new.self c.serve_all.new.self fault c.in_ok-receive_all.ensures.after
    c.in_err-serve_all.ensures.kind c.in_err-serve_all.ensures.failed)

pub returns-in_err-stop-clause-failed : goal.returns-in_err-stop-clause-failed
returns-in_err-stop-clause-failed g c =
    let old = c.args.self.now in
    let fault = c.in_err-stop.field-0.0 in
    passed_on (λ f. HasFailed old f c.stop.new.self) _ _ c.from_residual-in_err-stop.ensures.1
    (failed_then old c.receive_all.new.self c.stop.new.self fault c.in_ok-receive_all.ensures.after
    c.in_err-stop.ensures.kind
    (cut_served (length c.receive_all.new.self.consumers) c.receive_all.new.self c.serve_all.new.self
    c.stop.new.self fault c.in_ok-serve_all.ensures.after c.in_err-stop.ensures.failed))
