use Rattle.cdc_broker_actors.proofs.Words.{◌+◌, ◌<◌, ◌∙◌, ◌≡◌, BrokerCore, IsCutOff, all_served, ap, arith, length, passed_on, subst, suc, with_served, ℕ}
use Rattle.cdc_broker_actors.proofs.BrokerLemmas.Receiving.{IsServedTo, IsServedTo-next}
use Rattle.cdc_broker_actors.proofs.BrokerLemmas.Failing.{cut_served}
use Rattle.cdc_broker_actors.proofs.broker.cores.BrokerCore.serve_all.Goals as goal

pub loop-place-preserved : goal.loop-place-preserved
loop-place-preserved g c =
    let at = c.loop-place in
    let first : BrokerCore = c.args.self.now in
    let count : ℕ = length c.args.self.now.consumers in
    let inside : at.place < count = omega arith in
    let one : suc at.place ≡ at.place + 1 = omega arith in
    let after : c.serve.new.self ≡ with_served at.place at.self = c.in_ok-serve.ensures.after in (
      after
          ∙ ap (with_served at.place) at.invariant.0
          ∙ ap (λ (n : ℕ). all_served n first) one,
      subst (λ (n : ℕ). IsServedTo count n c.serve.new.self) one
          (rw after (IsServedTo-next count at.place at.self at.invariant.1 inside)),
    )

pub returns-in_err-serve-clause-failed : goal.returns-in_err-serve-clause-failed
returns-in_err-serve-clause-failed g c =
    let at = c.loop-place in
    passed_on (λ fault. IsCutOff c.args.self.now fault c.serve.new.self) _ _ c.from_residual.ensures.1
    (cut_served at.place c.args.self.now at.self c.serve.new.self c.in_err-serve.field-0.0 at.invariant.0
    c.in_err-serve.ensures.failed)
