use Rattle.std.proofs.lemmas.Result.{IfErr-weaker, IfOk-weaker}
use Rattle.cdc_actor_work.proofs.Counted.{few_received}
use Rattle.cdc_actor_work.proofs.Staying.{stays_by}
use Rattle.cdc_ledger_actors.proofs.Seated.{come_seat, served_seat}
use Rattle.cdc_ledger_actors.proofs.ledger.cores.LedgerCoreTurns.take_turn.Goals as goal

pub returns-clause-few : goal.returns-clause-few
returns-clause-few g c =
    IfOk-weaker c.turn.result _ _
    (λ x is.
    few_received c.args.self.now.inbox c.turn.new.self.inbox (is.sender, (is.message, tt)) is.inbox c.args._more)
    c.turn.ensures.turned

pub returns-clause-kept : goal.returns-clause-kept
returns-clause-kept g c = IfOk-weaker c.turn.result _ _ (λ x is. is.is) c.turn.ensures.turned

pub returns-clause-seat : goal.returns-clause-seat
returns-clause-seat g c =
    let old = c.args.self.now in
    let new = c.turn.new.self in
    stays_by c.turn.result _ _ (λ x is. served_seat old new is) (λ fault comes. come_seat old fault new comes)
    c.turn.ensures.turned c.turn.ensures.failed

pub returns-clause-failed : goal.returns-clause-failed
returns-clause-failed g c =
    IfErr-weaker c.turn.result _ _ (λ fault comes. record { working = c.requires.goes_on; comes = comes })
    c.turn.ensures.failed
