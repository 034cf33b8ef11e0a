use Rattle.std.proofs.Common.{sym, subst}
use Rattle.std.proofs.lemmas.Result.{IfOk-weaker}
use Rattle.cdc_ledger_actors.specs.Ledger.{IsLedgerTurn}
use Rattle.cdc_ledger_actors.proofs.LedgerLemmas.Turns.{served_so}
use Rattle.cdc_ledger_actors.proofs.LedgerLemmas.Fails.{looked_failed}
use Rattle.cdc_ledger_actors.proofs.ledger.cores.LedgerCore.turn.Goals as goal

pub returns-clause-turned : goal.returns-clause-turned
returns-clause-turned g c =
    IfOk-weaker c.look_again.result _ _
    (λ x looked.
    subst (IsLedgerTurn c.args.self.now) (sym looked)
    (served_so c.args.self.now c.take.new.self c.in_ok-take.ensures.taken))
    c.look_again.ensures.looked

pub returns-clause-failed : goal.returns-clause-failed
returns-clause-failed g c =
    looked_failed c.args.self.now c.take.new.self c.look_again.new.self c.look_again.result c.in_ok-take.ensures.taken
    c.look_again.ensures.refused c.look_again.ensures.asked c.look_again.ensures.kind
