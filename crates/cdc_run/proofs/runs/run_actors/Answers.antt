use Rattle.cdc_run.proofs.Words.{Actor, AllZip, Leaves, List, Stops, ap, crosses, first_stop, subst, sym, ◌∙◌}
use denote.Param.Send.{sendable}
use Rattle.cdc_actors.proofs.ends.End.TheSendSync as end
use Rattle.cdc_ledger_actors.proofs.ledger.cores.LedgerCore.TheSendSync as ledger
use Rattle.cdc_ledger_actors.proofs.client.cores.ClientCore.TheSendSync as client
use Rattle.cdc_connector_actor.proofs.connector.cores.ConnectorCore.TheSendSync as connector
use Rattle.cdc_broker_actors.proofs.subscriber.cores.SubscriberCore.TheSendSync as subscriber
use Rattle.cdc_run.proofs.scripted.Scripted.TheSendSync as scripted
use Rattle.cdc_run.proofs.Crossing.{core_crosses}
use Rattle.cdc_run.proofs.Worked.{all_ended}
use Rattle.cdc_run.proofs.runs.run_actors.Goals as goal

-- if no stop counts, each actor has finished
pub returns-in_ok-finished-in-None-clause-left : goal.returns-in_ok-finished-in-None-clause-left
returns-in_ok-finished-in-None-clause-left g c =
    subst (λ (l : List (Actor g.row.S.Denot)). AllZip Leaves c.args.ends.items l) (sym c.in_ok-finished-in-None.ensures)
    (all_ended Leaves Stops c.args.ends.items c.in_ok-outcomes.outcomes.items c.in_ok-outcomes.ensures
    (sym (c.in-None.ensures ∙ ap first_stop c.as_slice.ensures.value)))

-- an actor may be moved to a thread, and so may what it is when it has worked
pub run_jobs-requires-send-J : goal.run_jobs-requires-send-J
run_jobs-requires-send-J g c κs within = search (
  core_crosses,
  end.the_send,
  ledger.the_send,
  connector.the_send,
  subscriber.the_send,
  scripted.the_send,
  crosses,
  sendable,
) depth 60 fits 20000

pub run_jobs-requires-send-J-End : goal.run_jobs-requires-send-J-End
run_jobs-requires-send-J-End g c κs within = search (
  core_crosses,
  end.the_send,
  ledger.the_send,
  client.the_send,
  connector.the_send,
  subscriber.the_send,
  crosses,
  sendable,
) depth 60 fits 20000
