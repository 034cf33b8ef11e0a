use Rattle.std.proofs.Common.{sym, subst}
use Rattle.cdc_connector_actor.specs.Connector.{IsConnectorActor}
use Rattle.cdc_connector_actor.proofs.ConnectorLemmas.Rounds.{begins}
use Rattle.cdc_actors.proofs.connector.ConnectorEnd+S.new.Goals as goal

pub of-requires : goal.of-requires
of-requires g c =
    let a = c.args in
    let r = c.requires in
    subst IsConnectorActor (sym c.new.ensures)
    (begins a.inbox a.polls a.packets _ _ _ _ a.window a.restart_after.items r.fresh r.two r.to_ledger r.asked
    r.to_broker
    r.published r.window)
