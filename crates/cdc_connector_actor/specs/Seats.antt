-- The connector's seat: what no turn of it changes.
use Rattle.std.specs.Prelude.{ℕ, Bool, Option, Some, None, List, if◌then◌else◌}
use Rattle.cdc_connector_actor.specs.Connector.{Origin, ConnectorCore, origin_of}
use Rattle.cdc_links.specs.Links.{LinkId}
use Rattle.cdc_progress.specs.Stores.{Risks}
use Rattle.cdc_traffic.specs.declared.messages.ToBroker.{ToBroker}
use Rattle.cdc_traffic.specs.declared.messages.ToConnector.{ToConnector}
use Rattle.cdc_traffic.specs.declared.messages.ToLedger.{ToLedger}

-- the connector's: its inbox, over which links it polls and publishes, whether its store is honest, why that may
-- refuse, where a run over an honest one began, its window, and its plan of restarts
pub record ConnectorSeat : Type 0 where
  pub inbox : LinkId ToConnector
  pub polls : LinkId ToLedger
  pub packets : LinkId ToBroker
  pub honest : Bool
  pub risks : Risks
  pub origin : Option Origin
  pub window : ℕ
  pub restarts : List ℕ

abbrev pub origin_if : Bool → Origin → Option Origin
origin_if honest origin = if honest then Some origin else None

abbrev pub connector_seat : ConnectorCore → ConnectorSeat
connector_seat c = record {
  inbox = c.inbox.link;
  polls = c.polls.link;
  packets = c.packets.link;
  honest = c.honest;
  risks = c.risks;
  origin = origin_if c.honest (origin_of c);
  window = c.window;
  restarts = c.restarts;
}

-- the first session of a run begins right after its start
abbrev pub at_start : ℕ → Origin
at_start start = record { after = start; start = start }
