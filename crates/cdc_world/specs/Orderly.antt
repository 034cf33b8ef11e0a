-- What holds of ledger, connector and broker in every world that steps lead to. Cited by proofs alone.
use Rattle.std.specs.Prelude.{◌≡◌, List}
use Rattle.cdc_laws.specs.Arrivals.{AreAmong, AreOfTaken, taken_of}
use Rattle.cdc_laws.specs.Connectors.{ConnectorState, KeepsTo}
use Rattle.cdc_ledger.specs.Sound.{IsSound}
use Rattle.cdc_message.specs.declared.packets.Confirm.{Confirm}
use Rattle.cdc_message.specs.declared.packets.Packet.{Packet}
use Rattle.cdc_world.specs.Worlds.{WorldState}

-- the connector of a world, if these confirms came to it
abbrev pub connector_in : WorldState → List Confirm → ConnectorState
connector_in w received =
    record { held = w.held; session = w.session; sent = w.packets; confirms = received }

-- the ledger's history is sound; some of the broker's confirms came to the connector, which keeps to that history; and
-- some of the connector's packets came to the broker, which took them and confirmed nothing else
pub record IsOrderly (w : WorldState) : Type 0 where
  pub sound : IsSound w.history
  pub received : List Confirm
  pub answers : AreAmong received w.confirms
  pub connector : KeepsTo w.history (connector_in w received)
  pub arrived : List Packet
  pub packets : AreAmong arrived w.packets
  pub accepted : w.accepted ≡ taken_of arrived
  pub confirmed : AreOfTaken w.confirms w.accepted
