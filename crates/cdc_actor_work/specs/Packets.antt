-- The packets among the messages to the broker.
use Rattle.std.specs.Prelude.{Option, Some, None, List}
use Rattle.std.specs.List.{filter_map}
use Rattle.cdc_publisher.specs.Packet.{Packet}
use Rattle.cdc_traffic.specs.declared.messages.ToBroker.{ToBroker}
use Rattle.cdc_traffic.specs.declared.messages.ToBroker.TheVariants as to_broker

-- the packets among messages to the broker, in order
abbrev pub packet_in : ToBroker → Option Packet
packet_in (to_broker.Packet packet) = Some packet
packet_in to_broker.Finish = None
packet_in (to_broker.Ack ack) = None

abbrev pub packets_in : {N : Type 0} → List (ToBroker × N) → List Packet
packets_in sent = filter_map (λ each. packet_in each.0) sent
