-- What packets carry.
use Rattle.std.specs.Prelude.{Option, None}
use Rattle.cdc_types.specs.declared.events.Event.{Event}
use Rattle.cdc_message.specs.declared.packets.Packet.{Packet}
use Rattle.cdc_message.specs.declared.packets.Packet.TheVariants.{Connect, Publish}
use Rattle.cdc_message.specs.Items.{item_event}

-- the event of the message that a packet carries, if it carries one
abbrev pub packet_event : Packet → Option Event
packet_event (Connect session) = None
packet_event (Publish session tag item) = item_event item
