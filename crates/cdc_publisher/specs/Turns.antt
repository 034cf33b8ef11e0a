-- What a session keeps after each call. Cited by private contracts and proofs alone.
use Rattle.std.specs.Prelude.{◌+◌, ◌==◌, Bool, true, ◌&&◌, not, Option, Some, None, List, [], ◌∷◌, ◌++◌, if◌then◌else◌}
use Rattle.cdc_types.specs.declared.events.Event.{Event}
use Rattle.cdc_message.specs.declared.items.Item.TheVariants.{Event as OfEvent, EndMark}
use Rattle.cdc_message.specs.declared.packets.Packet.{Packet}
use Rattle.cdc_message.specs.declared.packets.Packet.TheVariants.{Connect, Publish}
use Rattle.cdc_publisher.specs.SessionState.{SessionState, is_nil}

-- the end mark comes next if no event is unsent
abbrev pub ends : SessionState → Bool
ends kept = kept.complete && (not kept.ended && is_nil kept.unconfirmed)

-- what is published next: the oldest unsent event, or else the end mark
abbrev pub publish_of : SessionState → List Event → Option Packet
publish_of kept (event ∷ events) = Some (Publish kept.number kept.sent (OfEvent event))
publish_of kept [] = if ends kept then Some (Publish kept.number kept.sent EndMark) else None

-- what is sent next
abbrev pub packet_of : SessionState → Option Packet
packet_of kept = if kept.sent == 0 then Some (Connect kept.number) else publish_of kept kept.unsent

-- what is kept after one more tag was sent
abbrev pub tagged : SessionState → SessionState
tagged kept = record kept {
  sent = kept.sent + 1;
  unconfirmed = kept.unconfirmed ++ record { tag = kept.sent; before = kept.last_sent } ∷ [];
}

-- the state after the oldest unsent event was sent or, if there is none, the end mark, if it may be sent
abbrev pub published : SessionState → List Event → SessionState
published kept (event ∷ events) = record (tagged kept) { unsent = events; last_sent = event.timestamp }
published kept [] = if ends kept then record (tagged kept) { ended = true } else kept

-- what is kept after the next packet was sent, if there is one
abbrev pub advanced : SessionState → SessionState
advanced kept = if kept.sent == 0 then record kept { sent = 1 } else published kept kept.unsent
