-- A broker: whose connection is current, which tag it takes next, and its queues.
use Rattle.std.specs.Prelude.{◌≡◌, ℕ, ◌-◌, ◌==◌, Bool, true, false, Option, Some, None, Result, Ok, Err, List, [], ◌∷◌, ◌++◌, map, All, slice_get, slice_set, unwrap_or, if◌then◌else◌}
use Rattle.std.specs.declared.alloc.AllocError.{AllocError}
use Rattle.cdc_match.specs.declared.pairs.Mode.TheVariants as mode
use Rattle.cdc_match.specs.Arguments.{Arguments}
use Rattle.cdc_match.specs.Queue.{queue}
use Rattle.cdc_message.specs.declared.items.Item.{Item}
use Rattle.cdc_message.specs.declared.packets.Packet.{Packet}
use Rattle.cdc_message.specs.declared.packets.Packet.TheVariants.{Connect, Publish}
use Rattle.cdc_broker.specs.declared.broker.Refusal.{Refusal}
use Rattle.cdc_broker.specs.declared.broker.Refusal.TheVariants.{WrongConnection, WrongTag}
use Rattle.cdc_broker.specs.declared.broker.Taken.{Taken}
use Rattle.cdc_broker.specs.declared.broker.Taken.TheVariants.{Accepted, Ignored}
use Rattle.cdc_broker.specs.Packets.{is_taken_at, tag_after}
use Rattle.cdc_broker.specs.Queues.{QueueState, empty_queue, queued}

-- the number of the current connection, 0 before the first; the tag that is taken next, if one is; and the queues
pub record BrokerState : Type 0 where
  pub connection : ℕ
  pub expected : Option ℕ
  pub queues : List QueueState

-- a broker that nothing has come to, with a queue for each binding
abbrev pub empty_broker : List Arguments → BrokerState
empty_broker bindings = record { connection = 0; expected = None; queues = map empty_queue bindings }

-- whether the broker takes a packet
abbrev pub takes_packet : BrokerState → Packet → Bool
takes_packet s packet = is_taken_at s.connection s.expected packet

-- the broker after a new connection: tags start at 1 again
abbrev pub connected : ℕ → BrokerState → BrokerState
connected connection s = record s { connection = connection; expected = Some 1 }

-- the broker after an item that it accepted under this tag
abbrev pub published : ℕ → Item → BrokerState → BrokerState
published tag item s = record s { expected = tag_after tag; queues = map (queued item) s.queues }

-- the broker after a packet that it took
abbrev pub after_packet : BrokerState → Packet → BrokerState
after_packet s (Connect session) = connected session s
after_packet s (Publish session tag item) = published tag item s

-- why a publish under this connection isn't taken: the first of the two refusals
abbrev pub refusal_of : BrokerState → ℕ → Refusal
refusal_of s connection = if connection == s.connection then WrongTag else WrongConnection

-- the answer to a publish under this connection and tag, and the broker after it: the publish is taken, for which
-- memory may run out, or ignored; unless it is accepted, the broker stays the same
abbrev pub Publishes : BrokerState → ℕ → ℕ → Item → Result Taken AllocError → BrokerState → Type 0
Publishes s connection tag item (Ok Accepted) s' =
    (takes_packet s (Publish connection tag item) ≡ true) × (s' ≡ published tag item s)
Publishes s connection tag item (Ok (Ignored refusal)) s' =
    (takes_packet s (Publish connection tag item) ≡ false) × (refusal ≡ refusal_of s connection) × (s' ≡ s)
Publishes s connection tag item (Err _) s' = (takes_packet s (Publish connection tag item) ≡ true) × (s' ≡ s)

-- the binding of a queue that doesn't exist
abbrev pub nobody : Arguments
nobody = record { mode = mode.Any; pairs = [] }

-- the queue of this number, from 1 on
abbrev pub queue_of : BrokerState → ℕ → QueueState
queue_of s i = unwrap_or (slice_get s.queues (i - 1)) (empty_queue nobody)

-- the broker with another queue under this number
abbrev pub with_queue : ℕ → QueueState → BrokerState → BrokerState
with_queue i q s = record s { queues = slice_set s.queues (i - 1) q }

-- the accepted items, with this one added if it was accepted
abbrev pub accepted_after : List Item → Item → Result Taken AllocError → List Item
accepted_after accepted item (Ok Accepted) = accepted ++ item ∷ []
accepted_after accepted item (Ok (Ignored _)) = accepted
accepted_after accepted item (Err _) = accepted

-- the broker has accepted these items: each queue holds those that belong to it, in order
abbrev pub HasAccepted : BrokerState → List Item → Type 0
HasAccepted s accepted = All (λ q. q.items ≡ queue accepted q.binding) s.queues
