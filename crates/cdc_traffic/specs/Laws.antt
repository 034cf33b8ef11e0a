-- What follows from what senders may send.
use Rattle.std.specs.Prelude.{◌≡◌, ℕ, Bool, true, Option, List, [], ◌∷◌, ◌++◌, fold}
use Rattle.cdc_laws.specs.GoingOn.{GoesOn}
use Rattle.cdc_laws.specs.Readings.{AreReadings, Reading}
use Rattle.cdc_ledger.specs.Sound.{IsSound}
use Rattle.cdc_links.specs.Links.{CanSend}
use Rattle.cdc_traffic.specs.Following.{FollowsToBroker, FollowsToClient, FollowsToConnector, FollowsToLedger, FollowsToSubscriber, ends_to_broker, ends_to_ledger, ends_to_subscriber, last_left, last_named}
use Rattle.cdc_traffic.specs.Pasts.{Continues, history_of}
use Rattle.cdc_traffic.specs.declared.messages.ToConnector.{ToConnector}
use Rattle.cdc_traffic.specs.declared.messages.ToConnector.TheVariants.{PollReply as OfPoll, Confirm as OfPacket}
use Rattle.cdc_traffic.specs.declared.pasts.Past.{Past}
use Rattle.cdc_traffic.specs.declared.polls.PollReply.{PollReply}
use Rattle.cdc_traffic.specs.declared.requests.Reply.{Reply}

-- ---- histories

-- a past that extends another one is of a history that goes on from that one's
abbrev pub PastsGoOn : Type 0
PastsGoOn = (earlier later : Past) → Continues earlier later
    → GoesOn (history_of earlier) (history_of later) × IsSound (history_of later)

-- what a client was replied: the past that some of it has left is extended by the one that more of it has left
abbrev pub RepliesGoOn : Type 0
RepliesGoOn = (received more : List (Reply × Past)) → CanSend FollowsToClient 0 (received ++ more)
    → Continues (last_left received) (last_left (received ++ more))

-- ---- polls

-- what a reply to a poll states about the ledger
abbrev pub reading_of : PollReply → Reading
reading_of reply =
    record { after = reply.poll.after; limit = reply.poll.limit; events = reply.events; complete = reply.complete }

-- the readings after one more message; the list has the latest first
abbrev pub with_reading : List Reading → ToConnector → List Reading
with_reading readings (OfPoll reply) = reading_of reply ∷ readings
with_reading readings (OfPacket confirm) = readings

-- the readings among messages, the latest first
abbrev pub readings_of : {N : Type 0} → List (ToConnector × N) → List Reading
readings_of sent = fold (λ readings each. with_reading readings each.0) [] sent

-- what the ledger has replied to polls, and any prefix of it, are readings of each history that extends the one that
-- it named last
abbrev pub PollRepliesAreReadings : Type 0
PollRepliesAreReadings = (received more : List (ToConnector × Option Past)) (past : Past)
    → CanSend FollowsToConnector 0 (received ++ more) → Continues (last_named (received ++ more)) past
    → AreReadings (readings_of received) (history_of past)

-- ---- the last message

-- whoever has sent its last message has sent no other after it
abbrev pub EndsAreLast : {M N : Type 0} → (ℕ → List (M × N) → M × N → Type 0) → (M → Bool) → Type 0
EndsAreLast {M} {N} follows is_last =
    (sender : ℕ) (sent rest : List (M × N)) (last : M × N) → CanSend follows sender (sent ++ last ∷ rest)
    → is_last last.0 ≡ true → rest ≡ []

-- on each link that has a last message, whatever its messages name
abbrev pub ConversationsEnd : Type 0 → Type 0
ConversationsEnd N =
    EndsAreLast (FollowsToLedger {N = N}) ends_to_ledger
    × EndsAreLast (FollowsToBroker {N = N}) ends_to_broker
    × EndsAreLast (FollowsToSubscriber {N = N}) ends_to_subscriber
