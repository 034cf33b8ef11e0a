-- What each sender of a run's links may send next, after what it has sent so far: each message with what it names.
use Rattle.std.specs.Prelude.{◌≡◌, ℕ, ◌+◌, ◌<◌, Bool, true, false, Option, Some, None, List, Contains, fold, length, unwrap_or}
use Rattle.std.specs.List.{list_any}
use Rattle.cdc_ledger.specs.Events.{events}
use Rattle.cdc_ledger.specs.History.{History}
use Rattle.cdc_ledger.specs.Submit.{IsLegal}
use Rattle.cdc_message.specs.declared.items.Item.{Item}
use Rattle.cdc_message.specs.declared.items.Item.TheVariants.{Event as OfEvent, EndMark}
use Rattle.cdc_message.specs.declared.packets.Answer.{Answer}
use Rattle.cdc_message.specs.declared.packets.Answer.TheVariants.{Connected, Confirmed, Ignored, Broken}
use Rattle.cdc_message.specs.declared.packets.Confirm.{Confirm}
use Rattle.cdc_message.specs.declared.packets.Packet.{Packet as APacket}
use Rattle.cdc_message.specs.declared.packets.Packet.TheVariants.{Connect, Publish}
use Rattle.cdc_traffic.specs.Answering.{answer_shown, read_by}
use Rattle.cdc_traffic.specs.Pasts.{Continues, history_of, no_past, with_batch}
use Rattle.cdc_traffic.specs.declared.messages.ToBroker.{ToBroker}
use Rattle.cdc_traffic.specs.declared.messages.ToBroker.TheVariants as to_broker
use Rattle.cdc_traffic.specs.declared.messages.ToConnector.{ToConnector}
use Rattle.cdc_traffic.specs.declared.messages.ToConnector.TheVariants as to_connector
use Rattle.cdc_traffic.specs.declared.messages.ToLedger.{ToLedger}
use Rattle.cdc_traffic.specs.declared.messages.ToLedger.TheVariants as to_ledger
use Rattle.cdc_traffic.specs.declared.messages.ToSubscriber.{ToSubscriber}
use Rattle.cdc_traffic.specs.declared.messages.ToSubscriber.TheVariants as to_subscriber
use Rattle.cdc_traffic.specs.declared.pasts.Past.{Past}
use Rattle.cdc_traffic.specs.declared.polls.PollReply.{PollReply}
use Rattle.cdc_traffic.specs.declared.requests.Reply.{Reply}

-- among these is the last message of their sender
abbrev pub has_ended : {M N : Type 0} → (M → Bool) → List (M × N) → Bool
has_ended is_last sent = list_any (λ each. is_last each.0) sent

-- ---- to the ledger, of the connector (0) and of each client (its number)

-- the last message of a client or of the connector
abbrev pub ends_to_ledger : ToLedger → Bool
ends_to_ledger (to_ledger.Request request) = false
ends_to_ledger (to_ledger.Done client) = true
ends_to_ledger (to_ledger.Poll poll) = false
ends_to_ledger to_ledger.Finish = true

-- this sender may send it after this many others: a client gives its own number, and numbers its requests from 1
abbrev pub MaySendLedger : ℕ → ℕ → ToLedger → Type 0
MaySendLedger sender count (to_ledger.Request request) =
    (0 < sender) × (request.client ≡ sender) × (request.number ≡ count + 1)
MaySendLedger sender count (to_ledger.Done client) = (0 < sender) × (client ≡ sender)
MaySendLedger sender count (to_ledger.Poll poll) = sender ≡ 0
MaySendLedger sender count to_ledger.Finish = sender ≡ 0

-- nothing follows the last message
pub record FollowsToLedger {N : Type 0} (sender : ℕ) (before : List (ToLedger × N)) (next : ToLedger × N)
    : Type 0 where
  pub goes_on : has_ended ends_to_ledger before ≡ false
  pub may : MaySendLedger sender (length before) next.0

-- ---- to a client, of the ledger (0)

-- the past that the latest of these replies has left: the one that it names, with its batch
abbrev pub last_left : List (Reply × Past) → Past
last_left sent = fold (λ past each. with_batch each.0.batch each.1) no_past sent

-- replies are numbered from 1; each is the answer of an open ledger with the history that it names, which extends the
-- one that the reply before it has left
pub record FollowsToClient (sender : ℕ) (before : List (Reply × Past)) (next : Reply × Past) : Type 0 where
  pub ledger : sender ≡ 0
  pub number : next.0.number ≡ length before + 1
  pub legal : IsLegal (history_of next.1)
  pub not_closed : next.1.closed ≡ false
  pub answer : next.0.answer ≡ answer_shown (history_of next.1) next.0.batch
  pub continues : Continues (last_left before) next.1

-- ---- to the connector, of the ledger (0) and of the broker (1)

-- the past that was named last
abbrev pub last_named : {M : Type 0} → List (M × Option Past) → Past
last_named sent = fold (λ past each. unwrap_or each.1 past) no_past sent

-- a reply to a poll is read of the history that it names, which extends the one that was named before it
pub record IsReadOf (before : List (ToConnector × Option Past)) (reply : PollReply) (past : Past) : Type 0 where
  pub legal : IsLegal (history_of past)
  pub read : reply ≡ read_by (history_of past) reply.poll
  pub continues : Continues (last_named before) past

-- a tag is counted from 1
abbrev pub HasTag : Answer → Type 0
HasTag (Confirmed tag) = 0 < tag
HasTag Connected = Unit {0}
HasTag Ignored = Unit {0}
HasTag Broken = Unit {0}

-- a confirm is of a session, and of a tag if it confirms one
abbrev pub IsConfirm : Confirm → Type 0
IsConfirm confirm = (0 < confirm.session) × HasTag confirm.answer

-- the ledger replies to polls and names a history; the broker confirms and names none
abbrev pub MaySendConnector : ℕ → List (ToConnector × Option Past) → ToConnector → Option Past → Type 0
MaySendConnector sender before (to_connector.PollReply reply) (Some past) =
    (sender ≡ 0) × IsReadOf before reply past
MaySendConnector sender before (to_connector.PollReply reply) None = ⊥
MaySendConnector sender before (to_connector.Confirm confirm) (Some past) = ⊥
MaySendConnector sender before (to_connector.Confirm confirm) None = (sender ≡ 1) × IsConfirm confirm

pub record FollowsToConnector (sender : ℕ) (before : List (ToConnector × Option Past))
    (next : ToConnector × Option Past) : Type 0 where
  pub may : MaySendConnector sender before next.0 next.1

-- ---- to the broker, of the connector (0) and of each subscriber (its number)

-- an event is one of a history that batches and a close make
abbrev pub IsEmitted : Item → Type 0
IsEmitted (OfEvent event) = (h : History) × IsLegal h × Contains (events h) event
IsEmitted EndMark = Unit {0}

-- sessions and tags are counted from 1
abbrev pub IsPacket : APacket → Type 0
IsPacket (Connect session) = 0 < session
IsPacket (Publish session tag item) = (0 < session) × (0 < tag) × IsEmitted item

-- the last message of the connector; a subscriber has none
abbrev pub ends_to_broker : ToBroker → Bool
ends_to_broker (to_broker.Packet packet) = false
ends_to_broker to_broker.Finish = true
ends_to_broker (to_broker.Ack ack) = false

-- a subscriber gives its own number, and a position; both are counted from 1
abbrev pub MaySendBroker : ℕ → ToBroker → Type 0
MaySendBroker sender (to_broker.Packet packet) = (sender ≡ 0) × IsPacket packet
MaySendBroker sender to_broker.Finish = sender ≡ 0
MaySendBroker sender (to_broker.Ack ack) = (0 < sender) × (ack.subscriber ≡ sender) × (0 < ack.position)

-- nothing follows the last message
pub record FollowsToBroker {N : Type 0} (sender : ℕ) (before : List (ToBroker × N)) (next : ToBroker × N)
    : Type 0 where
  pub goes_on : has_ended ends_to_broker before ≡ false
  pub may : MaySendBroker sender next.0

-- ---- to a subscriber, of the broker (0)

-- the last message
abbrev pub ends_to_subscriber : ToSubscriber → Bool
ends_to_subscriber (to_subscriber.Delivery delivery) = false
ends_to_subscriber to_subscriber.Stop = true

-- positions are counted from 1
abbrev pub MaySendSubscriber : ToSubscriber → Type 0
MaySendSubscriber (to_subscriber.Delivery delivery) = 0 < delivery.position
MaySendSubscriber to_subscriber.Stop = Unit {0}

-- nothing follows the last message
pub record FollowsToSubscriber {N : Type 0} (sender : ℕ) (before : List (ToSubscriber × N)) (next : ToSubscriber × N)
    : Type 0 where
  pub broker : sender ≡ 0
  pub goes_on : has_ended ends_to_subscriber before ≡ false
  pub may : MaySendSubscriber next.0
