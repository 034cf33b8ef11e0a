-- How far a subscriber actor has come, whether it has met a fault or not.
use Rattle.std.specs.Prelude.{◌≡◌, ◌⊎◌, ◌≤◌, false, List, [], ◌∷◌, ◌++◌, length, map}
use Rattle.cdc_broker_actors.specs.Subscriber.{SubscriberCore, IsBrought, IsSubscriberActor, ack_of, arrivals_by, received_by, stop_if, taken_by}
use Rattle.cdc_actor_work.specs.declared.faults.RunFault.{RunFault}
use Rattle.cdc_actor_work.specs.declared.faults.RunFault.TheVariants.{PeerGone, OutOfMemory, Store, SessionsExhausted, NotOneSystem, StartNotAllowed}
use Rattle.cdc_links.specs.Links.{of_sender, with_received}
use Rattle.cdc_message.specs.declared.items.Delivery.{Delivery}
use Rattle.cdc_subscriber.specs.Reception.{kept_of}
use Rattle.cdc_traffic.specs.declared.messages.ToSubscriber.TheVariants.{Delivery as Carries}

-- ---- a turn that fails

-- a delivery was received, and the subscriber hasn't taken it
abbrev pub with_untaken : Delivery → SubscriberCore → SubscriberCore
with_untaken d c = record c { inbox = with_received c.inbox (0, (Carries d, tt)) }

-- a delivery was received and taken, and isn't acknowledged
abbrev pub with_unacknowledged : Delivery → SubscriberCore → SubscriberCore
with_unacknowledged d c = record c {
  inbox = with_received c.inbox (0, (Carries d, tt));
  subscriber = kept_of (received_by c.close_after (taken_by c.inbox ++ d ∷ []));
  arrivals = arrivals_by c.close_after (taken_by c.inbox ++ d ∷ []);
}

-- how far such a turn has come, by its fault. If the broker is gone, either no message came and nothing has changed,
-- or a delivery was taken and its acknowledgement wasn't sent. If memory runs out, a delivery was received and
-- couldn't be taken. Nothing was acknowledged
abbrev pub ComesSoFar : SubscriberCore → RunFault → SubscriberCore → Type 0
ComesSoFar old PeerGone new =
    (new ≡ old)
    ⊎ ((d : Delivery) × (IsBrought old.inbox (Carries d) new.inbox × (new ≡ with_unacknowledged d old)))
ComesSoFar old OutOfMemory new =
    (d : Delivery) × (IsBrought old.inbox (Carries d) new.inbox × (new ≡ with_untaken d old))
ComesSoFar old (Store why) new = ⊥
ComesSoFar old SessionsExhausted new = ⊥
ComesSoFar old NotOneSystem new = ⊥
ComesSoFar old StartNotAllowed new = ⊥

-- only an actor that hasn't finished fails
pub record HasFailed (old : SubscriberCore) (fault : RunFault) (new : SubscriberCore) : Type 0 where
  pub working : old.finished ≡ false
  pub comes : ComesSoFar old fault new

-- ---- at any time

-- with a fault or without one. All that it has received from the broker are deliveries, and then, if it has finished,
-- the last message. It has acknowledged each of them in their order, and nothing else, except possibly the last one.
-- Its subscriber is in the state that the acknowledged ones lead to, or in the one that all of them lead to
pub record IsSubscriberSoFar (c : SubscriberCore) : Type 0 where
  pub acknowledged : List Delivery
  pub rest : List Delivery
  pub own : c.acks.number ≡ c.number
  pub alone : c.inbox.senders ≡ 1
  pub of_broker : of_sender 0 c.inbox.received ≡ map (λ e. e.1) c.inbox.received
  pub came : map (λ e. e.1.0) c.inbox.received ≡ map Carries (taken_by c.inbox) ++ stop_if c.finished
  pub all : taken_by c.inbox ≡ acknowledged ++ rest
  pub at_most_one : length rest ≤ 1
  pub acks : map (λ m. m.0) c.acks.sent ≡ map (ack_of c.number) acknowledged
  pub keeps : (c.subscriber ≡ kept_of (received_by c.close_after acknowledged))
      ⊎ (c.subscriber ≡ kept_of (received_by c.close_after (taken_by c.inbox)))

-- ---- laws

-- this holds of it between two turns, and after a turn that has failed
pub record SubscribersComeSoFar : Type 0 where
  pub between : (c : SubscriberCore) → IsSubscriberActor c → IsSubscriberSoFar c
  pub failed : (old : SubscriberCore) (fault : RunFault) (new : SubscriberCore) → IsSubscriberActor old
      → HasFailed old fault new
      → IsSubscriberSoFar new
