-- What a turn of a subscriber leaves as it is: its seat.
use Rattle.cdc_broker_actors.proofs.Words.{◌∙◌, ◌≡◌, Carries, OutOfMemory, PeerGone, RunFault, Stop, SubscriberComes, SubscriberCore, SubscriberHasFailed, ToSubscriber, ap, inl, inr, refl, subscriber_seat, with_message}
use Rattle.cdc_broker_actors.specs.Subscriber.{HasReceived}

-- a subscriber's
pub received_seat : (old new : SubscriberCore) → HasReceived old new → subscriber_seat new ≡ subscriber_seat old
received_seat old new has = ap subscriber_seat has.after ∙ message_seat has.message
  where
    message_seat : (message : ToSubscriber) → subscriber_seat (with_message message old) ≡ subscriber_seat old
    message_seat (Carries d) = refl
    message_seat Stop = refl

pub failed_subscriber_seat : (old : SubscriberCore) (fault : RunFault) (new : SubscriberCore)
    → SubscriberHasFailed old fault new → subscriber_seat new ≡ subscriber_seat old
failed_subscriber_seat old fault new has = go fault has.comes
  where
    go : (f : RunFault) → SubscriberComes old f new → subscriber_seat new ≡ subscriber_seat old
    go PeerGone (inl same) = ap subscriber_seat same
    go PeerGone (inr took) = ap subscriber_seat took.1.1
    go OutOfMemory took = ap subscriber_seat took.1.1
    go other took = absurd took
