-- What the subscribers of a run leave behind, once they have finished.
use Rattle.std.specs.Prelude.{◌≡◌, ℕ, true, List, [], ◌∷◌, ◌++◌, length, map}
use Rattle.cdc_broker_actors.specs.Broker.{BrokerCore}
use Rattle.cdc_broker_actors.specs.Subscriber.{SubscriberCore, IsSubscriberActor}
use Rattle.cdc_broker_actors.specs.declared.subscriber.parts.SubscriberParts.{SubscriberParts}
use Rattle.cdc_actors.specs.Ends.{ActorState, has_finished}
use Rattle.cdc_run.specs.Parts.{AreActorsOf, works_of}
use Rattle.cdc_run.specs.declared.subscribers.SubscriberMail.{SubscriberMail}

-- subscribers of a system that have finished and have met no fault, with these numbers one after another
abbrev pub AreSubscribersOf : ℕ → ℕ → List (ActorState SubscriberCore) → Type 0
AreSubscribersOf = AreActorsOf (λ (c : SubscriberCore). c.number) IsSubscriberActor (λ c. c.finished)

-- it is what these have left behind
pub record IsLeftBy (subscribers : List (ActorState SubscriberCore)) (mail : SubscriberMail) : Type 0 where
  pub acks : mail.acks.items ≡ map (λ s. s.acks) (works_of subscribers)
  pub inboxes : mail.inboxes.items ≡ map (λ s. s.inbox) (works_of subscribers)
  pub subscribers_are : mail.subscribers.items ≡ map (λ s. s.subscriber) (works_of subscribers)
  pub arrivals : map (λ v. v.items) mail.arrivals.items ≡ map (λ s. s.arrivals) (works_of subscribers)

-- it has what was left, by kind
pub record HasAllOf (parts : List SubscriberParts) (mail : SubscriberMail) : Type 0 where
  pub acks : mail.acks.items ≡ map (λ p. p.acks) parts
  pub inboxes : mail.inboxes.items ≡ map (λ p. p.inbox) parts
  pub subscribers_are : mail.subscribers.items ≡ map (λ p. p.subscriber) parts
  pub arrivals : mail.arrivals.items ≡ map (λ p. p.arrivals) parts

-- what one more has left behind was added
pub record IsMoreLeft (old : SubscriberMail) (parts : SubscriberParts) (new : SubscriberMail) : Type 0 where
  pub acks : new.acks.items ≡ old.acks.items ++ parts.acks ∷ []
  pub inboxes : new.inboxes.items ≡ old.inboxes.items ++ parts.inbox ∷ []
  pub subscribers_are : new.subscribers.items ≡ old.subscribers.items ++ parts.subscriber ∷ []
  pub arrivals : new.arrivals.items ≡ old.arrivals.items ++ parts.arrivals ∷ []

-- the broker actor of a system and all its subscribers have finished and have met no fault
pub record HasFinishedWith (system : ℕ) (broker : ActorState BrokerCore)
    (subscribers : List (ActorState SubscriberCore))
    : Type 0 where
  pub same : broker.system ≡ system
  pub over : has_finished (λ (d : BrokerCore). d.finished) broker ≡ true
  pub count : length subscribers ≡ length broker.work.consumers
  pub subscribers_are : AreSubscribersOf system 1 subscribers
