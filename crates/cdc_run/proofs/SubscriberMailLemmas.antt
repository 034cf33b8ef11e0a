-- What the subscribers of a run leave behind.
use Rattle.cdc_run.proofs.Words.{ActorState, AreLeftOf, ArePartsOf, IsLeftBy, IsMoreLeft, List, SubscriberCore, [], ap, map, map-append, map-map, sym, works_of, ◌++◌, ◌∙◌, ◌∷◌}
use Rattle.cdc_broker_actors.specs.declared.subscriber.parts.SubscriberParts.{SubscriberParts}
use Rattle.cdc_run.specs.SubscriberMail.{HasAllOf}
use Rattle.cdc_run.specs.declared.subscribers.SubscriberMail.{SubscriberMail}
use Rattle.cdc_run.proofs.Apart.{left_of}

-- one more has left this
pub all_push : (before : List SubscriberParts) (parts : SubscriberParts) (old new : SubscriberMail)
    → HasAllOf before old
    → IsMoreLeft old parts new → HasAllOf (before ++ parts ∷ []) new
all_push before parts old new has more = record {
  acks = more.acks ∙ ap (λ l. l ++ parts.acks ∷ []) has.acks
      ∙ sym (map-append (λ (p : SubscriberParts). p.acks) before (parts ∷ []));
  inboxes = more.inboxes ∙ ap (λ l. l ++ parts.inbox ∷ []) has.inboxes
      ∙ sym (map-append (λ (p : SubscriberParts). p.inbox) before (parts ∷ []));
  subscribers_are = more.subscribers_are ∙ ap (λ l. l ++ parts.subscriber ∷ []) has.subscribers_are
      ∙ sym (map-append (λ (p : SubscriberParts). p.subscriber) before (parts ∷ []));
  arrivals = more.arrivals ∙ ap (λ l. l ++ parts.arrivals ∷ []) has.arrivals
      ∙ sym (map-append (λ (p : SubscriberParts). p.arrivals) before (parts ∷ []));
}

-- what was left is theirs
pub mail_of : (subscribers : List (ActorState SubscriberCore)) (parts : List SubscriberParts) (mail : SubscriberMail)
    → AreLeftOf ArePartsOf (works_of subscribers) parts → HasAllOf parts mail → IsLeftBy subscribers mail
mail_of subscribers parts mail left has =
    let works : List SubscriberCore = works_of subscribers in
    record {
      acks = has.acks ∙ left_of ArePartsOf (λ p. p.acks) (λ c. c.acks) (λ c p are. are.acks_are) works parts left;
      inboxes = has.inboxes
          ∙ left_of ArePartsOf (λ p. p.inbox) (λ c. c.inbox) (λ c p are. are.inbox_is) works parts left;
      subscribers_are = has.subscribers_are ∙ left_of ArePartsOf (λ p. p.subscriber) (λ c. c.subscriber)
          (λ c p are. are.subscriber_is) works parts left;
      arrivals = ap (map (λ v. v.items)) has.arrivals
          ∙ map-map (λ v. v.items) (λ (p : SubscriberParts). p.arrivals) parts
          ∙ left_of ArePartsOf (λ p. p.arrivals.items) (λ c. c.arrivals) (λ c p are. are.arrivals_are) works parts left;
    }
