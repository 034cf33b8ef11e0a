-- What a subscriber is delivered until it closes, with one delivery more.
use Rattle.cdc_broker_actors.proofs.Words.{◌++◌, ◌∙◌, ◌∷◌, ◌≡◌, Arrival, Bool, Delivery, List, Option, Reception, SubscriberCore, SubscriberState, [], ap, append-nil, append_assoc, ap₂, arrival_if, arrivals_by, arrivals_from, fold, kept_of, nothing, received_after, received_by, sym, taken_by, with_arrival, ℕ}

-- it arrives if the subscriber wasn't closed by those before
arrives_last : (close_after : Option ℕ) (reception : Reception) (ds : List Delivery) (d : Delivery)
    → arrivals_from close_after reception (ds ++ d ∷ [])
    ≡ with_arrival (fold (received_after close_after) reception ds).closed d (arrivals_from close_after reception ds)
arrives_last close_after reception [] d = append-nil (arrival_if reception.closed d)
arrives_last close_after reception (x ∷ ds) d =
    let next : Reception = received_after close_after reception x in
    let last : List Arrival = arrival_if (fold (received_after close_after) next ds).closed d in
    ap (λ (l : List Arrival). arrival_if reception.closed x ++ l) (arrives_last close_after next ds d)
    ∙ sym (append_assoc (arrival_if reception.closed x) (arrivals_from close_after next ds) last)

-- so what an actor notes of it is what its subscriber is delivered
pub noted_more : (c : SubscriberCore) (d : Delivery)
    → c.subscriber ≡ kept_of (received_by c.close_after (taken_by c.inbox))
    → c.arrivals ≡ arrivals_by c.close_after (taken_by c.inbox)
    → with_arrival c.subscriber.closed d c.arrivals ≡ arrivals_by c.close_after (taken_by c.inbox ++ d ∷ [])
noted_more c d keeps arrives =
    ap₂ (λ (closed : Bool) (l : List Arrival). with_arrival closed d l)
    (ap (λ (s : SubscriberState). s.closed) keeps) arrives
    ∙ sym (arrives_last c.close_after nothing (taken_by c.inbox) d)
