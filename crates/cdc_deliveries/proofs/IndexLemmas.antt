-- An index of a feed, one event after another.
use Rattle.cdc_deliveries.proofs.Words.{Arguments, Bool, Err, Event, Indexes, IsIndexOf, List, None, Ok, OnOk, Option, Placed, Result, Some, [], ap, cond, drop, drop_all, eqb-true, false, feed, is_some, last_timestamp_from, length, nat_eq, option_or, placed_after, refl, slice_get, subst, sym, takes_event, true, ℕ, ◌+◌, ◌==◌, ◌∙◌, ◌∷◌, ◌≡◌, ◌≤◌}
use Rattle.indexmap.specs.IndexMap.{Updates, get}
use Rattle.cdc_deliveries.specs.declared.feeds.FeedIndex.{FeedIndex}
use Rattle.cdc_deliveries.proofs.Walks.{drop_found}

added : (is : Bool) (got later : Option Placed) (place : Placed) → (is ≡ true → is_some got ≡ false)
    → option_or (cond is (Some place) got) later ≡ option_or got (cond is (Some place) later)
added true None later place none = refl
added true (Some had) later place none = absurd (let no : true ≡ false = none refl in cc)
added false got later place none = refl

there : (is : Bool) (got later : Option Placed) (place : Placed) → (is ≡ true → is_some got ≡ true)
    → option_or got later ≡ option_or got (cond is (Some place) later)
there true None later place has = absurd (let no : false ≡ true = has refl in cc)
there true (Some had) later place has = refl
there false got later place has = refl

-- an event with the timestamp of one that is there
pub event_there : (index : FeedIndex) (event : Event) (later fed : List Event)
    → is_some (get nat_eq index.events event.timestamp) ≡ true
    → Indexes index (event ∷ later) fed → Indexes (record index { last = event.timestamp }) later fed
event_there index event later fed has is = record {
  finds = λ t. there (event.timestamp == t) (get nat_eq index.events t) (placed_after event.timestamp t later)
      (record { previous = index.last; event = Some event })
      (λ same. subst (λ (k : ℕ). is_some (get nat_eq index.events k) ≡ true) (eqb-true event.timestamp t same) has)
      ∙ is.finds t;
  last = is.last;
}

-- an event that is added is found from then on
pub event_added : (index next : FeedIndex) (event : Event) (later fed : List Event)
    → is_some (get nat_eq index.events event.timestamp) ≡ false
    → Updates nat_eq index.events next.events event.timestamp
    (Some (record { previous = index.last; event = Some event }))
    → next.last ≡ event.timestamp → Indexes index (event ∷ later) fed → Indexes next later fed
event_added index next event later fed none updates last is =
    let place : Placed = record { previous = index.last; event = Some event } in
    record {
      finds = λ t. ap (λ (k : ℕ). option_or (get nat_eq next.events t) (placed_after k t later)) last
          ∙ ap (λ (got : Option Placed). option_or got (placed_after event.timestamp t later)) (updates.0 t)
          ∙ added (event.timestamp == t) (get nat_eq index.events t) (placed_after event.timestamp t later) place
          (λ same.
          subst (λ (k : ℕ). is_some (get nat_eq index.events k) ≡ false) (eqb-true event.timestamp t same) none)
          ∙ is.finds t;
      last = ap (λ (k : ℕ). last_timestamp_from k later) last ∙ is.last;
    }

-- nothing is left
option_or-none : (got : Option Placed) → option_or got None ≡ got
option_or-none None = refl
option_or-none (Some place) = refl

pub all_indexed : (index : FeedIndex) (binding : Arguments) (events : List Event) (place : ℕ) → length events ≤ place
    → Indexes index (feed (drop place events) binding) (feed events binding) → IsIndexOf index (feed events binding)
all_indexed index binding events place past is =
    let done : Indexes index [] (feed events binding) =
    subst (λ (left : List Event). Indexes index (feed left binding) (feed events binding))
    (drop_all place events past) is in
    record {
      finds = λ t. sym (option_or-none (get nat_eq index.events t)) ∙ done.finds t;
      last = done.last;
    }

-- one event more
pub one_indexed : (index next : FeedIndex) (binding : Arguments) (events : List Event) (place : ℕ) (event : Event)
    → slice_get events place ≡ Some event
    → ((later fed : List Event) → Indexes index (feed (event ∷ later) binding) fed
    → Indexes next (feed later binding) fed)
    → Indexes index (feed (drop place events) binding) (feed events binding)
    → Indexes next (feed (drop (place + 1) events) binding) (feed events binding)
one_indexed index next binding events place event found adds is =
    adds (drop (place + 1) events) (feed events binding)
    (subst (λ (left : List Event). Indexes index (feed left binding) (feed events binding))
    (drop_found events place event found) is)

-- an event that the binding takes is the next one of the feed
pub index_fed : {E : Type 0} (index next : FeedIndex) (binding : Arguments) (event : Event) (made : Result (Unit {0}) E)
    → takes_event binding event ≡ true
    → OnOk made ((later fed : List Event) → Indexes index (event ∷ later) fed → Indexes next later fed)
    → OnOk made ((later fed : List Event) → Indexes index (feed (event ∷ later) binding) fed
    → Indexes next (feed later binding) fed)
index_fed index next binding event (Ok done) takes adds = λ later fed is.
    adds (feed later binding) fed
    (subst (λ (taken : Bool). Indexes index (cond taken (event ∷ feed later binding) (feed later binding)) fed)
    takes is)
index_fed index next binding event (Err why) takes adds = tt

-- any other is none of it
pub index_passed : (index : FeedIndex) (binding : Arguments) (event : Event) → takes_event binding event ≡ false
    → (later fed : List Event) → Indexes index (feed (event ∷ later) binding) fed
    → Indexes index (feed later binding) fed
index_passed index binding event passes later fed is =
    subst (λ (taken : Bool). Indexes index (cond taken (event ∷ feed later binding) (feed later binding)) fed) passes is
