-- A broker to which items are published, and subscribers that take each of them before the next one is published.
use Rattle.cdc_commands.proofs.Terms.{AreFed, Arguments, Bool, BrokerState, Delivery, EndMark, Event, Item, List, None, OfEvent, Option, QueueState, Some, SubscriberState, TakesDelivery, [], ap, append-nil, ap₂, arith, caught_up, connected, empty_broker, empty_queue, false, false≢true, filter-append, found_at, if◌then◌else◌, kept_by, kept_of, le-ltb, length, length-map, length-set, length_push, lt-ltb, map, map_push, max, max_64, nat_lt, next, next_delivery, nobody, nothing, option_map, published, queue, queue_of, queued, receiving, receiving_delivery, refl, rules, same_Some, slice_get_past, slice_set, subst, sym, take, take_all, take_found, takes_item, takes_packet, true, unwrap_or, with_item, with_taken, ℕ, ◌++◌, ◌+◌, ◌-◌, ◌<◌, ◌==◌, ◌||◌, ◌∙◌, ◌∷◌, ◌≡◌, ◌≤◌}
use Rattle.std.specs.Prelude.{slice_get}
use Rattle.std.proofs.lemmas.List.Sums.{fold-append}
use Rattle.cdc_broker.specs.Packets.{tag_after}
use Rattle.cdc_message.specs.declared.packets.Packet.TheVariants.{Connect}
use Rattle.cdc_commands.proofs.HalfwayLemmas.{halfway, halfway-all, halfway-get, halfway-length, halfway-set}

-- ---- one queue and its subscriber, with one more item

-- the item, if the queue takes it
abbrev own : Bool → Item → List Item
own takes item = if takes then item ∷ [] else []

-- a queue that holds these items, all of which were delivered and acknowledged
abbrev done_with : Arguments → List Item → QueueState
done_with binding items = record {
  binding = binding;
  items = items;
  cursor = record { next = length items + 1; acked = length items };
  delivered = length items;
}

-- the queue when it takes one more item, or doesn't
abbrev behind : Arguments → List Item → Bool → Item → QueueState
behind binding items takes item = with_item (if takes then Some item else None) (done_with binding items)

-- what it then delivers
abbrev due : List Item → Bool → Item → Option Delivery
due items takes item = if takes then Some (record { position = length items + 1; item = item }) else None

-- the item at the back
slice_get_last : (items : List Item) (item : Item) → slice_get (items ++ item ∷ []) (length items) ≡ Some item
slice_get_last [] item = refl
slice_get_last (x ∷ rest) item = slice_get_last rest item

-- that item is delivered next, or nothing
delivers : (binding : Arguments) (items : List Item) (takes : Bool) (item : Item)
    → next_delivery (behind binding items takes item) ≡ due items takes item
delivers binding items true item =
    let place : length items + 1 - 1 ≡ length items = omega arith in
    ap (λ n. option_map (λ (x : Item). record { position = length items + 1; item = x })
    (slice_get (items ++ item ∷ []) n)) place
    ∙ ap (option_map (λ (x : Item). record { position = length items + 1; item = x })) (slice_get_last items item)
delivers binding items false item =
    ap (option_map (λ (x : Item). record { position = length items + 1; item = x }))
    (slice_get_past items (length items + 1 - 1) (omega arith))

-- when it is taken and acknowledged, the queue is done with all of its items
takes_due : (binding : Arguments) (items : List Item) (takes : Bool) (item : Item)
    → with_taken (due items takes item) (behind binding items takes item) ≡ done_with binding (items ++ own takes item)
takes_due binding items true item =
    let n = length items in
    let count : length (items ++ item ∷ []) ≡ n + 1 = length_push items item in
    let some : (n + 1 == 0) ≡ false = search rules in
    let given : nat_lt (max n (n + 1)) (n + 1) ≡ false = le-ltb (max n (n + 1)) (n + 1) (omega arith) in
    let known : ((n + 1 == 0) || nat_lt (max n (n + 1)) (n + 1)) ≡ false = ap₂ (λ a b. a || b) some given in
    let queue_at : ℕ → ℕ → ℕ → QueueState = λ next acked delivered. record {
      binding = binding;
      items = items ++ item ∷ [];
      cursor = record { next = next; acked = acked };
      delivered = delivered;
    } in
    let all : max n (n + 1) ≡ length (items ++ item ∷ []) = omega (arith, count) in
    let past : max (n + 1 + 1) (max n (n + 1) + 1) ≡ length (items ++ item ∷ []) + 1 = omega (arith, count) in
    ap (λ b. if b then queue_at (n + 1 + 1) n (max n (n + 1))
    else queue_at (max (n + 1 + 1) (max n (n + 1) + 1)) (max n (n + 1)) (max n (n + 1))) known
    ∙ ap₂ (λ next acked. queue_at next acked acked) past all
takes_due binding items false item = ap (done_with binding) (sym (append-nil items))

-- the subscriber receives it, or nothing
receives_due : (items : List Item) (takes : Bool) (item : Item)
    → receiving_delivery (due items takes item) (receiving items) ≡ receiving (items ++ own takes item)
receives_due items true item = sym (fold-append next nothing items (item ∷ []))
receives_due items false item = ap receiving (sym (append-nil items))

-- what is delivered of a queue that has one item more
next_of : (items : List Item) (item : Item) (binding : Arguments)
    → next_delivery (queued item (caught_up items binding)) ≡ due (queue items binding) (takes_item binding item) item
next_of items item binding = delivers binding (queue items binding) (takes_item binding item) item

-- the queue catches up
caught_up-more : (items : List Item) (item : Item) (binding : Arguments)
    → with_taken (next_delivery (queued item (caught_up items binding))) (queued item (caught_up items binding))
    ≡ caught_up (items ++ item ∷ []) binding
caught_up-more items item binding =
    ap (λ (d : Option Delivery). with_taken d (queued item (caught_up items binding))) (next_of items item binding)
    ∙ takes_due binding (queue items binding) (takes_item binding item) item
    ∙ ap (done_with binding) (sym (filter-append (takes_item binding) items (item ∷ [])))

-- what its subscriber then keeps, if this is the queue
abbrev kept_next : List Item → Arguments → QueueState → SubscriberState
kept_next items binding q = kept_of (receiving_delivery (next_delivery q) (receiving (queue items binding)))

-- the subscriber catches up too
kept_by-more : (items : List Item) (item : Item) (binding : Arguments)
    → kept_next items binding (queued item (caught_up items binding)) ≡ kept_by (items ++ item ∷ []) binding
kept_by-more items item binding =
    ap (λ (d : Option Delivery). kept_of (receiving_delivery d (receiving (queue items binding))))
    (next_of items item binding)
    ∙ ap kept_of (receives_due (queue items binding) (takes_item binding item) item)
    ∙ ap (λ (own : List Item). kept_of (receiving own))
    (sym (filter-append (takes_item binding) items (item ∷ [])))

-- ---- all queues and their subscribers, one after another

-- a broker to which one more item was published, and subscribers of which the first have taken it
pub record AreHalfFed (bindings : List Arguments) (items : List Item) (item : Item) (place : ℕ) (broker : BrokerState)
    (subscribers : List SubscriberState) : Type 0 where
  pub queues : broker.queues
      ≡ halfway place (caught_up (items ++ item ∷ [])) (λ binding. queued item (caught_up items binding)) bindings
  pub kept : subscribers ≡ halfway place (kept_by (items ++ item ∷ [])) (kept_by items) bindings

-- what a loop over the subscribers keeps
pub record IsFeeding (tag : ℕ) (item : Item) (place : ℕ) (old now : BrokerState) (before after : List SubscriberState)
    : Type 0 where
  pub connected : now.connection ≡ old.connection
  pub next : now.expected ≡ tag_after tag
  pub queues : length now.queues ≡ length old.queues
  pub subscribers : length after ≡ length before
  pub fed : (bindings : List Arguments) (items : List Item) → AreFed bindings items old before
      → AreHalfFed bindings items item place now after

-- one more item of all queues
waiting : (items : List Item) (item : Item) (bindings : List Arguments)
    → map (queued item) (map (caught_up items) bindings)
    ≡ map (λ binding. queued item (caught_up items binding)) bindings
waiting items item [] = refl
waiting items item (b ∷ rest) = ap (λ qs. queued item (caught_up items b) ∷ qs) (waiting items item rest)

-- the item was published, and none has taken it
pub IsFeeding-none : (tag : ℕ) (item : Item) (old now : BrokerState) (subscribers : List SubscriberState)
    → now ≡ published tag item old → IsFeeding tag item 0 old now subscribers subscribers
IsFeeding-none tag item old now subscribers is = record {
  connected = ap (λ (s : BrokerState). s.connection) is;
  next = ap (λ (s : BrokerState). s.expected) is;
  queues = ap (λ (s : BrokerState). length s.queues) is ∙ length-map old.queues (queued item);
  subscribers = refl;
  fed = λ bindings items fed. record {
    queues = ap (λ (s : BrokerState). s.queues) is ∙ ap (map (queued item)) fed.queues ∙ waiting items item bindings;
    kept = fed.kept;
  };
}

-- one more subscriber takes it
pub IsFeeding-more : (tag : ℕ) (item : Item) (place : ℕ) (old now new : BrokerState)
    (before subscribers after : List SubscriberState) (one taken : SubscriberState)
    → place < length subscribers → slice_get subscribers place ≡ Some one
    → IsFeeding tag item place old now before subscribers
    → TakesDelivery (place + 1) now new one taken
    → after ≡ slice_set subscribers place taken → IsFeeding tag item (place + 1) old new before after
IsFeeding-more tag item place old now new before subscribers after one taken inside here so_far takes set = record {
  connected = ap (λ (s : BrokerState). s.connection) takes.0 ∙ so_far.connected;
  next = ap (λ (s : BrokerState). s.expected) takes.0 ∙ so_far.next;
  queues = ap (λ (s : BrokerState). length s.queues) takes.0 ∙ length-set now.queues (place + 1 - 1) _ ∙ so_far.queues;
  subscribers = ap length set ∙ length-set subscribers place taken ∙ so_far.subscribers;
  fed = λ bindings items fed. one_more bindings items (so_far.fed bindings items fed);
}
  where
    one_more : (bindings : List Arguments) (items : List Item)
        → AreHalfFed bindings items item place now subscribers
        → AreHalfFed bindings items item (place + 1) new after
    one_more bindings items half =
        let all : List Item = items ++ item ∷ [] in
        let late : Arguments → QueueState = λ binding. queued item (caught_up items binding) in
        let many : length subscribers ≡ length bindings =
        ap length half.kept ∙ halfway-length place (kept_by all) (kept_by items) bindings in
        let found = found_at bindings place (omega (arith, inside, many)) in
        let binding : Arguments = found.0 in
        let place' : place + 1 - 1 ≡ place = omega arith in
        let this : queue_of now (place + 1) ≡ late binding =
        ap₂ (λ (qs : List QueueState) (k : ℕ). unwrap_or (slice_get qs k) (empty_queue nobody)) half.queues place'
        ∙ ap (λ (q : Option QueueState). unwrap_or q (empty_queue nobody))
        (halfway-get place (caught_up all) late bindings binding found.1) in
        let whose : one ≡ kept_by items binding =
        same_Some one (kept_by items binding)
        (sym here ∙ ap (λ (kept : List SubscriberState). slice_get kept place) half.kept
        ∙ halfway-get place (kept_by all) (kept_by items) bindings binding found.1) in
        record {
          queues = ap (λ (s : BrokerState). s.queues) takes.0
              ∙ ap₂ (λ (qs : List QueueState) (k : ℕ).
              slice_set qs k (with_taken (next_delivery (queue_of now (place + 1))) (queue_of now (place + 1))))
              half.queues place'
              ∙ ap (λ (q : QueueState). slice_set (halfway place (caught_up all) late bindings) place
              (with_taken (next_delivery q) q)) this
              ∙ ap (slice_set (halfway place (caught_up all) late bindings) place) (caught_up-more items item binding)
              ∙ halfway-set place (caught_up all) late bindings binding found.1;
          kept = set
              ∙ ap₂ (λ (kept : List SubscriberState) (x : SubscriberState). slice_set kept place x) half.kept
              (takes.1 (receiving (queue items binding)) whose ∙ ap (kept_next items binding) this
              ∙ kept_by-more items item binding)
              ∙ halfway-set place (kept_by all) (kept_by items) bindings binding found.1;
        }

-- all have taken it
pub AreFed-more : (tag : ℕ) (item : Item) (place : ℕ) (old now : BrokerState) (before after : List SubscriberState)
    → length after ≤ place → IsFeeding tag item place old now before after
    → (bindings : List Arguments) (items : List Item) → AreFed bindings items old before
    → AreFed bindings (items ++ item ∷ []) now after
AreFed-more tag item place old now before after past so_far bindings items fed =
    let half = so_far.fed bindings items fed in
    let all : List Item = items ++ item ∷ [] in
    let many : length after ≡ length bindings =
    ap length half.kept ∙ halfway-length place (kept_by all) (kept_by items) bindings in
    let whole : length bindings ≤ place = omega (arith, past, many) in
    record {
      queues = half.queues
          ∙ halfway-all place (caught_up all) (λ binding. queued item (caught_up items binding)) bindings whole;
      kept = half.kept ∙ halfway-all place (kept_by all) (kept_by items) bindings whole;
    }

-- ---- all items, one after another

-- a tag that isn't near the greatest number has one after it
tag_after_small : (tag : ℕ) → tag + 1 < max_64 → tag_after tag ≡ Some (tag + 1)
tag_after_small tag small = ap (λ b. if b then Some (tag + 1) else None) (lt-ltb (tag + 1) max_64 small)

-- the first events were published, and all subscribers have taken them
pub record AreFedTo (emitted : List Event) (bindings : List Arguments) (place : ℕ) (broker : BrokerState)
    (subscribers : List SubscriberState) : Type 0 where
  pub connection : broker.connection ≡ 1
  pub expected : broker.expected ≡ Some (place + 1)
  pub fed : AreFed bindings (map OfEvent (take place emitted)) broker subscribers

-- under the first connection, before anything is published
pub AreFedTo-none : (emitted : List Event) (bindings : List Arguments) (b : Bool) (s s' : BrokerState)
    (subscribers : List SubscriberState)
    → s ≡ empty_broker bindings → b ≡ takes_packet s (Connect 1) → s' ≡ (if b then connected 1 s else s)
    → subscribers ≡ map (kept_by []) bindings → AreFedTo emitted bindings 0 s' subscribers
AreFedTo-none emitted bindings true s s' subscribers new taken is none = record {
  connection = ap (λ (x : BrokerState). x.connection) is;
  expected = ap (λ (x : BrokerState). x.expected) is;
  fed = record {
    queues = ap (λ (x : BrokerState). x.queues) is ∙ ap (λ (x : BrokerState). x.queues) new;
    kept = none;
  };
}
AreFedTo-none emitted bindings false s s' subscribers new taken is none =
    absurd (false≢true (taken ∙ ap (λ (x : BrokerState). takes_packet x (Connect 1)) new))

-- one more event
pub AreFedTo-more : (emitted : List Event) (bindings : List Arguments) (place : ℕ) (event : Event)
    (s : BrokerState) (subscribers : List SubscriberState)
    → place + 2 < max_64 → slice_get emitted place ≡ Some event
    → s.connection ≡ 1 → s.expected ≡ tag_after (place + 1)
    → AreFed bindings (map OfEvent (take place emitted) ++ OfEvent event ∷ []) s subscribers
    → AreFedTo emitted bindings (place + 1) s subscribers
AreFedTo-more emitted bindings place event s subscribers small found connection next fed = record {
  connection = connection;
  expected = next ∙ tag_after_small (place + 1) (omega arith);
  fed = subst (λ (items : List Item). AreFed bindings items s subscribers)
      (sym (map_push OfEvent (take place emitted) event)
      ∙ ap (map OfEvent) (sym (take_found emitted place event found))) fed;
}

-- and the end mark, after all events
pub AreFed-whole : (emitted : List Event) (bindings : List Arguments) (place : ℕ) (s : BrokerState)
    (subscribers : List SubscriberState) → length emitted ≤ place
    → AreFed bindings (map OfEvent (take place emitted) ++ EndMark ∷ []) s subscribers
    → subscribers ≡ map (kept_by (map OfEvent emitted ++ EndMark ∷ [])) bindings
AreFed-whole emitted bindings place s subscribers all fed =
    fed.kept
    ∙ ap (λ events. map (kept_by (map OfEvent events ++ EndMark ∷ [])) bindings) (take_all place emitted all)
