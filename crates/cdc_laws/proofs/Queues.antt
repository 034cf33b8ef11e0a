-- What a queue has delivered stays a replay of it, whatever it does next.
use Rattle.std.proofs.Common.{◌≡◌, ℕ, ◌+◌, ◌-◌, ◌≤◌, max, false, Some, None, List, [], ◌∷◌, ◌++◌, length, take, refl, ◌∙◌, inl, inr, arith}
use Rattle.std.specs.Prelude.{Contains, Option, ◌==◌, slice_get}
use Rattle.std.specs.Option.{option_map}
use Rattle.std.proofs.lemmas.Bool.{cases_Bool, cases_lt, ltb-false, or_parts}
use Rattle.std.proofs.lemmas.List.{length-append, take-append-le}
use Rattle.std.proofs.lemmas.List.Elements.{Contains-append_left, Contains-push, Contains-push_cases}
use Rattle.std.proofs.lemmas.Option.{none-some, same_Some, slice_get_within}
use Rattle.cdc_broker.specs.Queues.{QueueState, acknowledged, empty_queue, is_unknown, next_delivery, queued, rewound_queue, with_delivery}
use Rattle.cdc_laws.specs.Brokers.{HasDelivered}
use Rattle.cdc_laws.specs.Deliveries.{deliveries, deliveries_from}
use Rattle.cdc_laws.proofs.Courses.{take_one}
use Rattle.cdc_laws.proofs.Deliveries.{deliveries-append, delivery_at, length-deliveries, slice_get-deliveries}
use Rattle.cdc_match.specs.Arguments.{Arguments}
use Rattle.cdc_match.specs.Queue.{takes_item}
use Rattle.cdc_message.specs.declared.items.Delivery.{Delivery}
use Rattle.cdc_message.specs.declared.items.Item.{Item}
use Rattle.cdc_message.proofs.ReplayLaws.{Contains-take_longer, IsReplay-in_turn, IsReplay-longer, IsReplay-nil}

-- a queue that nothing has come to
pub HasDelivered-nil : (binding : Arguments) → HasDelivered (empty_queue binding) []
HasDelivered-nil binding = record {
  replay = IsReplay-nil [];
  all = λ d there. there;
  there = omega arith;
  from_one = omega arith;
  next_at_most = omega arith;
  acked_delivered = omega arith;
}

-- items added to the queue follow all that was delivered
pub HasDelivered-longer : (q : QueueState) (out : List Delivery) (more : List Item) → HasDelivered q out
    → HasDelivered (record q { items = q.items ++ more }) out
HasDelivered-longer q out more has =
    let longer = deliveries-append q.items more in
    let rest : List Delivery = deliveries_from (1 + length q.items) more in
    let within : q.delivered ≤ length (deliveries q.items) = omega (arith, length-deliveries q.items, has.there) in
    let front = take-append-le q.delivered (deliveries q.items) rest within in
    record {
      replay = rw longer (IsReplay-longer out (deliveries q.items) rest has.replay);
      all = λ d there. has.all d (rw (longer, front) at there);
      there = omega (arith, length-append q.items more, has.there);
      from_one = has.from_one;
      next_at_most = has.next_at_most;
      acked_delivered = has.acked_delivered;
    }

-- so it is when the broker accepts one more item, whether or not it belongs to the queue
pub HasDelivered-queued : (q : QueueState) (out : List Delivery) (item : Item) → HasDelivered q out
    → HasDelivered (queued item q) out
HasDelivered-queued q out item has =
    elim (cases_Bool (takes_item q.binding item)) [
      | inl takes ↦ rw takes (HasDelivered-longer q out (item ∷ []) has)
      | inr passes ↦ rw passes has
    ]

-- the item at the cursor
at_cursor : (found : Option Item) (next : ℕ) (d : Delivery)
    → option_map (λ (item : Item). delivery_at next item) found ≡ Some d
    → (item : Item) × ((found ≡ Some item) × (delivery_at next item ≡ d))
at_cursor None next d is = absurd (none-some d is)
at_cursor (Some item) next d is = (item, (refl, same_Some (delivery_at next item) d is))

-- the next delivery comes in turn
pub HasDelivered-next : (q : QueueState) (out : List Delivery) (d : Delivery) → HasDelivered q out
    → next_delivery q ≡ Some d → HasDelivered (with_delivery (Some d) q) (out ++ d ∷ [])
HasDelivered-next q out d has found =
    let place : ℕ = q.cursor.next - 1 in
    let item = at_cursor (slice_get q.items place) q.cursor.next d found in
    let at : place + 1 ≡ q.cursor.next = omega (arith, has.from_one) in
    let here : slice_get (deliveries q.items) place ≡ Some d =
    slice_get-deliveries q.items place item.0 item.1.0 ∙ rw (at, item.1.1) refl in
    let within = slice_get_within q.items place item.0 item.1.0 in
    let before : (y : Delivery) → Contains (take place (deliveries q.items)) y → Contains out y =
    λ y there.
    has.all y (Contains-take_longer place q.delivered _ y (omega (arith, has.next_at_most, has.from_one)) there) in
    record {
      replay = IsReplay-in_turn out (deliveries q.items) d place has.replay here before;
      all = λ y there.
          elim (cases_lt q.delivered q.cursor.next) [
            | inl new ↦
                let most : max q.delivered q.cursor.next ≡ place + 1 = omega (arith, new, at) in
                elim (Contains-push_cases _ d y (rw (most, take_one place (deliveries q.items) d here) at there)) [
                  | inl old ↦ Contains-append_left out (d ∷ []) y (before y old)
                  | inr is ↦ rw (← is) (Contains-push out d)
                ]
            | inr again ↦
                let most : max q.delivered q.cursor.next ≡ q.delivered = omega (arith, again) in
                Contains-append_left out (d ∷ []) y (has.all y (rw most at there))
          ];
      there = omega (arith, has.there, within, at);
      from_one = omega (arith, has.from_one);
      next_at_most = omega (arith, has.next_at_most);
      acked_delivered = omega (arith, has.acked_delivered);
    }

-- an acknowledgement of what was delivered moves the cursor past nothing else
pub HasDelivered-ack : (q : QueueState) (out : List Delivery) (position : ℕ) → HasDelivered q out
    → is_unknown q position ≡ false → HasDelivered (acknowledged position q) out
HasDelivered-ack q out position has known =
    let low = ltb-false q.delivered position (or_parts (position == 0) _ known).1 in
    record {
      replay = has.replay;
      all = has.all;
      there = has.there;
      from_one = omega (arith, has.from_one);
      next_at_most = omega (arith, low, has.next_at_most, has.acked_delivered);
      acked_delivered = omega (arith, low, has.acked_delivered);
    }

-- a queue that rewinds delivers again what isn't acknowledged
pub HasDelivered-rewound : (q : QueueState) (out : List Delivery) → HasDelivered q out
    → HasDelivered (rewound_queue q) out
HasDelivered-rewound q out has = record {
  replay = has.replay;
  all = has.all;
  there = has.there;
  from_one = omega arith;
  next_at_most = omega (arith, has.acked_delivered);
  acked_delivered = has.acked_delivered;
}
