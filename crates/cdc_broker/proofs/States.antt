-- The broker that a list of items and its queues represent, and how a change of them changes it.
use Rattle.std.proofs.Common.{◌≡◌, ℕ, zero, suc, ◌+◌, ◌-◌, ◌<◌, ◌≤◌, ◌^◌, Bool, true, false, cond, List, [], ◌∷◌, ◌++◌, refl, sym, ap, ap₂, ◌∙◌, subst, length, length-append, map, get_or, append-nil, Option, Some, None, take, drop, ◌&&◌, ◌==◌, arith}
use Rattle.std.specs.Prelude.{All, is_some, min, max, nat_lt, slice_get, slice_set, if◌then◌else◌}
use Rattle.std.specs.Option.{option_map}
use Rattle.std.proofs.lemmas.Bool.{eqb-false, eqb-true, ltb-false}
use Rattle.std.proofs.lemmas.Bool.Decides.{nat_tests}
use Rattle.std.proofs.lemmas.List.{map-set, get_or-map, set-get_or, length-map}
use Rattle.std.proofs.lemmas.List.Elements.{All-map}
use Rattle.std.proofs.lemmas.Option.{unwrap_or-slice_get}
use Rattle.std.proofs.Math.Seq.{take-nil, drop-nil}
use Rattle.cdc_match.specs.Queue.{queue, takes_item}
use Rattle.cdc_message.specs.declared.items.Item.{Item}
use Rattle.cdc_message.specs.declared.items.Delivery.{Delivery}
use Rattle.cdc_broker.specs.declared.queue.Queue.{Queue}
use Rattle.cdc_broker.specs.Backlogs.{BacklogState, has_half_before, is_full}
use Rattle.cdc_broker.specs.Broker.{BrokerState, queue_of, with_queue, nobody}
use Rattle.cdc_broker.specs.Kept.{AreServable, HasAcknowledged, IsInOrder, IsLeft, counting, done_with_all, done_with_here, gone_after, ignoring, lesser, moved_to, queue_state, unfinished}
use Rattle.cdc_broker.specs.Queues.{QueueState, empty_queue, next_delivery, queued, with_item}
use Rattle.cdc_broker.proofs.Accepted.{filter_push}
use Rattle.cdc_broker.proofs.Marks.{count_all_within, fewer_before, mark_at_end, mark_stays}

-- the broker of these items and queues
abbrev pub broker_of : ℕ → Option ℕ → List Item → List Queue → BrokerState
broker_of connection expected accepted queues =
    record { connection = connection; expected = expected; queues = map (queue_state accepted) queues }

module _ (connection : ℕ) (expected : Option ℕ) (accepted : List Item) (queues : List Queue) (i : ℕ) (q : Queue)
    (inside : i - 1 < length queues) (found : q ≡ get_or queues (i - 1) q) where
  -- the broker as it is
  abbrev here : BrokerState
  here = broker_of connection expected accepted queues

  -- the queue of a number is the one at its place
  pub queue_of-broker_of : queue_of here i ≡ queue_state accepted q
  queue_of-broker_of =
      unwrap_or-slice_get (map (queue_state accepted) queues) (i - 1) (empty_queue nobody)
      ∙ get_or-map (queue_state accepted) queues (i - 1) q (empty_queue nobody) inside
      ∙ ap (queue_state accepted) (sym found)

  -- a queue that is put into its place
  pub broker_of-set : (q' : Queue) → broker_of connection expected accepted (slice_set queues (i - 1) q')
      ≡ with_queue i (queue_state accepted q') here
  broker_of-set q' = ap (λ (qs : List QueueState). record { connection = connection; expected = expected; queues = qs })
      (map-set (queue_state accepted) queues (i - 1) q')

  -- the queue put back into its place
  pub with_queue-same : with_queue i (queue_state accepted q) here ≡ here
  with_queue-same =
      ap (λ (qs : List QueueState). record { connection = connection; expected = expected; queues = qs })
      (ap (λ x. slice_set (map (queue_state accepted) queues) (i - 1) x) (sym there)
      ∙ set-get_or (map (queue_state accepted) queues) (i - 1) (queue_state accepted q))
    where
      there : get_or (map (queue_state accepted) queues) (i - 1) (queue_state accepted q) ≡ queue_state accepted q
      there = get_or-map (queue_state accepted) queues (i - 1) q (queue_state accepted q) inside
          ∙ ap (queue_state accepted) (sym found)

  -- a queue that changes if the test holds, and otherwise stays the same
  pub broker_of-set_if : (b : Bool) (q' : Queue) (after : QueueState)
      → queue_state accepted q' ≡ (if b then after else queue_state accepted q)
      → broker_of connection expected accepted (slice_set queues (i - 1) q')
      ≡ (if b then with_queue i after here else here)
  broker_of-set_if true q' after is =
      broker_of-set q' ∙ ap (λ x. with_queue i x here) is
  broker_of-set_if false q' after is =
      broker_of-set q' ∙ ap (λ x. with_queue i x here) is ∙ with_queue-same

-- a queue's number is within its broker's
pub within_queues : (connection : ℕ) (expected : Option ℕ) (accepted : List Item) (queues : List Queue)
    (s : BrokerState) (i : ℕ)
    → broker_of connection expected accepted queues ≡ s → 0 < i → i ≤ length s.queues → i - 1 < length queues
within_queues connection expected accepted queues s i is first last =
    let same : length (map (queue_state accepted) queues) ≡ length s.queues = ap (λ x. length x.queues) is in
    omega (arith, length-map queues (queue_state accepted))

-- the queue at the place of a number is the broker's queue of that number
pub queue_seen : (connection : ℕ) (expected : Option ℕ) (accepted seen : List Item) (queues : List Queue)
    (s : BrokerState) (i : ℕ) (q : Queue) → broker_of connection expected accepted queues ≡ s → seen ≡ accepted
    → 0 < i → i ≤ length s.queues → q ≡ get_or queues (i - 1) q → queue_state seen q ≡ queue_of s i
queue_seen connection expected accepted seen queues s i q is same first last found =
    let inside : i - 1 < length queues = within_queues connection expected accepted queues s i is first last in
    ap (λ (items : List Item). queue_state items q) same
    ∙ sym (queue_of-broker_of connection expected accepted queues i q inside found)
    ∙ ap (λ (s : BrokerState). queue_of s i) is

-- contracts don't see the places of a queue's marks
moved_state : (done : Bool) (accepted : List Item) (len : ℕ) (q : Queue)
    → queue_state accepted (if done then moved_to len q else q) ≡ queue_state accepted q
moved_state true accepted len q = refl
moved_state false accepted len q = refl

-- a queue that counts an item, or ignores it, as contracts see it
state_by : (b : Bool) (accepted : List Item) (item : Item) (len : ℕ) (q : Queue)
    → queue (accepted ++ item ∷ []) q.binding ≡ queue accepted q.binding ++ (if b then item ∷ [] else [])
    → queue_state (accepted ++ item ∷ []) (if b then record q { len = q.len + 1 } else ignoring len q)
    ≡ with_item (if b then Some item else None) (queue_state accepted q)
state_by true accepted item len q is =
    ap (λ (items : List Item). record (queue_state accepted q) { items = items }) is
state_by false accepted item len q is =
    moved_state (q.acked.position == q.len) (accepted ++ item ∷ []) len q
    ∙ ap (λ (items : List Item). record (queue_state accepted q) { items = items })
    (is ∙ append-nil (queue accepted q.binding))

-- so an item at the back of the list goes to the queue as it should
counting_state : (accepted : List Item) (item : Item) (len : ℕ) (q : Queue)
    → queue_state (accepted ++ item ∷ []) (counting item len q) ≡ queued item (queue_state accepted q)
counting_state accepted item len q =
    state_by (takes_item q.binding item) accepted item len q (filter_push (takes_item q.binding) accepted item)

-- and to all of them
pub counting_states : (accepted : List Item) (item : Item) (len : ℕ) (queues : List Queue)
    → map (queue_state (accepted ++ item ∷ [])) (map (counting item len) queues)
    ≡ map (queued item) (map (queue_state accepted) queues)
counting_states accepted item len [] = refl
counting_states accepted item len (q ∷ queues) =
    ap₂ (λ x (xs : List QueueState). x ∷ xs) (counting_state accepted item len q)
    (counting_states accepted item len queues)

-- a queue that ignores an item stays in order: if it has acknowledged all its own, its marks move to the list's end
ignoring_in_order : (done : Bool) (accepted : List Item) (item : Item) (q : Queue)
    → (q.acked.position == q.len) ≡ done → IsInOrder accepted q
    → queue (accepted ++ item ∷ []) q.binding ≡ queue accepted q.binding
    → IsInOrder (accepted ++ item ∷ []) (if done then moved_to (length (accepted ++ item ∷ [])) q else q)
ignoring_in_order true accepted item q done order is =
    let all : q.acked.position ≡ q.len = eqb-true q.acked.position q.len done in
    let there = order.delivered_there in
    let past = order.past_acked in
    let most = order.next_at_most in
    let end : q.cursor.position ≡ q.len = omega arith in
    let len : q.len ≡ length (queue (accepted ++ item ∷ []) q.binding) = order.len ∙ ap length (sym is) in
    record {
      len = len;
      acked = mark_at_end (accepted ++ item ∷ []) q.binding q.acked (all ∙ len);
      cursor = mark_at_end (accepted ++ item ∷ []) q.binding q.cursor (end ∙ len);
      delivered_there = order.delivered_there;
      acked_delivered = order.acked_delivered;
      past_acked = order.past_acked;
      next_at_most = order.next_at_most;
      acked_at_end = λ same. refl;
      cursor_at_end = λ same. refl;
    }
ignoring_in_order false accepted item q waits order is = record {
  len = order.len ∙ ap length (sym is);
  acked = mark_stays accepted (item ∷ []) q.binding q.acked order.acked;
  cursor = mark_stays accepted (item ∷ []) q.binding q.cursor order.cursor;
  delivered_there = order.delivered_there;
  acked_delivered = order.acked_delivered;
  past_acked = order.past_acked;
  next_at_most = order.next_at_most;
  acked_at_end = λ same. absurd (eqb-false q.acked.position q.len waits same);
  cursor_at_end = λ same. absurd (eqb-false q.acked.position q.len waits same);
}

-- a queue that counts an item, or ignores it, stays in order
order_by : (b : Bool) (accepted : List Item) (item : Item) (q : Queue) → IsInOrder accepted q
    → queue (accepted ++ item ∷ []) q.binding ≡ queue accepted q.binding ++ (if b then item ∷ [] else [])
    → IsInOrder (accepted ++ item ∷ [])
    (if b then record q { len = q.len + 1 } else ignoring (length (accepted ++ item ∷ [])) q)
order_by true accepted item q order is =
    let len = order.len in
    let there = order.delivered_there in
    let delivered = order.acked_delivered in
    let more : length (queue (accepted ++ item ∷ []) q.binding) ≡ length (queue accepted q.binding ++ item ∷ []) =
    ap length is in
    record {
      len = omega (arith, length-append (queue accepted q.binding) (item ∷ []));
      acked = mark_stays accepted (item ∷ []) q.binding q.acked order.acked;
      cursor = mark_stays accepted (item ∷ []) q.binding q.cursor order.cursor;
      delivered_there = omega arith;
      acked_delivered = order.acked_delivered;
      past_acked = order.past_acked;
      next_at_most = order.next_at_most;
      acked_at_end = λ same. absurd (omega arith);
      cursor_at_end = λ same. absurd (omega arith);
    }
order_by false accepted item q order is =
    ignoring_in_order (q.acked.position == q.len) accepted item q refl order
    (is ∙ append-nil (queue accepted q.binding))

-- and so do all
pub counting_in_order : (accepted : List Item) (item : Item) (queues : List Queue) → All (IsInOrder accepted) queues
    → All (IsInOrder (accepted ++ item ∷ [])) (map (counting item (length (accepted ++ item ∷ []))) queues)
counting_in_order accepted item queues in_order =
    All-map (IsInOrder (accepted ++ item ∷ [])) (counting item (length (accepted ++ item ∷ []))) queues
    (λ k d lt. let q = get_or queues k d in
    order_by (takes_item q.binding item) accepted item q (in_order k d lt)
    (filter_push (takes_item q.binding) accepted item))

-- when the queues before an index are changed, the next one is still unchanged
pub at_front : (f : Queue → Queue) (queues : List Queue) (i : ℕ) (d : Queue) → i < length queues
    → get_or (map f (take i queues) ++ drop i queues) i d ≡ get_or queues i d
at_front f [] i d inside = absurd (omega arith)
at_front f (q ∷ queues) zero d inside = refl
at_front f (q ∷ queues) (suc i) d inside = at_front f queues i d (omega arith)

-- and at the end all are changed
pub over_front : (f : Queue → Queue) (queues : List Queue) (i : ℕ) → length queues ≤ i
    → map f (take i queues) ++ drop i queues ≡ map f queues
over_front f [] i past = ap₂ (λ (xs ys : List Queue). map f xs ++ ys) (take-nil i) (drop-nil i)
over_front f (q ∷ queues) zero past = absurd (omega arith)
over_front f (q ∷ queues) (suc i) past = ap (λ qs. f q ∷ qs) (over_front f queues i (omega arith))

-- no queue is longer than the list
pub counts_fit : (accepted : List Item) (queues : List Queue) → length accepted < 2 ^ 64 - 1
    → All (IsInOrder accepted) queues → All (λ q. q.len < 2 ^ 64 - 1) queues
counts_fit accepted queues fits in_order = λ k d lt.
    let q = get_or queues k d in
    let order = in_order k d lt in
    let len = order.len in
    let few = count_all_within accepted q.binding in
    omega arith

-- the queue at a place is in order
pub in_order_at : (accepted : List Item) (queues : List Queue) (i : ℕ) (q : Queue) → i < length queues
    → q ≡ get_or queues i q → All (IsInOrder accepted) queues → IsInOrder accepted q
in_order_at accepted queues i q inside found in_order = subst (IsInOrder accepted) (sym found) (in_order i q inside)

-- and what it needs is left
pub left_at : (gone : ℕ) (queues : List Queue) (i : ℕ) (q : Queue) → i < length queues
    → q ≡ get_or queues i q → All (IsLeft gone) queues → IsLeft gone q
left_at gone queues i q inside found left = subst (IsLeft gone) (sym found) (left i q inside)

-- no queue needs what is before a place that all have done with
lesser_than : (number : ℕ) (queues : List Queue) → done_with_all number queues ≤ number
lesser_than number [] = omega arith
lesser_than number (q ∷ queues) =
    let rest = lesser_than (lesser number q) queues in
    omega arith

done_with_each : (number : ℕ) (queues : List Queue) (k : ℕ) (d : Queue) → k < length queues
    → done_with_all number queues ≤ min (get_or queues k d).acked.place (get_or queues k d).cursor.place
done_with_each number [] k d inside = absurd (omega arith)
done_with_each number (q ∷ queues) zero d inside =
    let rest = lesser_than (lesser number q) queues in
    omega arith
done_with_each number (q ∷ queues) (suc k) d inside = done_with_each (lesser number q) queues k d (omega arith)

-- so that may be let go
pub left_after : (gone after len : ℕ) (queues : List Queue) → All (IsLeft gone) queues
    → after ≤ max gone (done_with_all len queues) → All (IsLeft after) queues
left_after gone after len queues left few = λ k d inside.
    let before = left k d inside in
    let acked = before.acked in
    let cursor = before.cursor in
    let done = done_with_each len queues k d inside in
    record { acked = omega arith; cursor = omega arith }

-- all queues have done with what was let go
pub gone_before_done : (gone number : ℕ) (queues : List Queue) → gone ≤ number → All (IsLeft gone) queues
    → gone ≤ done_with_all number queues
gone_before_done gone number [] within left = within
gone_before_done gone number (q ∷ queues) within left =
    let first = left 0 q (omega arith) in
    let acked = first.acked in
    let cursor = first.cursor in
    gone_before_done gone (lesser number q) queues (omega arith) (λ k d inside. left (suc k) d (omega arith))

-- a queue that has acknowledged all its items holds back none of a list
finished_at_end : (accepted : List Item) (number : ℕ) (q : Queue) → number ≤ length accepted → IsInOrder accepted q
    → nat_lt q.acked.position q.len ≡ false → lesser number q ≡ number
finished_at_end accepted number q within order finished =
    let there = order.delivered_there in
    let delivered = order.acked_delivered in
    let least : q.len ≤ q.acked.position = ltb-false q.acked.position q.len finished in
    let all : q.acked.position ≡ q.len = omega arith in
    let acked = order.acked_at_end all in
    let cursor = order.cursor_at_end all in
    omega arith

-- a queue in front is left out if it has acknowledged all its items
done_with_one : (waits : Bool) (accepted : List Item) (number : ℕ) (q : Queue) (queues : List Queue)
    → nat_lt q.acked.position q.len ≡ waits → number ≤ length accepted → IsInOrder accepted q
    → ((n : ℕ) → n ≤ length accepted → done_with_all n queues ≡ done_with_all n (unfinished queues))
    → done_with_all (lesser number q) queues
    ≡ done_with_all number (cond waits (q ∷ unfinished queues) (unfinished queues))
done_with_one true accepted number q queues waits within order rest = rest (lesser number q) (omega arith)
done_with_one false accepted number q queues finished within order rest =
    ap (λ (n : ℕ). done_with_all n queues) (finished_at_end accepted number q within order finished)
    ∙ rest number within

-- so what all queues have done with is what those with an unacknowledged item have done with
done_with_unfinished : (accepted : List Item) (number : ℕ) (queues : List Queue) → number ≤ length accepted
    → All (IsInOrder accepted) queues → done_with_all number queues ≡ done_with_all number (unfinished queues)
done_with_unfinished accepted number [] within in_order = refl
done_with_unfinished accepted number (q ∷ queues) within in_order =
    done_with_one (nat_lt q.acked.position q.len) accepted number q queues refl within (in_order 0 q (omega arith))
    (λ n less. done_with_unfinished accepted n queues less (λ k d inside. in_order (suc k) d (omega arith)))

-- and only those hold back memory
pub gone_after_unfinished : (backlog : BacklogState) (queues : List Queue) → All (IsInOrder backlog.items) queues
    → gone_after backlog queues ≡ gone_after backlog (unfinished queues)
gone_after_unfinished backlog queues in_order =
    ap (λ (done : ℕ). if is_full backlog && has_half_before backlog done then max backlog.gone done else backlog.gone)
    (done_with_unfinished backlog.items (length backlog.items) queues (omega arith) in_order)

-- there are as many items as are done with, or more
pub done_with_within : (len : ℕ) (queues : List Queue) → done_with_all len queues ≤ len
done_with_within len queues = lesser_than len queues

-- what was let go every queue has had acknowledged
pub acknowledged_if_gone : (backlog : BacklogState) (queues : List Queue) → AreServable backlog queues
    → All (HasAcknowledged backlog) queues
acknowledged_if_gone backlog queues servable = λ k d inside.
    let q = get_or queues k d in
    let order = servable.in_order k d inside in
    let left = servable.left k d inside in
    let fewer = fewer_before backlog.items q.binding backlog.gone q.acked.place left.acked in
    let counts = order.acked.counts in
    omega arith

-- a queue that counts an item, or ignores it, needs no other ones than before
counted_left : (b done : Bool) (gone len : ℕ) (q : Queue) → gone ≤ len → IsLeft gone q
    → IsLeft gone (if b then record q { len = q.len + 1 } else (if done then moved_to len q else q))
counted_left true done gone len q within left = record { acked = left.acked; cursor = left.cursor }
counted_left false true gone len q within left = record { acked = within; cursor = within }
counted_left false false gone len q within left = left

pub counting_left : (gone : ℕ) (item : Item) (len : ℕ) (queues : List Queue) → gone ≤ len → All (IsLeft gone) queues
    → All (IsLeft gone) (map (counting item len) queues)
counting_left gone item len queues within left =
    All-map (IsLeft gone) (counting item len) queues
    (λ k d lt. let q = get_or queues k d in
    counted_left (takes_item q.binding item) (q.acked.position == q.len) gone len q within (left k d lt))

-- a queue that rewinds stays in order
pub rewound_in_order : (accepted : List Item) (q : Queue) → IsInOrder accepted q
    → IsInOrder accepted (record q { cursor = q.acked })
rewound_in_order accepted q order = record {
  len = order.len;
  acked = order.acked;
  cursor = order.acked;
  delivered_there = order.delivered_there;
  acked_delivered = order.acked_delivered;
  past_acked = omega arith;
  next_at_most = order.acked_delivered;
  acked_at_end = order.acked_at_end;
  cursor_at_end = order.acked_at_end;
}

-- a list has an element at an index if and only if the index is below its length
is_some-slice_get : {X : Type 0} (xs : List X) (i : ℕ) → is_some (slice_get xs i) ≡ nat_lt i (length xs)
is_some-slice_get [] i = grind (arith, nat_tests)
is_some-slice_get (x ∷ xs) zero = grind (arith, nat_tests)
is_some-slice_get (x ∷ xs) (suc i) = is_some-slice_get xs i ∙ grind (arith, nat_tests)

-- an item that is wrapped is present if and only if the item is
is_some-wrapped : (position : ℕ) (item : Option Item)
    → is_some (option_map (λ item. let d : Delivery = record { position = position; item = item } in d) item)
    ≡ is_some item
is_some-wrapped position None = refl
is_some-wrapped position (Some item) = refl

-- whether an item comes after the cursor of a queue
pub has_next_by : (accepted : List Item) (q : Queue) → IsInOrder accepted q
    → nat_lt q.cursor.position q.len ≡ is_some (next_delivery (queue_state accepted q))
has_next_by accepted q order =
    let next : q.cursor.position + 1 - 1 ≡ q.cursor.position = omega arith in
    sym (is_some-wrapped (q.cursor.position + 1) (slice_get (queue accepted q.binding) (q.cursor.position + 1 - 1))
    ∙ ap (λ i. is_some (slice_get (queue accepted q.binding) i)) next
    ∙ is_some-slice_get (queue accepted q.binding) q.cursor.position
    ∙ ap (nat_lt q.cursor.position) (sym order.len))
