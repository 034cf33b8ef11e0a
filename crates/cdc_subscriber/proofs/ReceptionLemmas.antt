-- A subscriber's state after it receives one more item.
use Rattle.std.proofs.Common.{◌≡◌, ℕ, ◌+◌, ◌<◌, ◌≤◌, Bool, true, false, cond, min, length, List, [], ◌∷◌, ◌++◌, Option, None, Some, refl, ap, ◌∙◌, length-append, arith}
use Rattle.std.specs.Prelude.{◌||◌, nat_lt}
use Rattle.std.proofs.lemmas.Bool.{lt-ltb, le-ltb}
use Rattle.std.proofs.lemmas.List.Folds.{list_any-append}
use Rattle.cdc_types.specs.declared.events.Event.{Event}
use Rattle.cdc_types.specs.Timestamps.{last_timestamp}
use Rattle.cdc_types.specs.Widths.{max_64}
use Rattle.cdc_types.proofs.Rising.{last_timestamp_from-push}
use Rattle.cdc_message.specs.declared.items.Item.{Item}
use Rattle.cdc_message.specs.declared.items.Item.TheVariants as item
use Rattle.cdc_message.specs.Items.{events_of}
use Rattle.cdc_message.proofs.RisesLaws.{events_of-push_end, events_of-push_event, rises-push}
use Rattle.cdc_subscriber.specs.declared.book.BookEntry.{BookEntry}
use Rattle.cdc_subscriber.specs.declared.subscriber.Taking.{Taking}
use Rattle.cdc_subscriber.specs.Answers.{settled_answer}
use Rattle.cdc_subscriber.specs.Book.{book_of}
use Rattle.cdc_subscriber.specs.Reception.{Reception, applied_of, has_ended, is_end, kept_of, next}
use Rattle.cdc_subscriber.specs.SubscriberState.{SubscriberState}

-- one more item is received
abbrev more : Reception → Item → Reception
more reception item = record { items = reception.items ++ item ∷ []; closed = reception.closed }

-- the answer of a subscriber that is closed or ended
abbrev settled : Bool → Bool → Option Taking
settled closed ended = cond closed (Some Taking.AfterClose) (cond ended (Some Taking.Repeat) None)

-- a subscriber is neither closed nor ended
pub record Listens (kept : SubscriberState) : Type 0 where
  pub open_yet : kept.closed ≡ false
  pub before_end : kept.ended ≡ false

-- a subscriber with no settled answer listens
pub Listens-unsettled : (kept : SubscriberState) → settled_answer kept ≡ None → Listens kept
Listens-unsettled kept none = record {
  open_yet = at_close kept.closed kept.ended none;
  before_end = at_end kept.closed kept.ended none;
}
  where
    at_close : (closed ended : Bool) → settled closed ended ≡ None → closed ≡ false
    at_close true ended h = cc
    at_close false ended h = refl

    at_end : (closed ended : Bool) → settled closed ended ≡ None → ended ≡ false
    at_end true ended h = cc
    at_end false true h = cc
    at_end false false h = refl

-- a subscriber that listens receives the item
next-listening : (reception : Reception) (item : Item) → Listens (kept_of reception)
    → next reception item ≡ more reception item
next-listening reception item listens = rw (listens.open_yet, listens.before_end) refl

-- the end mark has no event
applied_of-end : (reception : Reception) → applied_of (more reception item.EndMark) ≡ applied_of reception
applied_of-end reception = rw (events_of-push_end reception.items) refl

-- an event is applied if it is later than the last one applied
applied_of-event : (reception : Reception) (e : Event) → applied_of (more reception (item.Event e))
    ≡ cond (nat_lt (last_timestamp (applied_of reception)) e.timestamp) (applied_of reception ++ e ∷ [])
    (applied_of reception)
applied_of-event reception e = rw (events_of-push_event reception.items e) (rises-push (events_of reception.items) e)

-- after one more item, the end mark has been received if it was before or if that item is the end mark
has_ended-more : (reception : Reception) (x : Item) → has_ended (more reception x) ≡ (has_ended reception || is_end x)
has_ended-more reception x =
    list_any-append is_end reception.items (x ∷ []) ∙ ap (λ b. has_ended reception || b) (or_false (is_end x))
  where
    or_false : (b : Bool) → (b || false) ≡ b
    or_false true = refl
    or_false false = refl

-- receiving the end mark
pub kept_of-end : (reception : Reception) → Listens (kept_of reception)
    → kept_of (next reception item.EndMark) ≡ record (kept_of reception) { ended = true }
kept_of-end reception listens =
    let receives_it = next-listening reception item.EndMark listens in
    rw (receives_it, applied_of-end reception, has_ended-more reception item.EndMark, listens.before_end) refl

-- receiving an event that isn't later than the last one applied
pub kept_of-repeat : (reception : Reception) (e : Event) → Listens (kept_of reception)
    → e.timestamp ≤ (kept_of reception).last
    → kept_of (next reception (item.Event e)) ≡ kept_of reception
kept_of-repeat reception e listens late =
    let receives_it = next-listening reception (item.Event e) listens in
    let stays : applied_of (more reception (item.Event e)) ≡ applied_of reception =
    rw (le-ltb (last_timestamp (applied_of reception)) e.timestamp late) at (applied_of-event reception e) in
    rw (receives_it, stays, has_ended-more reception (item.Event e), listens.before_end) refl

-- what is kept of one more event applied, of a book that took it in
abbrev pub kept_more : SubscriberState → Event → List BookEntry → SubscriberState
kept_more kept e book =
    record kept { book = book; last = e.timestamp; applied = min (kept.applied + 1) max_64 }

-- receiving an event that is later than the last one applied
pub kept_of-applied : (reception : Reception) (e : Event) (book : List BookEntry) → Listens (kept_of reception)
    → (kept_of reception).last < e.timestamp → book ≡ book_of (applied_of reception ++ e ∷ [])
    → kept_of (next reception (item.Event e)) ≡ kept_more (kept_of reception) e book
kept_of-applied reception e book listens later held =
    let receives_it = next-listening reception (item.Event e) listens in
    let grows : applied_of (more reception (item.Event e)) ≡ applied_of reception ++ e ∷ [] =
    rw (lt-ltb (last_timestamp (applied_of reception)) e.timestamp later) at (applied_of-event reception e) in
    rw (receives_it, grows, has_ended-more reception (item.Event e), listens.before_end, held)
    (rw (last_timestamp_from-push 0 (applied_of reception) e, length-append (applied_of reception) (e ∷ []))
    (ap with_count (counted (length (applied_of reception)) max_64)))
  where
    with_count : ℕ → SubscriberState
    with_count n = record {
      book = book_of (applied_of reception ++ e ∷ []);
      last = e.timestamp;
      applied = n;
      ended = false;
      closed = reception.closed;
    }

    counted : (n most : ℕ) → min (n + 1) most ≡ min (min n most + 1) most
    counted n most = omega arith
