-- The numbers of a session stay in their bounds.
use Rattle.std.proofs.Common.{◌≡◌, ℕ, zero, suc, ◌+◌, ◌-◌, ◌<◌, ◌≤◌, ◌==◌, Bool, not, Some, List, [], ◌∷◌, ◌++◌, ap, subst, length, drop, get_or, length-append, arith}
use Rattle.std.specs.Prelude.{All, slice_get}
use Rattle.std.proofs.lemmas.List.Elements.{All-append, All-filter}
use Rattle.cdc_types.specs.declared.bounds.TheConstants.Limits.{TIMESTAMP}
use Rattle.cdc_types.specs.declared.events.Event.{Event}
use Rattle.cdc_types.specs.Timestamps.{RiseFrom, last_timestamp_from}
use Rattle.cdc_types.proofs.Rising.{last_timestamp_from-slice_get}
use Rattle.cdc_publisher.specs.declared.session.Unconfirmed.{Unconfirmed}
use Rattle.cdc_publisher.specs.SessionState.{SessionState, poll_of, without_tag}
use Rattle.cdc_publisher.specs.Offers.{IsOffered}
use Rattle.cdc_publisher.specs.Stands.{HasBounds, IsFrom}
use Rattle.cdc_publisher.specs.Turns.{tagged}
use Rattle.cdc_publisher.proofs.Moves.{is_free}
use Rattle.cdc_publisher.proofs.Rings.{length-without_tag}

-- the last timestamp of a list is that of the event in its last place
pub last_is : (time : ℕ) (events : List Event) (event : Event) → slice_get events (length events - 1) ≡ Some event
    → last_timestamp_from time events ≡ event.timestamp
last_is time [] event found = cc
last_is time (first ∷ events) event found = last_timestamp_from-slice_get (first ∷ events) event found

-- a list that rises from a timestamp advances by at least as many nanoseconds as it has events
rises_by : (time : ℕ) (events : List Event) → RiseFrom time events
    → time + length events ≤ last_timestamp_from time events
rises_by time [] rising = omega arith
rises_by time (event ∷ events) rising =
    let above = rising.0 in
    let rest = rises_by event.timestamp events rising.1 in
    omega arith

-- the last timestamp of a list is within the bounds if the first one and each event's are
last_fits : (start time : ℕ) (events : List Event) → IsFrom start time
    → All (λ event. IsFrom start event.timestamp) events → IsFrom start (last_timestamp_from time events)
last_fits start time [] fits all = fits
last_fits start time (event ∷ events) fits all =
    last_fits start event.timestamp events (all 0 event (omega arith)) (λ k d lt. all (suc k) d (omega arith))

-- events that rise from a timestamp at or after the start are within the bounds
from_start : (start time : ℕ) (events : List Event) → start ≤ time → RiseFrom time events
    → All (λ event. event.timestamp ≤ TIMESTAMP) events → All (λ event. IsFrom start event.timestamp) events
from_start start time [] late rising fits k d lt = absurd (omega (arith, lt))
from_start start time (event ∷ events) late rising fits zero d lt =
    (omega (arith, late, rising.0), fits 0 event (omega arith))
from_start start time (event ∷ events) late rising fits (suc k) d lt =
    from_start start event.timestamp events (omega (arith, late, rising.0)) rising.1
    (λ i x low. fits (suc i) x (omega (arith, low))) k d (omega (arith, lt))

-- the bounds hold after events are offered
pub offered_bounds : (kept : SessionState) (events : List Event) (complete : Bool) → HasBounds kept
    → IsOffered (poll_of kept) events
    → HasBounds (record kept {
      last = last_timestamp_from kept.last events;
      unsent = kept.unsent ++ events;
      complete = complete;
    })
offered_bounds kept events complete bounds offer =
    let free = is_free kept events offer in
    let none = free.unsent in
    let count = free.reply.count in
    let sent = bounds.sent in
    let room = bounds.room in
    let long = length-append kept.unsent events in
    let further = rises_by kept.last events free.reply.rising in
    let late : All (λ event. IsFrom kept.start event.timestamp) events =
    from_start kept.start kept.last events bounds.last.0 free.reply.rising free.reply.fits in
    record {
      base = bounds.base;
      last = last_fits kept.start kept.last events bounds.last late;
      last_sent = bounds.last_sent;
      unsent = All-append (λ event. IsFrom kept.start event.timestamp) kept.unsent events bounds.unsent late;
      before = bounds.before;
      sent = omega arith;
      connected = omega arith;
      room = omega arith;
      window = bounds.window;
    }

-- they hold after a tag is taken out
pub confirmed_bounds : (kept : SessionState) (tag : ℕ) → HasBounds kept
    → HasBounds (record kept { unconfirmed = without_tag tag kept.unconfirmed })
confirmed_bounds kept tag bounds =
    let few = length-without_tag tag kept.unconfirmed in
    let room = bounds.room in
    record {
      base = bounds.base;
      last = bounds.last;
      last_sent = bounds.last_sent;
      unsent = bounds.unsent;
      before = All-filter (λ entry. not (entry.tag == tag)) (λ entry. IsFrom kept.start entry.before) kept.unconfirmed
          bounds.before;
      sent = bounds.sent;
      connected = bounds.connected;
      room = omega arith;
      window = bounds.window;
    }

-- they hold after the oldest unsent event is sent
pub published_bounds : (kept : SessionState) (event : Event) (events : List Event) → HasBounds kept
    → kept.unsent ≡ event ∷ events
    → HasBounds (record (tagged kept) { unsent = events; last_sent = event.timestamp })
published_bounds kept event events bounds is =
    let long : length kept.unsent ≡ suc (length events) = ap length is in
    let entry : Unconfirmed = record { tag = kept.sent; before = kept.last_sent } in
    let all : All (λ event. IsFrom kept.start event.timestamp) (event ∷ events) =
    subst (λ (es : List Event). All (λ event. IsFrom kept.start event.timestamp) es) is bounds.unsent in
    let sent = bounds.sent in
    let room = bounds.room in
    let connected = bounds.connected in
    record {
      base = bounds.base;
      last = bounds.last;
      last_sent = all 0 event (omega arith);
      unsent = λ k d lt. all (suc k) d (omega arith);
      before = All-append (λ entry. IsFrom kept.start entry.before) kept.unconfirmed
          (record { tag = kept.sent; before = kept.last_sent } ∷ []) bounds.before (λ k d lt. one k d lt);
      sent = omega arith;
      connected = omega arith;
      room = omega (arith, length-append kept.unconfirmed (entry ∷ []));
      window = bounds.window;
    }
  where
    one : (k : ℕ) (d : Unconfirmed) → k < 1
        → IsFrom kept.start (get_or (record { tag = kept.sent; before = kept.last_sent } ∷ []) k d).before
    one zero d lt = bounds.last_sent
    one (suc k) d lt = absurd (omega arith)

-- what is offered fits
pub offered_fits : (kept : SessionState) (events : List Event) → HasBounds kept → IsOffered (poll_of kept) events
    → length (kept.unsent ++ events) ≤ kept.window
offered_fits kept events bounds offer =
    let free = is_free kept events offer in
    let none = free.unsent in
    let count = free.reply.count in
    omega (arith, length-append kept.unsent events)

-- one more tag fits if an event is unsent
pub tag_fits : (kept : SessionState) (event : Event) (events : List Event) (entry : Unconfirmed) → HasBounds kept
    → kept.unsent ≡ event ∷ events → length (kept.unconfirmed ++ entry ∷ []) ≤ kept.window
tag_fits kept event events entry bounds is =
    let long : length kept.unsent ≡ suc (length events) = ap length is in
    let room = bounds.room in
    omega (arith, length-append kept.unconfirmed (entry ∷ []))

-- the first of a list, and the others
pub first_of : (events : List Event) (event : Event) → slice_get events 0 ≡ Some event → events ≡ event ∷ drop 1 events
first_of [] event is = cc
first_of (first ∷ events) event is = cc
