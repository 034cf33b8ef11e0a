-- The line of a ledger: what it has to publish after a timestamp, and how it gets longer.
use Rattle.std.proofs.Common.{◌≡◌, ℕ, ◌≤◌, Bool, true, false, List, [], ◌∷◌, ◌++◌, map, refl, ap, ◌∙◌, append_assoc, append-nil}
use Rattle.std.specs.Prelude.{nat_lt}
use Rattle.std.specs.List.{AllByRecursion}
use Rattle.std.proofs.lemmas.List.{map-append}
use Rattle.std.proofs.lemmas.List.Elements.{filter-append}
use Rattle.cdc_ledger.specs.Events.{event_of, events}
use Rattle.cdc_ledger.specs.History.{History}
use Rattle.cdc_ledger.specs.Sound as sound
use Rattle.cdc_log.specs.Log.{events_after}
use Rattle.cdc_message.specs.declared.items.Item.{Item}
use Rattle.cdc_message.specs.declared.items.Item.TheVariants.{Event as OfEvent}
use Rattle.cdc_types.specs.declared.events.Entry.{Entry}
use Rattle.cdc_types.specs.declared.events.Event.{Event}
pub use Rattle.cdc_laws.specs.GoingOn.{GoesOn}
use Rattle.cdc_laws.specs.Line.{end_mark_if, line, line_after, emitted}
use Rattle.cdc_laws.proofs.Rising.{all_later, events_rise}
use Rattle.cdc_laws.proofs.Splits.{SplitsAt, split_at, events_after-all, events_after-later}

-- ---- the events of a sound history

-- an event has the timestamp of its entry, so events of entries up to a timestamp are up to it
past_entries : (h : History) (t : ℕ) (es : List Entry) → AllByRecursion (λ e. e.timestamp ≤ t) es
    → AllByRecursion (λ e. e.timestamp ≤ t) (map (event_of h) es)
past_entries h t [] past = tt
past_entries h t (e ∷ es) past = (past.0, past_entries h t es past.1)

-- no event is later than the ledger's last timestamp, and so neither is what a session saves
pub events_past : (h : History) → sound.IsSound h → AllByRecursion (λ e. e.timestamp ≤ h.last) (events h)
events_past h is = past_entries h h.last h.entries is.past

-- ---- the line before and after a timestamp

-- what there is to publish after the start: the events up to a later timestamp, and then what there is to publish
-- after that
pub line_splits : (h : History) (start t : ℕ) (front : List Event)
    → SplitsAt (events_after start (events h)) t front (events_after t (events h))
    → line_after h start ≡ map OfEvent front ++ line_after h t
line_splits h start t front cut =
    rw (cut.whole, map-append OfEvent front (events_after t (events h)))
    (append_assoc (map OfEvent front) (map OfEvent (events_after t (events h))) (end_mark_if h.closed))

-- a ledger's events can be cut at any timestamp, such as the base of a session or the timestamp that it saves
pub split_events : (h : History) (t : ℕ) → sound.IsSound h
    → (front : List Event) × SplitsAt (events h) t front (events_after t (events h))
split_events h t is = split_at t 0 (events h) (events_rise h is)

-- and so can those after the start, at any later timestamp
pub split_after : (h : History) (start t : ℕ) → sound.IsSound h → start ≤ t
    → (front : List Event) × SplitsAt (events_after start (events h)) t front (events_after t (events h))
split_after h start t is early =
    let es : List Event = events_after start (events h) in
    let cut = split_at t start es (split_events h start is).1.rise in
    (cut.0, rw (events_after-later start t early (events h)) at cut.1)

-- no event is at 0, so all come after it
pub all_after_zero : (h : History) → sound.IsSound h → events_after 0 (events h) ≡ events h
all_after_zero h is = events_after-all 0 (events h) (all_later 0 (events h) (events_rise h is))

-- and then the line after 0 is the whole line
pub line_after-zero : (h : History) → sound.IsSound h → line_after h 0 ≡ line h
line_after-zero h is = ap (λ es. emitted es h.closed) (all_after_zero h is)

-- ---- a history that goes on

-- what there is to publish gets longer only at its end, and stays the same once it has an end mark
emitted_more : (es new : List Event) (b c : Bool) → (b ≡ true → (c ≡ true) × (new ≡ []))
    → (more : List Item) × (emitted (es ++ new) c ≡ emitted es b ++ more)
emitted_more es new true c shut =
    let same = shut refl in ([], rw (same.0, same.1, append-nil es, append-nil (emitted es true)) refl)
emitted_more es new false c shut = (
  map OfEvent new ++ end_mark_if c,
  rw (map-append OfEvent es new, append-nil (map OfEvent es))
      (append_assoc (map OfEvent es) (map OfEvent new) (end_mark_if c)),
)

-- the later events join those that were there
pub events_after-goes_on : (h g : History) (t : ℕ) (on : GoesOn h g)
    → events_after t (events g) ≡ events_after t (events h) ++ events_after t on.new
events_after-goes_on h g t on =
    ap (events_after t) on.whole ∙ filter-append (λ (e : Event). nat_lt t e.timestamp) (events h) on.new

-- so does the line after a timestamp, and its items keep their tags
pub line_after-goes_on : (h g : History) (t : ℕ) → GoesOn h g
    → (more : List Item) × (line_after g t ≡ line_after h t ++ more)
line_after-goes_on h g t on =
    let more = emitted_more (events_after t (events h)) (events_after t on.new) h.closed g.closed
    (λ closed. let shut = on.shut closed in (shut.0, ap (events_after t) shut.1)) in
    (more.0, ap (λ es. emitted es g.closed) (events_after-goes_on h g t on) ∙ more.1)
