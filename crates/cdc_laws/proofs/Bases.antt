-- When a session connects to a broker, every event after the start and up to the timestamp after which the session
-- begins was taken.
use Rattle.std.proofs.Common.{◌≡◌, ℕ, zero, suc, ◌+◌, ◌<◌, ◌≤◌, Bool, true, false, List, [], ◌∷◌, length, map, refl, sym, ap, ◌∙◌, inl, inr, arith}
use Rattle.std.specs.Prelude.{Contains, Some, slice_get}
use Rattle.std.specs.Option.{option_map}
use Rattle.std.proofs.lemmas.Bool.{cases_lt}
use Rattle.std.proofs.lemmas.List.Elements.{Contains-append_cases, Contains-append_right}
use Rattle.std.proofs.lemmas.Option.{get_or_from_slice_get, slice_get-map, slice_get_read, slice_get_within}
use Rattle.cdc_ledger.specs.Events.{events}
use Rattle.cdc_ledger.specs.History.{History}
use Rattle.cdc_ledger.specs.Sound.{IsSound}
use Rattle.cdc_laws.specs.ConnectorRuns.{AreSessions, IsBase, IsConfirmed, IsConfirmedTo, MayFollow, Shown}
use Rattle.cdc_laws.specs.Line.{end_mark_if, line_after, emitted}
use Rattle.cdc_laws.specs.Takings.{HasTakenUpTo}
use Rattle.cdc_laws.proofs.Lines.{split_events}
use Rattle.cdc_laws.proofs.ListElements.{Contains-cons_cases, each_has, none_there, slice_get-append, slice_get-before}
use Rattle.cdc_laws.proofs.Rising.{RiseFrom-earlier, TimestampsRise-from, all_later}
use Rattle.cdc_laws.proofs.Sessions.{follows}
use Rattle.cdc_log.specs.Log.{RiseFrom, events_after}
use Rattle.cdc_message.specs.declared.items.Item.{Item}
use Rattle.cdc_message.specs.declared.items.Item.TheVariants.{Event as OfEvent}
use Rattle.cdc_message.specs.declared.packets.Confirm.{Confirm}
use Rattle.cdc_message.specs.Replays.{IsPrefix}
use Rattle.cdc_types.specs.declared.events.Event.{Event}

-- ---- events by their places

-- an item of a line that is an event is at the same place among the line's events
pub event_at : (es : List Event) (closed : Bool) (k : ℕ) (e : Event)
    → slice_get (emitted es closed) k ≡ Some (OfEvent e)
    → slice_get es k ≡ Some e
event_at [] true zero e there = cc
event_at [] true (suc k) e there = cc
event_at [] false k e there = cc
event_at (x ∷ es) closed zero e there = let same : x ≡ e = cc in ap (λ y. Some y) same
event_at (x ∷ es) closed (suc k) e there = event_at es closed k e there

-- and an event is in the line at its place
pub emitted_at : (es : List Event) (closed : Bool) (k : ℕ) (e : Event) → slice_get es k ≡ Some e
    → slice_get (emitted es closed) k ≡ Some (OfEvent e)
emitted_at es closed k e there =
    slice_get-append (map OfEvent es) (end_mark_if closed) k (OfEvent e)
    (slice_get-map OfEvent es k ∙ ap (option_map OfEvent) there)

-- an event that isn't later than another of a rising list is no further on
pub no_further : (t : ℕ) (es : List Event) (i j : ℕ) (a b : Event) → RiseFrom t es → slice_get es i ≡ Some a
    → slice_get es j ≡ Some b → b.timestamp ≤ a.timestamp → j ≤ i
no_further t es i j a b rise here there early =
    elim (cases_lt i j) [
      | inl before ↦
          let rises = TimestampsRise-from es (RiseFrom-earlier 0 t es (omega arith) rise) in
          let later = rises.rising i j a before (slice_get_within es j b there) in
          let first = ap (λ (e : Event). e.timestamp) (get_or_from_slice_get es i a a here) in
          let second = ap (λ (e : Event). e.timestamp) (get_or_from_slice_get es j b a there) in
          absurd (omega (arith, later, first, second, early))
      | inr not ↦ not
    ]

-- an element of the prefix is at the same place in the whole list
pub prefix_at : {X : Type 0} (some all : List X) (k : ℕ) (x : X) → IsPrefix some all → slice_get some k ≡ Some x
    → slice_get all k ≡ Some x
prefix_at some all k x front there = rw front.whole at (slice_get-append some front.rest k x there)

-- and conversely, if the place is within the prefix
pub prefix_has : {X : Type 0} (some all : List X) (k : ℕ) (x : X) → IsPrefix some all → k < length some
    → slice_get all k ≡ Some x → slice_get some k ≡ Some x
prefix_has {X} some all k x front below there =
    sym (slice_get-before some front.rest k below) ∙ ap (λ (xs : List X). slice_get xs k) front.whole ∙ there

module _ (h : History) (sound : IsSound h) (start : ℕ) where
  -- an event after a timestamp is among those after it
  after_at : (t : ℕ) (e : Event) → Contains (events h) e → t < e.timestamp
      → (k : ℕ) × (slice_get (events_after t (events h)) k ≡ Some e)
  after_at t e there late =
      let cut = split_events h t sound in
      elim (Contains-append_cases cut.0 (events_after t (events h)) e (rw cut.1.whole at there)) [
        | inl early ↦
            let low = each_has (λ x. x.timestamp ≤ t) cut.0 e cut.1.low early in absurd (omega (arith, late, low))
        | inr (k, below, is) ↦ (k, slice_get_read (events_after t (events h)) _ k e refl below (sym is))
      ]

  -- an event after the start is one of the ledger's
  of_all : (e : Event) → Contains (events_after start (events h)) e → Contains (events h) e
  of_all e there =
      let cut = split_events h start sound in
      rw cut.1.whole (Contains-append_right cut.0 (events_after start (events h)) e there)

  -- no event after the start is up to it
  none_at_start : (taken : List Item) → HasTakenUpTo h start taken start
  none_at_start taken e there low =
      let es : List Event = events_after start (events h) in
      let rise = all_later start es (split_events h start sound).1.rise in
      let above = each_has (λ x. start < x.timestamp) es e rise there in
      absurd (omega (arith, above, low))

  module _ (confirms : List Confirm) (n : ℕ) (taken : List Item) where
    -- what was confirmed to those of these sessions whose number is below n was taken
    abbrev pub HasConfirmed : List Shown → Type 0
    HasConfirmed sessions =
        (s : Shown) → Contains sessions s → s.number < n → (place : ℕ) (item : Item)
        → slice_get s.items place ≡ Some item → IsConfirmed confirms s.number (place + 1) → Contains taken item

    -- if an earlier session is confirmed up to a timestamp, all its events up to then were taken
    up_to_confirmed : (sessions : List Shown) (s : Shown) (time : ℕ) → HasConfirmed sessions → Contains sessions s
        → s.number < n → IsPrefix s.items (line_after h s.base) → HasTakenUpTo h start taken s.base
        → IsConfirmedTo confirms s time → HasTakenUpTo h start taken time
    up_to_confirmed sessions s time has among below front base is e there low =
        elim (cases_lt s.base e.timestamp) [
          | inl late ↦
              let es : List Event = events_after s.base (events h) in
              let found = after_at s.base e (of_all e there) late in
              let last =
              event_at es h.closed is.place is.event
              (prefix_at s.items (line_after h s.base) is.place (OfEvent is.event) front is.published) in
              let early =
              no_further s.base es is.place found.0 is.event e (split_events h s.base sound).1.rise last found.1
              (omega (arith, low, is.at)) in
              let within = slice_get_within s.items is.place (OfEvent is.event) is.published in
              has s among below found.0 (OfEvent e)
              (prefix_has s.items (line_after h s.base) found.0 (OfEvent e) front (omega (arith, early, within))
              (emitted_at es h.closed found.0 e found.1))
              (is.confirmed (found.0 + 1) (omega arith) (omega (arith, early)))
          | inr early ↦ base e there early
        ]

    -- a session with number n or below begins after such a timestamp, if those before it did
    of_base : (earlier : List Shown) (x : Shown) → MayFollow h start confirms earlier x
        → AreSessions h start confirms earlier → HasConfirmed earlier → x.number ≤ n
        → ((t : Shown) → Contains earlier t → t.number ≤ n → HasTakenUpTo h start taken t.base)
        → IsBase start confirms earlier x.base → HasTakenUpTo h start taken x.base
    of_base earlier x may each has low before (inl none) = rw none (none_at_start taken)
    of_base earlier x may each has low before (inr (t, among, inl same)) =
        let above = may.above t among in rw (← same) (before t among (omega (arith, above, low)))
    of_base earlier x may each has low before (inr (t, among, inr is)) =
        let above = may.above t among in
        up_to_confirmed earlier t x.base has among (omega (arith, above, low))
        (follows h start confirms earlier t each among).may.items (before t among (omega (arith, above, low))) is

    -- so each such session begins after a timestamp up to which every event was taken
    pub bases_taken : (sessions : List Shown) → AreSessions h start confirms sessions → HasConfirmed sessions
        → (s : Shown) → Contains sessions s → s.number ≤ n → HasTakenUpTo h start taken s.base
    bases_taken [] each has s there low = absurd (none_there s there)
    bases_taken (x ∷ earlier) each has s there low =
        let older : HasConfirmed earlier = λ t among. has t (Contains-append_right (x ∷ []) earlier t among) in
        elim (Contains-cons_cases x earlier s there) [
          | inl is ↦
              let number = ap (λ (y : Shown). y.number) is in
              rw (← is)
              (of_base earlier x each.0 each.1 older (omega (arith, low, number)) (bases_taken earlier each.1 older)
              each.0.base)
          | inr old ↦ bases_taken earlier each.1 older s old low
        ]
