-- The events of a ledger rise, and so do those that a binding takes.
use Rattle.std.proofs.Common.{◌≡◌, ℕ, zero, suc, ◌<◌, ◌≤◌, Bool, List, [], ◌∷◌, ◌++◌, get_or, map, refl, arith}
use Rattle.std.specs.Prelude.{All, AllPairs, filter, nat_lt}
use Rattle.std.specs.List.{AllByRecursion}
use Rattle.std.proofs.lemmas.Bool.{cond_both}
use Rattle.std.proofs.lemmas.List.{get_or_append_left, length-append}
use Rattle.std.proofs.lemmas.List.Elements.{Contains-get_or}
use Rattle.cdc_types.specs.declared.events.Entry.{Entry}
use Rattle.cdc_types.specs.declared.events.Event.{Event}
use Rattle.cdc_types.specs.Timestamps.{last_timestamp_from}
use Rattle.cdc_ledger.specs.Events.{event_of, events}
use Rattle.cdc_ledger.specs.History.{History}
use Rattle.cdc_ledger.specs.Sound as sound
use Rattle.cdc_laws.specs.Line.{feed_after}
use Rattle.cdc_laws.proofs.ListElements.{each_has}
use Rattle.cdc_log.specs.Log.{RiseFrom, events_after}
use Rattle.cdc_match.specs.Arguments.{Arguments}
use Rattle.cdc_match.specs.Queue.{takes_event}
use Rattle.cdc_message.specs.Items.{TimestampsRise}
use Rattle.cdc_message.specs.Replays.{IsPrefix}

-- ---- lists that rise

-- events that rise from a timestamp rise from an earlier one, as if one before them was left out
pub RiseFrom-earlier : (s t : ℕ) (es : List Event) → s ≤ t → RiseFrom t es → RiseFrom s es
RiseFrom-earlier s t [] before rise = tt
RiseFrom-earlier s t (e ∷ es) before rise = (omega (arith, rise.0), rise.1)

-- so rising events of which some are left out still rise
pub RiseFrom-filter : (p : Event → Bool) (t : ℕ) (es : List Event) → RiseFrom t es → RiseFrom t (filter p es)
RiseFrom-filter p t [] rise = tt
RiseFrom-filter p t (e ∷ es) rise =
    let rest = RiseFrom-filter p e.timestamp es rise.1 in
    cond_both (p e) (e ∷ filter p es) (filter p es) (RiseFrom t) (λ keeps. (rise.0, rest))
    (λ drops. RiseFrom-earlier t e.timestamp (filter p es) (omega (arith, rise.0)) rest)

-- each event of a rising list is later than the timestamp that the list rises from
pub all_later : (t : ℕ) (es : List Event) → RiseFrom t es → AllByRecursion (λ e. t < e.timestamp) es
all_later t [] rise = tt
all_later t (e ∷ es) rise = (rise.0, all_later t es (RiseFrom-earlier t e.timestamp es (omega (arith, rise.0)) rise.1))

-- the same of the event at each place
later_at : (t : ℕ) (es : List Event) → RiseFrom t es → All (λ e. t < e.timestamp) es
later_at t es rise k d below =
    each_has (λ e. t < e.timestamp) es (get_or es k d) (all_later t es rise) (Contains-get_or es k d below)

-- and it is later than every event before it, not only than the one next to it
in_turn : (t : ℕ) (es : List Event) → RiseFrom t es → AllPairs (λ earlier later. earlier.timestamp < later.timestamp) es
in_turn t [] rise i j d before below = absurd (omega arith)
in_turn t (e ∷ es) rise i zero d before below = absurd (omega arith)
in_turn t (e ∷ es) rise zero (suc j) d before below = later_at e.timestamp es rise.1 j d (omega arith)
in_turn t (e ∷ es) rise (suc i) (suc j) d before below = in_turn e.timestamp es rise.1 i j d (omega arith) (omega arith)

-- so events that rise as a log has them rise as the laws of subscribers ask
pub TimestampsRise-from : (es : List Event) → RiseFrom 0 es → TimestampsRise es
TimestampsRise-from es rise = record { above_zero = later_at 0 es rise; rising = in_turn 0 es rise }

-- a prefix of events that rise
pub TimestampsRise-prefix : (some es : List Event) → TimestampsRise es → IsPrefix some es → TimestampsRise some
TimestampsRise-prefix some es rise front =
    let all : TimestampsRise (some ++ front.rest) = rw front.whole rise in
    let longer = length-append some front.rest in
    record {
      above_zero = λ k d below.
          rw (get_or_append_left some front.rest d k below) at (all.above_zero k d (omega (arith, longer)));
      rising = λ i j d before below.
          rw (get_or_append_left some front.rest d i (omega arith), get_or_append_left some front.rest d j below) at
          (all.rising i j d before (omega (arith, longer)));
    }

-- ---- the events of a ledger

-- events have the timestamps of their entries, and so rise as these do
rise_entries : (h : History) (t : ℕ) (es : List Entry) → sound.RiseFrom t es → RiseFrom t (map (event_of h) es)
rise_entries h t [] rise = tt
rise_entries h t (e ∷ es) rise = (rise.0, rise_entries h e.timestamp es rise.1)

-- each event of a ledger is later than the one before it
pub events_rise : (h : History) → sound.IsSound h → RiseFrom 0 (events h)
events_rise h is = rise_entries h 0 h.entries is.rising

-- the events after a timestamp rise too
pub after_rise : (h : History) (start : ℕ) → sound.IsSound h → TimestampsRise (events_after start (events h))
after_rise h start is =
    TimestampsRise-from (events_after start (events h))
    (RiseFrom-filter (λ (e : Event). nat_lt start e.timestamp) 0 (events h) (events_rise h is))

-- and so do those of them that a binding takes
pub feed_after_rises : (h : History) (start : ℕ) (binding : Arguments) → sound.IsSound h
    → TimestampsRise (feed_after h start binding)
feed_after_rises h start binding is =
    TimestampsRise-from (feed_after h start binding)
    (RiseFrom-filter (takes_event binding) 0 (events_after start (events h))
    (RiseFrom-filter (λ (e : Event). nat_lt start e.timestamp) 0 (events h) (events_rise h is)))

-- the last event isn't before the timestamp that a list rises from
pub last_late : (t : ℕ) (es : List Event) → RiseFrom t es → t ≤ last_timestamp_from t es
last_late t [] rise = omega arith
last_late t (e ∷ es) rise = omega (arith, rise.0, last_late e.timestamp es rise.1)

-- the last event is the last of all
pub last_behind : (t : ℕ) (xs : List Event) (e : Event) (es : List Event)
    → last_timestamp_from t (xs ++ e ∷ es) ≡ last_timestamp_from e.timestamp es
last_behind t [] e es = refl
last_behind t (x ∷ xs) e es = last_behind x.timestamp xs e es
