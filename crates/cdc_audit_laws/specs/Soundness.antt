-- Accepted events are those of a ledger, or the first ones of a ledger's.
use Rattle.std.specs.Prelude.{◌≡◌, ◌≢◌, ◌⊎◌, ◌≤◌, ◌+◌, ℕ, true, false, List, ◌++◌, length, Some}
use Rattle.std.specs.List.{AllByRecursion}
use Rattle.cdc_types.specs.declared.bounds.TheConstants.Limits.{TIMESTAMP}
use Rattle.cdc_types.specs.declared.events.Event.{Event}
use Rattle.cdc_types.specs.Timestamps.{last_timestamp}
use Rattle.cdc_ledger.specs.Events.{events as events_of}
use Rattle.cdc_ledger.specs.History.{History}
use Rattle.cdc_ledger.specs.Kinds.{stores}
use Rattle.cdc_ledger.specs.Submit.{IsLegal}
use Rattle.cdc_message.specs.Widths.{EventFits}
use Rattle.cdc_audit.specs.Audits.{is_accepted}
use Rattle.cdc_audit.specs.Expiries.{first_due}
use Rattle.cdc_audit.specs.Known.{ends_in_chain, is_linked, last_expiry}
use Rattle.cdc_audit.specs.Settling.{expires_at}

-- ---- chains and pulses

-- no chain and no pulse is cut off at the end of these events: the last transfer isn't linked to the next one, and the
-- transfer that expires next has another expiry time than the one that expired last
pub record AreWhole (events : List Event) : Type 0 where
  pub chain : ends_in_chain events ≡ false
  pub pulse : (x y : Event) → last_expiry events ≡ Some x → first_due events ≡ Some y
      → expires_at x.transfer ≢ expires_at y.transfer

-- these events are the start of a chain or of a pulse: all are linked, or all are expiries of one expiry time
abbrev pub AreCutOff : List Event → Type 0
AreCutOff events =
    AllByRecursion (λ e. is_linked e ≡ true) events
    ⊎ ((t : ℕ) × AllByRecursion (λ e. (stores e.kind ≡ false) × (expires_at e.transfer ≡ t)) events)

-- if a pulse is cut off at the end of these events, there are as many timestamps after them as there are events: so
-- each transfer that is left of the pulse can expire
abbrev pub PulseFits : List Event → Type 0
PulseFits events =
    (x y : Event) → last_expiry events ≡ Some x → first_due events ≡ Some y
    → expires_at x.transfer ≡ expires_at y.transfer → last_timestamp events + length events ≤ TIMESTAMP

-- ---- the laws: the numbers of these events are within their widths, as those of all events are that were read

-- accepted events are the first ones of a legal history's, unless the timestamps run out within a pulse
abbrev pub AcceptedEventsBeginALedgers : Type 0
AcceptedEventsBeginALedgers = (events : List Event) → AllByRecursion EventFits events → PulseFits events
    → is_accepted events ≡ true → (h : History) × (rest : List Event) × IsLegal h × (events_of h ≡ events ++ rest)

-- if no chain and no pulse is cut off, they are all events of a legal history
abbrev pub AcceptedEventsAreALedgers : Type 0
AcceptedEventsAreALedgers = (events : List Event) → AllByRecursion EventFits events → AreWhole events
    → is_accepted events ≡ true → (h : History) × IsLegal h × (events_of h ≡ events)

-- if one may be cut off, a legal history has all of the events but that last part
abbrev pub AcceptedEventsStartAsALedgers : Type 0
AcceptedEventsStartAsALedgers = (events : List Event) → AllByRecursion EventFits events → is_accepted events ≡ true
    → (h : History) × (last_part : List Event) × IsLegal h × (events_of h ++ last_part ≡ events) × AreCutOff last_part

-- a ledger's events have no chain and no pulse that is cut off
abbrev pub LedgersEventsAreWhole : Type 0
LedgersEventsAreWhole = (h : History) → IsLegal h → AreWhole (events_of h)
