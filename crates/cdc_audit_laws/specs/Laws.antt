-- What an audit shows of a stream.
use Rattle.std.specs.Prelude.{◌≡◌, ◌≢◌, ◌⊎◌, ℕ, ◌==◌, true, false, List, [], ◌∷◌, ◌++◌, take, sum_by, if◌then◌else◌}
use Rattle.cdc_types.specs.declared.events.Event.{Event}
use Rattle.cdc_types.specs.Timestamps.{RiseFrom}
use Rattle.cdc_ledger.specs.Events.{events}
use Rattle.cdc_ledger.specs.History.{History}
use Rattle.cdc_ledger.specs.Submit.{IsLegal}
use Rattle.cdc_audit.specs.Audits.{is_accepted}
use Rattle.cdc_audit.specs.Known.{balances_after}
use Rattle.cdc_audit.specs.Rules.{posted}

-- the event has the account of this id
abbrev pub Shows : ℕ → Event → Type 0
Shows id e = (e.debit_account.id ≡ id) ⊎ (e.credit_account.id ≡ id)

-- a ledger's events are accepted, whole and every prefix
abbrev pub LedgersAreAccepted : Type 0
LedgersAreAccepted = (h : History) (count : ℕ) → IsLegal h → is_accepted (take count (events h)) ≡ true

-- each prefix of an accepted stream is accepted; so what holds of the last event of each accepted stream holds of every
-- event
abbrev pub PrefixesAreAccepted : Type 0
PrefixesAreAccepted = (events : List Event) (count : ℕ) → is_accepted events ≡ true
    → is_accepted (take count events) ≡ true

-- the timestamps of accepted events rise from above 0; so no event occurs twice, and no two are swapped
abbrev pub AcceptedEventsRise : Type 0
AcceptedEventsRise = (events : List Event) → is_accepted events ≡ true → RiseFrom 0 events

-- an event that changed the balances of an account can't be left out before a later event of that account: the
-- account's next event is refused, unless one before it is
abbrev pub AChangeShows : Type 0
AChangeShows = (front between : List Event) (lost later : Event) (id : ℕ)
    → is_accepted (front ++ lost ∷ (between ++ later ∷ [])) ≡ true → Shows id later
    → balances_after (front ++ lost ∷ []) id ≢ balances_after front id
    → is_accepted (front ++ between ++ later ∷ []) ≡ false

-- what these events added to the posted debits of an account, and to its posted credits
abbrev pub debits_posted_by : List Event → ℕ → ℕ
debits_posted_by events id = sum_by (λ e. if e.debit_account.id == id then posted e else 0) events

abbrev pub credits_posted_by : List Event → ℕ → ℕ
credits_posted_by events id = sum_by (λ e. if e.credit_account.id == id then posted e else 0) events

-- the posted sums that accepted events show last are the sums of all that they moved
pub record PostedSumsAdd (events : List Event) (id : ℕ) : Type 0 where
  pub debits : (balances_after events id).debits_posted ≡ debits_posted_by events id
  pub credits : (balances_after events id).credits_posted ≡ credits_posted_by events id

abbrev pub BalancesAreSums : Type 0
BalancesAreSums = (events : List Event) (id : ℕ) → is_accepted events ≡ true → PostedSumsAdd events id

-- however many events are left out of a stream, or put into it, or changed: if two streams are accepted and both end
-- with one event, they moved the same of its accounts
abbrev pub WhatIsLeftOutMovedNothing : Type 0
WhatIsLeftOutMovedNothing = (whole rest : List Event) (last : Event) (id : ℕ)
    → is_accepted (whole ++ last ∷ []) ≡ true → is_accepted (rest ++ last ∷ []) ≡ true → Shows id last
    → (debits_posted_by whole id ≡ debits_posted_by rest id) × (credits_posted_by whole id ≡ credits_posted_by rest id)

-- two events with the same transfer, kind and accounts, whatever balances they show
pub record AreAlike (e f : Event) : Type 0 where
  pub kind : e.kind ≡ f.kind
  pub transfer : e.transfer ≡ f.transfer
  pub debit : e.debit_account.id ≡ f.debit_account.id
  pub credit : e.credit_account.id ≡ f.credit_account.id

-- no balance of the last event of a stream can be another one
abbrev pub NoOtherBalances : Type 0
NoOtherBalances = (front : List Event) (e f : Event) (id : ℕ) → is_accepted (front ++ e ∷ []) ≡ true
    → is_accepted (front ++ f ∷ []) ≡ true → AreAlike e f
    → balances_after (front ++ e ∷ []) id ≡ balances_after (front ++ f ∷ []) id
