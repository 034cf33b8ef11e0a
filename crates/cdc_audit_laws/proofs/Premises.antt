-- What accepted events have, so that a ledger can make them.
use Rattle.std.proofs.Common.{◌≡◌, ◌≢◌, ◌<◌, ◌+◌, ℕ, true, false, List, [], ◌∷◌, if◌then◌else◌}
use Rattle.cdc_audit_laws.proofs.OfStd.{AllByRecursion, flat_map}
use Rattle.cdc_types.specs.declared.accounts.TheConstants.AccountFlags.{LINKED}
use Rattle.cdc_audit_laws.proofs.OfTypes.{BATCH_ITEMS, Event, EventFits, has_flag}
use Rattle.cdc_audit_laws.proofs.OfAudit.{FixedFields, accounts_of, is_linked}

-- ---- accounts

-- the accounts of events: the id and the fields that never change of each one that an event shows
abbrev pub accounts_in : List Event → List (ℕ × FixedFields)
accounts_in events = flat_map accounts_of events

-- the account isn't linked to the next one
abbrev pub IsUnlinked : ℕ × FixedFields → Type 0
IsUnlinked a = has_flag a.1.flags LINKED ≡ false

-- if the account is linked, no event has the next timestamp: it is that of the next account of the chain
abbrev pub NextIsFree : List Event → ℕ × FixedFields → Type 0
NextIsFree events a = has_flag a.1.flags LINKED ≡ true
    → AllByRecursion (λ e. e.timestamp ≢ a.1.timestamp + 1) events

-- a batch has room for each chain of accounts: of as many timestamps in a row, one isn't that of a linked account
abbrev pub AccountsHaveRoom : List Event → Type 0
AccountsHaveRoom events = (t : ℕ) → (k : ℕ) × (k < BATCH_ITEMS)
    × AllByRecursion (λ a. a.1.timestamp ≡ t + k → IsUnlinked a) (accounts_in events)

-- ---- chains

-- a batch has room for each chain of these events, of which this number of linked transfers came before them
abbrev pub HaveRoom : ℕ → List Event → Type 0
HaveRoom n [] = Unit {0}
HaveRoom n (e ∷ es) = (n < BATCH_ITEMS) × HaveRoom (if is_linked e then n + 1 else 0) es

-- ---- both

-- a ledger can make these events: their numbers are within their widths, none comes right after a linked account, and a
-- batch has room for each chain, of accounts or of transfers
pub record CanBeMade (events : List Event) : Type 0 where
  pub fit : AllByRecursion EventFits events
  pub next_free : AllByRecursion (NextIsFree events) (accounts_in events)
  pub accounts_room : AccountsHaveRoom events
  pub room : HaveRoom 0 events
