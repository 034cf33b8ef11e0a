-- What a subscriber may rely on, given a ledger's history, its binding and what it has received.
use Rattle.std.specs.Prelude.{◌≡◌, ℕ, min, true, nat_le, List, length, map, filter, unwrap_or}
use Rattle.cdc_ledger.specs.Balances.{as_of}
use Rattle.cdc_ledger.specs.Events.{events}
use Rattle.cdc_ledger.specs.History.{History}
use Rattle.cdc_laws.specs.Line.{feed_after}
use Rattle.cdc_log.specs.Log.{events_after}
use Rattle.cdc_match.specs.Arguments.{Arguments}
use Rattle.cdc_message.specs.Items.{TimestampsRise, events_of, same_item}
use Rattle.cdc_message.specs.Replays.{IsPrefix, firsts}
use Rattle.cdc_subscriber.specs.declared.book.BookEntry.{BookEntry}
use Rattle.cdc_subscriber.specs.Book.{accounts_of, balances_in, book_of}
use Rattle.cdc_subscriber.specs.Reception.{Reception, has_ended}
use Rattle.cdc_subscriber.specs.SubscriberState.{SubscriberState}
use Rattle.cdc_types.specs.declared.accounts.Balances.{Balances}
use Rattle.cdc_types.specs.declared.events.Event.{Event}
use Rattle.cdc_types.specs.Timestamps.{last_timestamp}
use Rattle.cdc_types.specs.Widths.{max_64}

-- the events that a subscriber has applied: those that it has received, without duplicates
abbrev pub applied : Reception → List Event
applied reception = events_of (firsts same_item reception.items)

-- the balances of an account that no event has shown
abbrev pub no_balances : Balances
no_balances = record { debits_pending = 0; debits_posted = 0; credits_pending = 0; credits_posted = 0 }

-- the balances that a book has for a number; an account that isn't in it counts as four zeros
abbrev pub balances_held : List BookEntry → ℕ → Balances
balances_held book id = unwrap_or (balances_in book id) no_balances

-- a book of events has for every number the ledger's balances as of the last of them
abbrev pub HoldsBalances : History → List Event → Type 0
HoldsBalances h emitted = (id : ℕ) → balances_held (book_of emitted) id ≡ as_of h (last_timestamp emitted) id

-- the events up to a timestamp
abbrev pub events_until : ℕ → List Event → List Event
events_until t es = filter (λ e. nat_le e.timestamp t) es

-- the accounts of a ledger's events after the start and up to a timestamp, in the order of their first appearance
abbrev pub accounts_emitted : History → ℕ → ℕ → List ℕ
accounts_emitted h start t = accounts_of (events_until t (events_after start (events h)))

-- a book of events has just the accounts of the ledger's events after the start and up to the last of the book's, each
-- with the ledger's balances as of that last one, whatever moved before the start
abbrev pub HoldsAccounts : History → ℕ → List Event → Type 0
HoldsAccounts h start emitted =
    book_of emitted
    ≡ map (λ id. record { id = id; balances = as_of h (last_timestamp emitted) id })
    (accounts_emitted h start (last_timestamp emitted))

-- a subscriber has applied a prefix of the events after the start that match its binding; their timestamps rise, so
-- none came twice or out of order; once it has received the end mark it has applied all, and the ledger is closed; if
-- every event after the start matches its binding, its book has exactly their accounts, each with the balances that
-- the ledger had at the last one applied; if the start is 0, every number has these balances in its book
pub record IsFaithful (h : History) (start : ℕ) (binding : Arguments) (reception : Reception) : Type 0 where
  pub prefix : IsPrefix (applied reception) (feed_after h start binding)
  pub rising : TimestampsRise (applied reception)
  pub whole : has_ended reception ≡ true → (h.closed ≡ true) × (applied reception ≡ feed_after h start binding)
  pub balances : feed_after h start binding ≡ events_after start (events h) → HoldsAccounts h start (applied reception)
  pub every : start ≡ 0 → feed_after h start binding ≡ events_after start (events h)
      → HoldsBalances h (applied reception)

-- a subscriber's state, determined by what it has applied, and whether it has ended and is closed; its count saturates
-- at 2^64-1
abbrev pub kept_from : Reception → SubscriberState
kept_from reception = record {
  book = book_of (applied reception);
  last = last_timestamp (applied reception);
  applied = min (length (applied reception)) max_64;
  ended = has_ended reception;
  closed = reception.closed;
}
