-- What a subscriber of a closed ledger may rely on that has taken its whole queue.
use Rattle.std.specs.Prelude.{◌≡◌, ℕ, true, false, length, map}
use Rattle.cdc_types.specs.Timestamps.{last_timestamp}
use Rattle.cdc_ledger.specs.Balances.{as_of}
use Rattle.cdc_ledger.specs.Events.{events}
use Rattle.cdc_ledger.specs.History.{History}
use Rattle.cdc_match.specs.Arguments.{Arguments}
use Rattle.cdc_subscriber.specs.declared.book.BookEntry.{BookEntry}
use Rattle.cdc_subscriber.specs.Book.{book_of, accounts_of}
use Rattle.cdc_subscriber.specs.Reception.{has_ended}
use Rattle.cdc_laws.specs.Faithful.{IsFaithful}
use Rattle.cdc_laws.specs.Line.{feed_of, line}
use Rattle.cdc_commands.specs.Feeds.{received_of, kept_by}

-- a subscriber with this binding is faithful after the start 0, that is for all events, and has received the end
-- mark: so it has applied each event that matches its binding, and its state is determined by these alone
pub record HasWholeFeed (h : History) (binding : Arguments) : Type 0 where
  pub faithful : IsFaithful h 0 binding (received_of (line h) binding)
  pub ended : has_ended (received_of (line h) binding) ≡ true
  pub kept : kept_by (line h) binding ≡ record {
    book = book_of (feed_of h binding);
    last = last_timestamp (feed_of h binding);
    applied = length (feed_of h binding);
    ended = true;
    closed = false;
  }

-- an account with the ledger's balances as of the timestamp t
abbrev pub entry_as_of : History → ℕ → ℕ → BookEntry
entry_as_of h t id = record { id = id; balances = as_of h t id }

-- if every event matches the binding of a subscriber, its book has each account that an event names, with the
-- ledger's balances as of the last event that it applied
abbrev pub ListsBalances : History → Arguments → Type 0
ListsBalances h binding = feed_of h binding ≡ events h
    → (kept_by (line h) binding).book ≡ map (entry_as_of h (kept_by (line h) binding).last) (accounts_of (events h))
