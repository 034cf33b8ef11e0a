-- What holds of the definitions themselves.
use Rattle.std.specs.Prelude.{◌≡◌, ℕ, true, List, map, take}
use Rattle.cdc_ledger.specs.Balances.{as_of}
use Rattle.cdc_ledger.specs.Events.{events}
use Rattle.cdc_ledger.specs.History.{History}
use Rattle.cdc_ledger.specs.Sound.{IsSound}
use Rattle.cdc_ledger.specs.Submit.{IsLegal}
use Rattle.cdc_laws.specs.Deliveries.{deliveries, items_in}
use Rattle.cdc_laws.specs.Faithful.{HoldsAccounts, HoldsBalances, IsFaithful, kept_from}
use Rattle.cdc_laws.specs.Line.{line, line_after}
use Rattle.cdc_log.specs.Log.{events_after}
use Rattle.cdc_match.specs.Arguments.{Arguments}
use Rattle.cdc_match.specs.Queue.{queue}
use Rattle.cdc_message.specs.declared.items.Delivery.{Delivery}
use Rattle.cdc_message.specs.declared.items.Item.{Item}
use Rattle.cdc_message.specs.Replays.{IsPrefix, IsReplay}
use Rattle.cdc_subscriber.specs.Book.{accounts_of, book_of}
use Rattle.cdc_subscriber.specs.Reception.{Reception, has_ended, kept_of, next}
use Rattle.cdc_types.specs.declared.events.Event.{Event}
use Rattle.cdc_types.specs.Timestamps.{last_timestamp}

-- each history that batches and a close make is sound, so that what follows holds of it
abbrev pub LegalHistoriesAreSound : Type 0
LegalHistoriesAreSound = (h : History) → IsLegal h → IsSound h

-- if a broker took a replay of what the ledger has to publish after the start, and a subscriber received a replay of
-- its queue, the subscriber is faithful: on either way items may have come late, again or not at all, and be cut off
-- anywhere
abbrev pub SubscribersOfReplaysAreFaithful : Type 0
SubscribersOfReplaysAreFaithful =
    (h : History) (start : ℕ) (binding : Arguments) (taken : List Item) (reception : Reception)
    → IsSound h → IsReplay taken (line_after h start) → IsReplay reception.items (queue taken binding)
    → IsFaithful h start binding reception

-- and its state, as its getters return it, is determined by what it has applied
abbrev pub SubscribersOfReplaysKeepWhatTheyApply : Type 0
SubscribersOfReplaysKeepWhatTheyApply = (h : History) (start : ℕ) (binding : Arguments) (taken : List Item)
    (reception : Reception)
    → IsSound h → IsReplay taken (line_after h start) → IsReplay reception.items (queue taken binding)
    → kept_of reception ≡ kept_from reception

-- one that received its whole queue of a closed ledger, in order, has ended and has applied its whole feed after the
-- start
abbrev pub WholeQueuesEnd : Type 0
WholeQueuesEnd = (h : History) (start : ℕ) (binding : Arguments) (reception : Reception) → IsSound h → h.closed ≡ true
    → reception.items ≡ queue (line_after h start) binding
    → (has_ended reception ≡ true) × IsFaithful h start binding reception

-- no event has timestamp 0, so what a ledger has to publish after 0 is all that it has to publish
abbrev pub AllIsAfterZero : Type 0
AllIsAfterZero = (h : History) → IsSound h → (events_after 0 (events h) ≡ events h) × (line_after h 0 ≡ line h)

-- the items received of deliveries of a queue that came late, again or not at all, and were cut off anywhere, are a
-- replay of the queue
abbrev pub DeliveriesAreReceivedAsReplays : Type 0
DeliveriesAreReceivedAsReplays = (items : List Item) (ds : List Delivery) (n : ℕ) → IsReplay ds (deliveries items)
    → IsReplay (items_in (take n ds)) items

-- nothing changes what a closed subscriber has received
abbrev pub ClosedSubscribersReceiveNothing : Type 0
ClosedSubscribersReceiveNothing =
    (reception : Reception) (item : Item) → reception.closed ≡ true → next reception item ≡ reception

-- the book of a prefix of a ledger's events has, for every number, the ledger's balances as of the last of these
abbrev pub BooksHoldBalances : Type 0
BooksHoldBalances = (h : History) (es : List Event) → IsSound h → IsPrefix es (events h) → HoldsBalances h es

-- and it has the accounts that these events have, in the order of their first appearance, and no other
abbrev pub BooksHaveTheirAccounts : Type 0
BooksHaveTheirAccounts = (h : History) (es : List Event) → IsSound h → IsPrefix es (events h)
    → book_of es ≡ map (λ id. record { id = id; balances = as_of h (last_timestamp es) id }) (accounts_of es)

-- if events before these were left out, up to the start, it has exactly the accounts of the ledger's events after the
-- start and up to the last of these, with the ledger's balances as of that
abbrev pub LateBooksHaveTheirAccounts : Type 0
LateBooksHaveTheirAccounts = (h : History) (start : ℕ) (es : List Event) → IsSound h
    → IsPrefix es (events_after start (events h)) → HoldsAccounts h start es
