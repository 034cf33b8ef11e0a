-- The JSON lines of what must come of a subscriber's deliveries: what the subscriber itself answers and keeps.
use Rattle.std.specs.Prelude.{ℕ, ◌+◌, List, [], ◌∷◌, ◌++◌, codes, map, Option, Some, None}
use Rattle.std.specs.List.{join_with_byte}
use Rattle.cdc_types.specs.declared.events.Event.{Event}
use Rattle.cdc_message.specs.declared.items.Item.{Item}
use Rattle.cdc_message.specs.declared.items.Item.TheVariants as item
use Rattle.cdc_message.specs.Bodies.{in_quotes, member_text, narrow_member, object_text, wide_member}
use Rattle.cdc_match.specs.Arguments.{Arguments}
use Rattle.cdc_match.specs.Queue.{feed}
use Rattle.cdc_subscriber.specs.declared.book.BookEntry.{BookEntry}
use Rattle.cdc_subscriber.specs.declared.subscriber.Taking.{Taking}
use Rattle.cdc_subscriber.specs.declared.subscriber.Taking.TheVariants.{Applied, Repeat, Ended, AfterClose}
use Rattle.cdc_subscriber.specs.Answers.{answer_to}
use Rattle.cdc_subscriber.specs.Book.{sides}
use Rattle.cdc_subscriber.specs.Reception.{Reception, kept_of, next as next_reception, nothing}
use Rattle.cdc_subscriber.specs.SubscriberState.{SubscriberState}
use Rattle.cdc_deliveries.specs.declared.arrivals.Arrival.{Arrival}
use Rattle.cdc_deliveries.specs.declared.feeds.Placed.{Placed}
use Rattle.cdc_deliveries.specs.DeliveryLines.{line_of}
use Rattle.cdc_deliveries.specs.Feeds.{placed}

abbrev pub result_text : Taking → List ℕ
result_text Applied = codes "applied"
result_text Repeat = codes "duplicate"
result_text Ended = codes "end"
result_text AfterClose = codes "closed"

-- the accounts that an answer to an item changes: those of an event that is applied
abbrev pub changed : Taking → Option Event → List BookEntry
changed Applied (Some event) = sides event
changed Applied None = []
changed Repeat event = []
changed Ended event = []
changed AfterClose event = []

-- an account with its balances
abbrev pub entry_text : BookEntry → List ℕ
entry_text entry = object_text (
    wide_member (codes "id") entry.id ∷
    wide_member (codes "debits_pending") entry.balances.debits_pending ∷
    wide_member (codes "debits_posted") entry.balances.debits_posted ∷
    wide_member (codes "credits_pending") entry.balances.credits_pending ∷
    wide_member (codes "credits_posted") entry.balances.credits_posted ∷
    [])

abbrev pub entries_text : List BookEntry → List ℕ
entries_text entries = codes "[" ++ join_with_byte 44 (map entry_text entries) ++ codes "]"

-- the line of a delivery of this number, with what the subscriber answers to it and keeps after it
unfoldable pub expected_line : ℕ → Taking → SubscriberState → Option Event → List ℕ
expected_line n answer kept event = object_text (
    member_text (codes "kind") (in_quotes (codes "expect")) ∷
    narrow_member (codes "delivery") n ∷
    member_text (codes "result") (in_quotes (result_text answer)) ∷
    narrow_member (codes "applied") kept.applied ∷
    wide_member (codes "last") kept.last ∷
    member_text (codes "accounts") (entries_text (changed answer event)) ∷
    [])

-- the item that is delivered
abbrev pub item_of : Option Event → Item
item_of (Some event) = item.Event event
item_of None = item.EndMark

-- the line of an item that is delivered to a subscriber which has received this
abbrev pub answer_line : ℕ → Reception → Placed → List ℕ
answer_line n reception place = expected_line n
    (answer_to (kept_of reception) (item_of place.event))
    (kept_of (next_reception reception (item_of place.event)))
    place.event

-- what it has received then
abbrev pub next_placed : Reception → Option Placed → Reception
next_placed reception (Some place) = next_reception reception (item_of place.event)
next_placed reception None = reception

-- the lines of deliveries over a feed, the first of which has this number
abbrev pub expected_from : ℕ → Reception → List Event → List Arrival → List ℕ
expected_from n reception fed [] = []
expected_from n reception fed (arrival ∷ rest) =
    line_of (answer_line n reception) (placed fed arrival.item)
    ++ expected_from (n + 1) (next_placed reception (placed fed arrival.item)) fed rest

-- the lines of what must come of the deliveries to a subscriber with this binding, of a ledger with these events
abbrev pub expected_text : Arguments → List Event → List Arrival → List ℕ
expected_text binding events arrived = expected_from 1 nothing (feed events binding) arrived
