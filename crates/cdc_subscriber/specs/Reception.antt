-- What a subscriber has received, and its state after that.
use Rattle.std.specs.Prelude.{Bool, true, false, ◌||◌, min, List, [], ◌∷◌, ◌++◌, length, if◌then◌else◌, Result, Ok, Err}
use Rattle.std.specs.List.{list_any}
use Rattle.cdc_types.specs.declared.events.Event.{Event}
use Rattle.cdc_types.specs.Timestamps.{last_timestamp}
use Rattle.cdc_types.specs.Widths.{max_64}
use Rattle.cdc_message.specs.declared.errors.DecodeError.{DecodeError}
use Rattle.cdc_message.specs.declared.items.Item.{Item}
use Rattle.cdc_message.specs.declared.items.Item.TheVariants as item
use Rattle.cdc_message.specs.Items.{events_of, rises}
use Rattle.cdc_subscriber.specs.Book.{book_of}
use Rattle.cdc_subscriber.specs.SubscriberState.{SubscriberState}

-- the items that a subscriber was handed while it was neither closed nor ended, in order, and whether it is closed
pub record Reception : Type 0 where
  pub items : List Item
  pub closed : Bool

-- a new subscriber has received nothing
abbrev pub nothing : Reception
nothing = record { items = []; closed = false }

-- an item is the end mark
abbrev pub is_end : Item → Bool
is_end (item.Event e) = false
is_end item.EndMark = true

-- the end mark was received
abbrev pub has_ended : Reception → Bool
has_ended reception = list_any is_end reception.items

-- what a subscriber has received after one more item was delivered to it
abbrev pub next : Reception → Item → Reception
next reception item =
    if reception.closed || has_ended reception then reception
    else record { items = reception.items ++ item ∷ []; closed = reception.closed }

-- the same after a body was delivered to it: a body that isn't an event isn't received
abbrev pub next_read : Reception → Result Event DecodeError → Reception
next_read reception (Ok e) = next reception (item.Event e)
next_read reception (Err why) = reception

-- what a subscriber has applied: the received events that are later than all before them
abbrev pub applied_of : Reception → List Event
applied_of reception = rises (events_of reception.items)

-- a subscriber's state after what it has received; its count saturates at 2^64-1
abbrev pub kept_of : Reception → SubscriberState
kept_of reception = record {
  book = book_of (applied_of reception);
  last = last_timestamp (applied_of reception);
  applied = min (length (applied_of reception)) max_64;
  ended = has_ended reception;
  closed = reception.closed;
}
