-- What a subscriber keeps after one step, as a function of what it kept before and of what it takes.
use Rattle.std.specs.Prelude.{true, ◌+◌, min, nat_le, if◌then◌else◌, List, Result, Ok, Err}
use Rattle.cdc_types.specs.declared.events.Event.{Event}
use Rattle.cdc_types.specs.Widths.{max_64}
use Rattle.cdc_message.specs.declared.errors.DecodeError.{DecodeError}
use Rattle.cdc_message.specs.declared.items.Item.{Item}
use Rattle.cdc_message.specs.declared.items.Item.TheVariants as item
use Rattle.cdc_subscriber.specs.declared.book.BookEntry.{BookEntry}
use Rattle.cdc_subscriber.specs.Answers.{listens}
use Rattle.cdc_subscriber.specs.Book.{entry_of, put}
use Rattle.cdc_subscriber.specs.SubscriberState.{SubscriberState}

-- a book after one more event: its debited account is put, then its credited one
abbrev pub book_after : List BookEntry → Event → List BookEntry
book_after book e = put (entry_of e.credit_account) (put (entry_of e.debit_account) book)

-- one more event is applied; the count stays at 2^64-1
abbrev pub with_event : SubscriberState → Event → SubscriberState
with_event kept e = record kept {
  book = book_after kept.book e;
  last = e.timestamp;
  applied = min (kept.applied + 1) max_64;
}

-- an open subscriber takes an item: an event later than the last one is applied, any other event is a duplicate
abbrev pub taken : SubscriberState → Item → SubscriberState
taken kept (item.Event e) = if nat_le e.timestamp kept.last then kept else with_event kept e
taken kept item.EndMark = record kept { ended = true }

-- what a subscriber keeps after it takes an item: once it is closed or has the end, nothing changes
abbrev pub next_state : SubscriberState → Item → SubscriberState
next_state kept item = if listens kept then taken kept item else kept

-- the same for a body, of which this was read: a body that is no event changes nothing
abbrev pub next_state_read : SubscriberState → Result Event DecodeError → SubscriberState
next_state_read kept (Ok e) = next_state kept (item.Event e)
next_state_read kept (Err why) = kept
