-- What a subscriber answers to what it is handed.
use Rattle.std.specs.Prelude.{◌≡◌, ◌⊎◌, ℕ, Bool, true, false, ◌&&◌, IsTrue, if◌then◌else◌, nat_le, Option, None, Some, is_none, unwrap_or, ok_or, Result, Ok, Err}
use Rattle.cdc_types.specs.declared.events.Event.{Event}
use Rattle.cdc_message.specs.declared.errors.DecodeError.{DecodeError}
use Rattle.cdc_message.specs.declared.items.Item.{Item}
use Rattle.cdc_message.specs.declared.items.Item.TheVariants as item
use Rattle.cdc_subscriber.specs.declared.errors.TakeError.{TakeError}
use Rattle.cdc_subscriber.specs.declared.errors.TakeError.TheVariants.{Decode, OutOfMemory}
use Rattle.cdc_subscriber.specs.declared.subscriber.Taking.{Taking}
use Rattle.cdc_subscriber.specs.declared.subscriber.Taking.TheVariants.{Applied, Repeat, Ended, AfterClose}
use Rattle.cdc_subscriber.specs.SubscriberState.{SubscriberState}

-- the answer to anything once the subscriber is closed or has received the end mark; closed takes precedence
abbrev pub settled_answer : SubscriberState → Option Taking
settled_answer kept = if kept.closed then Some AfterClose else (if kept.ended then Some Repeat else None)

-- the answer to an event that is received after events up to this timestamp were applied
abbrev pub event_answer : ℕ → Event → Taking
event_answer last e = if nat_le e.timestamp last then Repeat else Applied

-- the answer to an item that is received
abbrev pub received_answer : ℕ → Item → Taking
received_answer last (item.Event e) = event_answer last e
received_answer last item.EndMark = Ended

-- the answer to an item
abbrev pub answer_to : SubscriberState → Item → Taking
answer_to kept item = unwrap_or (settled_answer kept) (received_answer kept.last item)

-- the answer to a body, of which this was read
abbrev pub body_answer : SubscriberState → Result Event DecodeError → Result Taking TakeError
body_answer kept (Ok e) = Ok (answer_to kept (item.Event e))
body_answer kept (Err why) = ok_or (settled_answer kept) (Decode why)

-- the answer is the expected one or, if the subscriber has something to read, out of memory
abbrev pub GivesOrIsOutOfMemory : Bool → Result Taking TakeError → Result Taking TakeError → Type 0
GivesOrIsOutOfMemory reads expected answer = (answer ≡ expected) ⊎ (IsTrue reads × (answer ≡ Err OutOfMemory))

-- the subscriber is neither closed nor ended
abbrev pub listens : SubscriberState → Bool
listens kept = is_none (settled_answer kept)

-- an item has a body, which is to be read
abbrev pub has_body : Item → Bool
has_body (item.Event e) = true
has_body item.EndMark = false

-- the possible answers to an item: only receiving an event needs memory
abbrev pub TakesItem : SubscriberState → Item → Result Taking TakeError → Type 0
TakesItem kept item = GivesOrIsOutOfMemory (listens kept && has_body item) (Ok (answer_to kept item))

-- the possible answers to a body that decodes as `read`: only receiving it needs memory
abbrev pub TakesBody : SubscriberState → Result Event DecodeError → Result Taking TakeError → Type 0
TakesBody kept read = GivesOrIsOutOfMemory (listens kept) (body_answer kept read)
