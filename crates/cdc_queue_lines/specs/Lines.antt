-- The JSON lines of a queue: one for each of its events, and then that of its end.
use Rattle.std.specs.Prelude.{ℕ, ◌/◌, List, [], ◌∷◌, ◌++◌, codes, flat_map}
use Rattle.cdc_types.specs.declared.events.Event.{Event}
use Rattle.cdc_types.specs.declared.events.Headers.{Headers}
use Rattle.cdc_message.specs.Bodies.{body, in_quotes, member_text, narrow_member, object_text, wide_member}
use Rattle.cdc_message.specs.Headers.{headers_of_event}
use Rattle.cdc_message.specs.Kinds.{kind_text}
use Rattle.cdc_match.specs.Arguments.{Arguments}
use Rattle.cdc_match.specs.Queue.{feed}

-- the routing headers of a message
abbrev pub header_members : Headers → List (List ℕ)
header_members headers =
    member_text (codes "event_type") (in_quotes (kind_text headers.kind)) ∷
    narrow_member (codes "ledger") headers.ledger ∷
    narrow_member (codes "transfer_code") headers.transfer_code ∷
    narrow_member (codes "debit_account_code") headers.debit_account_code ∷
    narrow_member (codes "credit_account_code") headers.credit_account_code ∷
    []

abbrev pub headers_text : Headers → List ℕ
headers_text headers = object_text (header_members headers)

-- the whole seconds of an event's timestamp, which is in nanoseconds
abbrev pub seconds_of : Event → ℕ
seconds_of event = event.timestamp / 1000000000

-- the members of the line of an event, the one before which in the queue has this timestamp
abbrev pub message_members : ℕ → Event → List (List ℕ)
message_members previous event =
    member_text (codes "kind") (in_quotes (codes "message")) ∷
    wide_member (codes "previous") previous ∷
    member_text (codes "headers") (headers_text (headers_of_event event)) ∷
    narrow_member (codes "timestamp") (seconds_of event) ∷
    member_text (codes "body") (body event) ∷
    []

-- the line of an event
unfoldable pub message_line : ℕ → Event → List ℕ
message_line previous event = object_text (message_members previous event)

-- the members of the line of a queue's end, whose last event has this timestamp
abbrev pub end_members : ℕ → List (List ℕ)
end_members previous =
    member_text (codes "kind") (in_quotes (codes "end")) ∷
    wide_member (codes "previous") previous ∷
    member_text (codes "end") (codes "true") ∷
    []

-- the line of a queue's end
unfoldable pub end_line : ℕ → List ℕ
end_line previous = object_text (end_members previous)

-- the lines of events that follow one with this timestamp, and of the end
abbrev pub lines_after : ℕ → List Event → List (List ℕ)
lines_after previous [] = end_line previous ∷ []
lines_after previous (event ∷ rest) = message_line previous event ∷ lines_after event.timestamp rest

-- the lines of a binding's queue
abbrev pub lines_of_queue : Arguments → List Event → List (List ℕ)
lines_of_queue binding events = lines_after 0 (feed events binding)

-- a line, and a line feed
abbrev pub ended : List ℕ → List ℕ
ended line = line ++ codes "\n"

-- the text of the lines of a binding's queue
abbrev pub queue_text : Arguments → List Event → List ℕ
queue_text binding events = flat_map ended (lines_of_queue binding events)
