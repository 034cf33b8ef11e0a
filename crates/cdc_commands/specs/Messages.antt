-- What `messages` prints: two lines for each event (TigerBeetle, Change Data Capture, headers and message body).
use Rattle.std.specs.Prelude.{ℕ, ◌/◌, List, ◌++◌, codes, decimal}
use Rattle.cdc_types.specs.declared.events.Event.{Event}
use Rattle.cdc_types.specs.declared.events.EventKind.{EventKind}
use Rattle.cdc_types.specs.declared.events.Headers.{Headers}
use Rattle.cdc_message.specs.Bodies.{body}
use Rattle.cdc_message.specs.Headers.{headers_of_event}
use Rattle.cdc_message.specs.Kinds.{kind_text}

-- the header of an event's kind
abbrev pub kind_header : EventKind → List ℕ
kind_header kind = codes "event_type=" ++ kind_text kind

-- a header that is a number: its name, with the equals sign, and its value
abbrev pub number_header : List ℕ → ℕ → List ℕ
number_header name value = name ++ decimal value

-- what a message is routed by, and its timestamp in seconds
abbrev pub headers_line : Headers → ℕ → List ℕ
headers_line headers seconds =
    kind_header headers.kind ++ (number_header (codes " ledger=") headers.ledger
    ++ (number_header (codes " transfer_code=") headers.transfer_code
    ++ (number_header (codes " debit_account_code=") headers.debit_account_code
    ++ (number_header (codes " credit_account_code=") headers.credit_account_code
    ++ (number_header (codes " timestamp=") seconds
    ++ codes "\n")))))

-- the whole seconds of an event's timestamp, which is in nanoseconds
abbrev pub seconds_of : Event → ℕ
seconds_of event = event.timestamp / 1000000000

-- the lines of an event: what its message is routed by, and then its body
abbrev pub message_lines : Event → List ℕ
message_lines event = headers_line (headers_of_event event) (seconds_of event) ++ (body event ++ codes "\n")
