-- The JSON lines of a subscriber's deliveries, numbered from 1.
use Rattle.std.specs.Prelude.{ℕ, ◌+◌, Bool, List, [], ◌∷◌, ◌++◌, codes, if◌then◌else◌, Option, Some, None}
use Rattle.cdc_types.specs.declared.events.Event.{Event}
use Rattle.cdc_message.specs.Bodies.{body, in_quotes, member_text, narrow_member, object_text, wide_member}
use Rattle.cdc_message.specs.Headers.{headers_of_event}
use Rattle.cdc_match.specs.Arguments.{Arguments}
use Rattle.cdc_match.specs.Queue.{feed}
use Rattle.cdc_queue_lines.specs.Lines.{ended, headers_text, seconds_of}
use Rattle.cdc_deliveries.specs.declared.arrivals.Arrival.{Arrival}
use Rattle.cdc_deliveries.specs.declared.feeds.Placed.{Placed}
use Rattle.cdc_deliveries.specs.Feeds.{placed}

abbrev pub flag_text : Bool → List ℕ
flag_text flag = if flag then codes "true" else codes "false"

-- what a message has of its event, or that no further event comes
abbrev pub content_members : Option Event → List (List ℕ)
content_members (Some event) =
    member_text (codes "headers") (headers_text (headers_of_event event)) ∷
    narrow_member (codes "timestamp") (seconds_of event) ∷
    member_text (codes "body") (body event) ∷
    []
content_members None = member_text (codes "end") (codes "true") ∷ []

-- the line of the delivery of this number
unfoldable pub delivery_line : ℕ → Arrival → Placed → List ℕ
delivery_line n arrival place = object_text (
    member_text (codes "kind") (in_quotes (codes "delivery")) ∷
    narrow_member (codes "delivery") n ∷
    narrow_member (codes "position") arrival.position ∷
    member_text (codes "redelivered") (flag_text arrival.redelivered) ∷
    wide_member (codes "previous") place.previous ∷
    content_members place.event)

-- the line of an item that is found, and a line feed
abbrev pub line_of : (Placed → List ℕ) → Option Placed → List ℕ
line_of line (Some place) = ended (line place)
line_of line None = []

-- the lines of deliveries over a feed, the first of which has this number
abbrev pub deliveries_from : ℕ → List Event → List Arrival → List ℕ
deliveries_from n fed [] = []
deliveries_from n fed (arrival ∷ rest) =
    line_of (delivery_line n arrival) (placed fed arrival.item) ++ deliveries_from (n + 1) fed rest

-- the lines of the deliveries to a subscriber with this binding, of a ledger with these events
abbrev pub delivery_text : Arguments → List Event → List Arrival → List ℕ
delivery_text binding events arrived = deliveries_from 1 (feed events binding) arrived
