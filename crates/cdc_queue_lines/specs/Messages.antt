-- The JSON lines of all messages, each with the queues that take it.
use Rattle.std.specs.Prelude.{ℕ, List, [], ◌∷◌, ◌++◌, codes, flat_map, map}
use Rattle.std.specs.List.{join_with_byte}
use Rattle.cdc_types.specs.declared.events.Event.{Event}
use Rattle.cdc_message.specs.Bodies.{body, in_quotes, member_text, narrow_member, object_text, wide_member}
use Rattle.cdc_message.specs.Headers.{headers_of_event}
use Rattle.cdc_match.specs.Arguments.{Arguments}
use Rattle.cdc_queue_lines.specs.declared.predecessors.Predecessor.{Predecessor}
use Rattle.cdc_queue_lines.specs.Lines.{ended, headers_text, seconds_of}
use Rattle.cdc_queue_lines.specs.Predecessors.{predecessors}

-- a queue that takes an event, and the timestamp of the event before it there
abbrev pub queue_text : Predecessor → List ℕ
queue_text p = object_text (narrow_member (codes "queue") p.queue ∷ wide_member (codes "previous") p.previous ∷ [])

-- these queues, with commas between them
abbrev pub queues_text : List Predecessor → List ℕ
queues_text queues = join_with_byte 44 (map queue_text queues)

-- the members of the line of an event that these queues take
abbrev pub queued_members : List Predecessor → Event → List (List ℕ)
queued_members queues event =
    member_text (codes "kind") (in_quotes (codes "message")) ∷
    member_text (codes "headers") (headers_text (headers_of_event event)) ∷
    narrow_member (codes "timestamp") (seconds_of event) ∷
    member_text (codes "queues") (codes "[" ++ queues_text queues ++ codes "]") ∷
    member_text (codes "body") (body event) ∷
    []

-- its line
unfoldable pub queued_line : List Predecessor → Event → List ℕ
queued_line queues event = object_text (queued_members queues event)

-- the lines of events after these ones, each with the queues of these bindings that take it
abbrev pub queued_lines : List Arguments → List Event → List Event → List (List ℕ)
queued_lines bindings before [] = []
queued_lines bindings before (event ∷ rest) =
    queued_line (predecessors 1 bindings before event) event ∷ queued_lines bindings (before ++ event ∷ []) rest

-- the text of the lines of all events
abbrev pub messages_text : List Arguments → List Event → List ℕ
messages_text bindings events = flat_map ended (queued_lines bindings [] events)
