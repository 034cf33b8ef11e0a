-- The lines of queues: what `messages --queue` prints, with the number of the queue in front.
use Rattle.std.specs.Prelude.{ℕ, ◌+◌, List, [], ◌∷◌, codes, flat_map, map}
use Rattle.cdc_types.specs.declared.events.Event.{Event}
use Rattle.cdc_follow.specs.declared.entries.Content.{Content}
use Rattle.cdc_follow.specs.declared.entries.Content.TheVariants as content
use Rattle.cdc_message.specs.Bodies.{narrow_member, object_text}
use Rattle.cdc_queue_lines.specs.declared.predecessors.Predecessor.{Predecessor}
use Rattle.cdc_queue_lines.specs.Lines.{end_members, ended, message_members}

-- a line of a queue: the queue's number from 1, the timestamp of the event before it there, 0 if there is none, and its
-- event or the end
pub record QueueLine : Type 0 where
  pub queue : ℕ
  pub previous : ℕ
  pub content : Content

-- the members that the line has without the number
abbrev pub plain_members : ℕ → Content → List (List ℕ)
plain_members previous (content.Event e) = message_members previous e
plain_members previous content.End = end_members previous

-- the text without the number: the line of `messages --queue`
abbrev pub plain_text : QueueLine → List ℕ
plain_text line = object_text (plain_members line.previous line.content)

-- the text
unfoldable pub line_text : QueueLine → List ℕ
line_text line = object_text (narrow_member (codes "queue") line.queue ∷ plain_members line.previous line.content)

-- the text of lines, each with a line feed
abbrev pub lines_text : List QueueLine → List ℕ
lines_text lines = flat_map (λ line. ended (line_text line)) lines

-- the line of an event in a queue that takes it
abbrev pub event_line : Event → Predecessor → QueueLine
event_line e queue = record { queue = queue.queue; previous = queue.previous; content = content.Event e }

-- the lines of an event in the queues that take it
abbrev pub event_lines : Event → List Predecessor → List QueueLine
event_lines e queues = map (event_line e) queues

-- the line of the end of a queue whose last event has this timestamp
abbrev pub end_line : ℕ → ℕ → QueueLine
end_line queue place = record { queue = queue; previous = place; content = content.End }

-- the lines of the ends of queues whose last events have these timestamps; the first one has this number
abbrev pub end_lines : ℕ → List ℕ → List QueueLine
end_lines queue [] = []
end_lines queue (place ∷ others) = end_line queue place ∷ end_lines (queue + 1) others
