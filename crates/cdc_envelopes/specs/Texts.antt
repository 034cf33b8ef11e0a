-- The line of an event in one of several queues.
use Rattle.std.specs.Prelude.{ℕ, List, ◌∷◌, codes}
use Rattle.cdc_types.specs.declared.events.Event.{Event}
use Rattle.cdc_message.specs.Bodies.{narrow_member, object_text}
use Rattle.cdc_queue_lines.specs.Lines.{message_members}

-- with the number of its queue in front
unfoldable pub numbered_line : ℕ → ℕ → Event → List ℕ
numbered_line queue previous event =
    object_text (narrow_member (codes "queue") queue ∷ message_members previous event)
