use Rattle.std.proofs.Common.{◌≡◌, ◌++◌, drop, take}
use Rattle.std.specs.Prelude.{string_bytes}
use Rattle.cdc_queue_lines.specs.Messages.{messages_text}
use Rattle.cdc_queue_lines.specs.Predecessors.{last_timestamps}
use Rattle.cdc_queue_lines.proofs.MessageTexts.{text_of}
use Rattle.cdc_queue_lines.proofs.messages.push_messages.Given as goal

-- the text so far, and that of the events that are left, make the whole text; the timestamps are those of the events so
-- far
abbrev pub invariant-loop-place : goal.invariant-loop-place
invariant-loop-place l =
    (string_bytes l.text ++ text_of l.bindings (take l.place l.log.events) (drop l.place l.log.events)
    ≡ string_bytes l.fn.text ++ messages_text l.bindings l.log.events)
    × (l.predecessors.last ≡ last_timestamps l.bindings (take l.place l.log.events))
