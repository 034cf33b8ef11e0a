use Rattle.std.proofs.Common.{◌≡◌, ◌++◌, take}
use Rattle.std.specs.Prelude.{string_bytes}
use Rattle.cdc_queue_lines.specs.Messages.{queues_text}
use Rattle.cdc_queue_lines.proofs.messages.push_queues.Given as goal

-- the first queues were added
abbrev pub invariant-loop-place : goal.invariant-loop-place
invariant-loop-place l = string_bytes l.text ≡ string_bytes l.fn.text ++ queues_text (take l.place l.queues)
