use Rattle.std.proofs.Common.{◌++◌}
use Rattle.std.specs.Prelude.{string_bytes}
use Rattle.cdc_chain.specs.Lines.{event_lines, lines_text}
use Rattle.cdc_chain.proofs.TextLemmas.{WithRest}
use Rattle.cdc_chain.proofs.lines.push_messages.Given as goal

-- the text so far, and the lines of the queues that are left, make the whole text
abbrev pub invariant-loop-queue : goal.invariant-loop-queue
invariant-loop-queue l =
    WithRest (event_lines l.message) l.queues l.queue-index (string_bytes l.text)
    (string_bytes l.fn.text ++ lines_text (event_lines l.message l.queues))
