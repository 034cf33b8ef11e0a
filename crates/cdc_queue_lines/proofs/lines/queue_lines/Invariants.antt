use Rattle.std.proofs.Common.{◌≡◌, ◌++◌, drop}
use Rattle.std.specs.Prelude.{string_bytes}
use Rattle.cdc_queue_lines.specs.Lines.{queue_text}
use Rattle.cdc_queue_lines.proofs.LineTexts.{text_after}
use Rattle.cdc_queue_lines.proofs.lines.queue_lines.Given as goal

-- the text so far, and that of the events that are left, make the whole text
abbrev pub invariant-loop-place : goal.invariant-loop-place
invariant-loop-place l =
    string_bytes l.text ++ text_after l.binding l.previous (drop l.place l.log.events)
    ≡ queue_text l.binding l.log.events
