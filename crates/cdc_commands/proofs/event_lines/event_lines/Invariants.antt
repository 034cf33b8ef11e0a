use Rattle.cdc_commands.proofs.Terms.{flat_map, message_lines, string_bytes, take, ◌≡◌}
use Rattle.cdc_commands.proofs.event_lines.event_lines.Given as goal

abbrev pub invariant-loop-place : goal.invariant-loop-place
invariant-loop-place l = string_bytes l.text ≡ flat_map message_lines (take l.place l.log.events)
