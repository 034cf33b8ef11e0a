use Rattle.cdc_audit_state.proofs.Words.{flat_map, take, time_line, ◌++◌, ◌≡◌}
use Rattle.cdc_audit_state.proofs.printing.push_time_lines.Given as goal

abbrev pub invariant-loop-timestamp : goal.invariant-loop-timestamp
invariant-loop-timestamp l =
    l.text.items ≡ l.initial.text.items ++ flat_map time_line (take l.timestamp-index l.times)
