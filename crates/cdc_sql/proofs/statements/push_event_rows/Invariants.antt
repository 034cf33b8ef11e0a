use Rattle.std.proofs.Common.{◌++◌}
use Rattle.cdc_sql.specs.Statements.{event_end, event_text, lead_text, list_text}
use Rattle.cdc_sql.proofs.RowsLemmas.{IsRest}
use Rattle.cdc_sql.proofs.statements.push_event_rows.Given as goal

-- the other events are to be added
abbrev pub invariant-events : goal.invariant-events
invariant-events l =
    let lead = lead_text l.head event_end in
    IsRest lead event_text l.events l.text.items l.place
    (l.initial.text.items ++ list_text lead event_text 0 l.events)
