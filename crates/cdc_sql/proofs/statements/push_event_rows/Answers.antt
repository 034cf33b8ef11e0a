use Rattle.std.proofs.Common.{◌+◌, ◌++◌, ◌≡◌, arith, suc, subst, sym}
use Rattle.cdc_sql.specs.Statements.{event_end, event_text, lead_text, list_text}
use Rattle.cdc_sql.proofs.RowsLemmas.{IsRest, none_added, row_added}
use Rattle.cdc_sql.proofs.statements.push_event_rows.Goals as goal
use Rattle.cdc_sql.proofs.statements.push_event_rows.Goals.{in-Some+in_ok-push_lead+in_ok-push_event, in_default}

pub events-preserved : goal.events-preserved
events-preserved c =
    let lead = lead_text c.args.head.now event_end in
    let items = c.args.events.now in
    let place = c.events.place in
    let whole = c.args.text.now.items ++ list_text lead event_text 0 items in
    let next : suc place ≡ place + 1 = omega arith in
    elim c.match-event_at.branch [
      | in-Some+in_ok-push_lead+in_ok-push_event w ↦
          rw w.text-is
          (subst (λ n. IsRest lead event_text items w.push_event.new.text.items n whole) next
          (row_added lead event_text items place w.in-Some.event c.events.text.items
          w.push_lead.new.text.items w.push_event.new.text.items whole (sym w.in-Some.ensures) c.events.invariant
          w.in_ok-push_lead.ensures w.in_ok-push_event.ensures))
      | in_default w ↦
          rw w.text-is
          (subst (λ n. IsRest lead event_text items c.events.text.items n whole) next
          (none_added lead event_text items place c.events.text.items whole (sym w.in_default.ensures)
          c.events.invariant))
    ]
