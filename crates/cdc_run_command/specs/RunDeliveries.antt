-- What `run --deliveries` prints of a run.
use Rattle.std.specs.Prelude.{◌≡◌, ℕ, ◌-◌, List, Some}
use Rattle.std.specs.List.{slice_get}
use Rattle.cdc_ledger.specs.Events.{events}
use Rattle.cdc_match.specs.Arguments.{Arguments}
use Rattle.cdc_run.specs.Arrival.{Arrival as Received}
use Rattle.cdc_run.specs.Reports.{deliveries_of}
use Rattle.cdc_run.specs.declared.reports.Report.{Report}
use Rattle.cdc_commands.specs.QueuePrinted.{binding_at}
use Rattle.cdc_deliveries.specs.Deliver.{asked_text}
use Rattle.cdc_deliveries.specs.declared.asked.Asked.{Asked}
use Rattle.cdc_run_command.specs.Arrived.{arrived}

-- this is printed of a report on a run with these bindings: the lines of what the subscriber that is asked for was
-- delivered, or of what must come of it
pub record PrintsDeliveries (asked : Asked) (bindings : List Arguments) (report : Report) (printed : List ℕ)
    : Type 0 where
  pub binding : Arguments
  pub binds : binding_at bindings asked.subscriber ≡ Some binding
  pub received : List Received
  pub receives : slice_get (deliveries_of report) (asked.subscriber - 1) ≡ Some received
  pub prints : printed ≡ asked_text asked.expects binding (events report.ledger) (arrived received)
