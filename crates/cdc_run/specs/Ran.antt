-- How the run was made that a report is of.
use Rattle.std.specs.Prelude.{Bool, Option, List}
use Rattle.cdc_actor_work.specs.Packets.{packets_in}
use Rattle.cdc_connector_actor.specs.Connector.{IsUnplanned, RestartsAsPlanned, confirms_in}
use Rattle.cdc_links.specs.Links.{of_sender}
use Rattle.cdc_progress.specs.Records.{Saved}
use Rattle.cdc_progress.specs.Stores.{Risks}
use Rattle.cdc_run.specs.Made.{AreMade}
use Rattle.cdc_run.specs.Reports.{IsReportOf}
use Rattle.cdc_run.specs.Tasks.{AreLeft, places_of}
use Rattle.cdc_run.specs.declared.configs.Config.{Config}
use Rattle.cdc_run.specs.declared.ends.Ends.{Ends}
use Rattle.cdc_plans.specs.declared.faults.Faults.{Faults}
use Rattle.cdc_run.specs.declared.reports.Report.{Report}
use Rattle.cdc_types.specs.declared.batches.Batch.{Batch}

-- the report is of a run: its actors were made of this config and these faults, over a store that holds this, is honest
-- or not, and may refuse for these reasons; each has worked until it had finished, the clients through these scripts;
-- and the report is of what they left. The connector has restarted right after each publish packet that the faults
-- name, the last one included, and besides only after a session that lost a packet or a confirm. The type of the store
-- doesn't show in actors, so any will do
pub record RanFrom (config : Config) (faults : Faults) (held : Option Saved) (honest : Bool) (risks : Risks)
    (scripts : List (List Batch)) (report : Report) : Type 0 where
  pub made : Ends (Unit {0})
  pub are_made : AreMade config faults held honest risks made
  pub left : Ends (Unit {0})
  pub are_left : AreLeft (places_of made) scripts (places_of left)
  pub reported : IsReportOf left report
  pub restarted : RestartsAsPlanned faults.restart_after.items honest
      (confirms_in (of_sender 1 left.connector.work.inbox.received)) (packets_in left.connector.work.packets.sent)
  pub unplanned : IsUnplanned faults.restart_after.items (packets_in left.connector.work.packets.sent)
