-- A client actor with the script that it is to submit.
use Rattle.std.specs.Prelude.{List}
use Rattle.cdc_ledger_actors.specs.Client.{ClientCore}
use Rattle.cdc_actors.specs.Ends.{ActorState}
use Rattle.cdc_types.specs.declared.batches.Batch.{Batch}

pub record ScriptedState : Type 0 where
  pub end : ActorState ClientCore
  pub script : List Batch
