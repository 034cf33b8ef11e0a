-- What an observer of a simulation sees.
use Rattle.std.specs.Prelude.{Option}
use Rattle.cdc_ledger.specs.History.{History}
use Rattle.cdc_types.specs.declared.steps.Step.{Step}
use Rattle.cdc_world.specs.declared.moved.Moved.{Moved}
use Rattle.cdc_world.specs.declared.steps.Did.{Did}

-- a step that was done: what it did, what it moved, and the ledger's history after it
pub record Seen : Type 0 where
  pub step : Step
  pub did : Did
  pub moved : Option Moved
  pub history : History
