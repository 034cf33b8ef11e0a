-- What jobs come to.
use Rattle.std.specs.Prelude.{IfErr, IfOk, Result}
use Rattle.cdc_actors.specs.Stops.{StopState}

-- the outcome of a job: its end, or why it stopped before
pub record ComesTo {J End : Type 0} (ends_as : J → End → Type 0) (stops_as : J → StopState → Type 0) (job : J)
    (outcome : Result End StopState) : Type 0 where
  pub end : IfOk outcome (ends_as job)
  pub stop : IfErr outcome (stops_as job)
