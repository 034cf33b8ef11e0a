-- The numbers and names of the refusals of steps.
use Rattle.std.specs.Prelude.{ℕ, List, codes}
use Rattle.cdc_world.specs.declared.steps.StepError.{StepError}
use Rattle.cdc_world.specs.declared.steps.StepError.TheVariants.{NotEnabled, Refused, Store, SessionsExhausted, OutOfMemory, StartNotAllowed}

-- the refusal's number
abbrev pub step_error_number : StepError → ℕ
step_error_number NotEnabled = 1
step_error_number (Refused why) = 2
step_error_number (Store why) = 3
step_error_number SessionsExhausted = 4
step_error_number OutOfMemory = 5
step_error_number StartNotAllowed = 6

-- the refusal's name
abbrev pub step_error_name : StepError → List ℕ
step_error_name NotEnabled = codes "not_enabled"
step_error_name (Refused why) = codes "refused"
step_error_name (Store why) = codes "store"
step_error_name SessionsExhausted = codes "sessions_exhausted"
step_error_name OutOfMemory = codes "out_of_memory"
step_error_name StartNotAllowed = codes "start_not_allowed"
