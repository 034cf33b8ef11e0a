-- A step file while its lines are read.
use Rattle.std.specs.Prelude.{ℕ, List, ◌++◌, Result, Ok}
use Rattle.cdc_script.specs.declared.faults.ScriptFault.{ScriptFault}
use Rattle.cdc_script.specs.declared.step_files.Act.{Act}
use Rattle.cdc_script.specs.StepFiles.{acts_from}
use Rattle.cdc_script.specs.Faults.{◌>>=◌}
use Rattle.cdc_script.specs.Words.{Placed}

-- these acts, and those that further lines name, the first of which has this number
abbrev pub followed_by : List Act → ℕ → List Placed → Result (List Act) ScriptFault
followed_by acts n rest = acts_from n rest >>= λ more. Ok (acts ++ more)
