-- How a command over a stream ends if it fails: the exit status.
use Rattle.std.specs.Prelude.{ℕ}
use Rattle.cdc_files.specs.declared.errors.StoreError.TheVariants.{BadRecord}
use Rattle.cdc_output.specs.declared.faults.ProgramFault.{ProgramFault}
use Rattle.cdc_output.specs.declared.faults.ProgramFault.TheVariants.{Store}

-- the exit status of a command that failed: 2 if what its store holds isn't what was asked for, which stays so when the
-- command is started again; 1 otherwise, since the failure may pass
abbrev pub failed_status : ProgramFault → ℕ
failed_status (Store BadRecord) = 2
failed_status why = 1
