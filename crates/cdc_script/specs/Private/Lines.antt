-- Why a line wasn't read.
use Rattle.std.specs.Prelude.{◌≡◌, Result, Err}
use Rattle.cdc_script.specs.declared.faults.LineError.{LineError}
use Rattle.cdc_script.specs.declared.faults.LineError.TheVariants as line
use Rattle.cdc_script.specs.declared.faults.LineFault.{LineFault}

-- a fault is the line's first one; out of memory doesn't depend on the line
abbrev pub IsLineFault : {A : Type 0} → LineError → Result A LineFault → Type 0
IsLineFault (line.Fault fault) read = read ≡ Err fault
IsLineFault line.OutOfMemory read = Unit {0}
