-- What becomes of a reader, and why a text is none of those that are read.
use Rattle.std.specs.Prelude.{◌≡◌, ℕ, ◌<◌, ◌≤◌, Bool, nat_lt, List, ◌++◌, length, Option, Result, Err}
use Rattle.std.specs.Io.KnownBytes.{Consumes}
use Rattle.cdc_script.specs.declared.faults.ScriptError.{ScriptError}
use Rattle.cdc_script.specs.declared.faults.ScriptError.TheVariants as error
use Rattle.cdc_script.specs.declared.faults.ScriptFault.{ScriptFault}

-- a fault is the first one; out of memory is possible only if there is something to keep
abbrev pub IsFault : {A : Type 0} → ScriptError → Result A ScriptFault → Type 0 → Type 0
IsFault (error.Fault fault) read keeps = read ≡ Err fault
IsFault error.OutOfMemory read keeps = keeps

-- known bytes lose at most so many at their front
abbrev pub ConsumesAtMost : ℕ → Option (List ℕ) → Option (List ℕ) → Type 0
ConsumesAtMost most old new = (bytes : List ℕ) × (length bytes ≤ most) × Consumes old new bytes

-- known bytes lose at least one at their front
abbrev pub ConsumesSome : Option (List ℕ) → Option (List ℕ) → Type 0
ConsumesSome old new = (bytes : List ℕ) × (0 < length bytes) × Consumes old new bytes

-- a text gains the bytes that known bytes lose: at most so many, and whether there are any (for private contracts)
pub record AppendsPiece (some : Bool) (most : ℕ) (old new : Option (List ℕ)) (before after : List ℕ) : Type 0 where
  pub bytes : List ℕ
  pub any : some ≡ nat_lt 0 (length bytes)
  pub bound : length bytes ≤ most
  pub lost : Consumes old new bytes
  pub gained : after ≡ before ++ bytes
