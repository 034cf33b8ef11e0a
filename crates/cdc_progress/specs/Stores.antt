-- What a store may answer.
use Rattle.std.specs.Prelude.{◌≡◌, ◌⊎◌, ℕ, ◌<◌, Bool, false, IsTrue, Option, Some, None, Result, Ok, Err, List}
use Rattle.cdc_types.specs.Widths.{max_64}
use Rattle.cdc_progress.specs.Records.{Fits, IsTextOf, Saved}
use Rattle.cdc_files.specs.declared.errors.StoreError.{StoreError}
use Rattle.cdc_files.specs.declared.errors.StoreError.TheVariants.{ReadFault, WriteFault, BadRecord, OutOfMemory}

-- what calls make of a store: whether it is honest; what it holds, before and after; and how often a read or a write
-- had failed before, and has failed after
pub record StoreChange : Type 0 where
  pub honest : Bool
  pub before : Option Saved
  pub after : Option Saved
  pub failed_before : ℕ
  pub failed_after : ℕ

-- what may befall the calls of a store: that memory runs out; and that one can't read, can't write or finds no record
pub record Risks : Type 0 where
  pub memory : Bool
  pub faults : Bool

-- neither of them
abbrev pub no_risks : Risks
no_risks = record { memory = false; faults = false }

-- a store of these risks may refuse a load or a save like this
abbrev pub IsRisked : Risks → StoreError → Type 0
IsRisked risks ReadFault = IsTrue risks.faults
IsRisked risks WriteFault = IsTrue risks.faults
IsRisked risks BadRecord = IsTrue risks.faults
IsRisked risks OutOfMemory = IsTrue risks.memory

-- a failure was counted: the count rose, or stays at the greatest that there is
abbrev pub IsCounted : ℕ → ℕ → Type 0
IsCounted before after = (before < after) ⊎ ((before ≡ max_64) × (after ≡ max_64))

-- a load may be refused with this error if the count of failures goes from `before` to `after`: only a read fault is
-- counted
abbrev pub MayRefuseLoad : ℕ → ℕ → StoreError → Type 0
MayRefuseLoad before after ReadFault = IsCounted before after
MayRefuseLoad before after WriteFault = ⊥
MayRefuseLoad before after BadRecord = after ≡ before
MayRefuseLoad before after OutOfMemory = after ≡ before

-- a save may be refused with this error if the count of failures goes from `before` to `after`: only a write fault is
-- counted
abbrev pub MayRefuseSave : ℕ → ℕ → StoreError → Type 0
MayRefuseSave before after ReadFault = ⊥
MayRefuseSave before after WriteFault = IsCounted before after
MayRefuseSave before after BadRecord = ⊥
MayRefuseSave before after OutOfMemory = after ≡ before

-- what a store knows of its file once it was read with this result: the record, if there is one
abbrev pub known_of : Result (Option Saved) StoreError → Option Saved
known_of (Ok known) = known
known_of (Err error) = None

-- why the file couldn't be read as a record, if it couldn't
abbrev pub unread_of : Result (Option Saved) StoreError → Option StoreError
unread_of (Ok known) = None
unread_of (Err error) = Some error

-- what a file can be found to be in place of a record
abbrev pub IsLoadFault : StoreError → Type 0
IsLoadFault error = (error ≡ ReadFault) ⊎ (error ≡ BadRecord)

-- the bytes of a whole file are read as this: as the record whose text they are, or as no record if they are none
abbrev pub ReadsAs : List ℕ → Result Saved StoreError → Type 0
ReadsAs bytes (Ok saved) = IsTextOf saved bytes
ReadsAs bytes (Err BadRecord) = (saved : Saved) → Fits saved → IsTextOf saved bytes → ⊥
ReadsAs bytes (Err ReadFault) = Unit {0}
ReadsAs bytes (Err WriteFault) = Unit {0}
ReadsAs bytes (Err OutOfMemory) = Unit {0}
