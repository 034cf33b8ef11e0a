-- How much is printed of a text: all of it, or the first so many bytes if the command fails.
use Rattle.std.specs.Prelude.{ℕ, List, take, Option, Result, Ok, Err}
use Rattle.std.specs.Io.KnownBytes.{Appends}
use Rattle.cdc_output.specs.declared.faults.ProgramFault.{ProgramFault}
use Rattle.cdc_streams.specs.Saving.{PrintsBy, PrintsFault, is_write_fault}
use Rattle.cdc_streams.specs.declared.endings.StreamEnding.{StreamEnding}
use Rattle.cdc_streams.specs.declared.endings.StreamEnding.TheVariants.{Stopped, Failed}

-- the first so many bytes of a text were printed, or a part of these if a write failed
abbrev pub PrintsFirst : ProgramFault → List ℕ → Option (List ℕ) → Option (List ℕ) → Type 0
PrintsFirst why text old new = (count : ℕ) × PrintsBy (is_write_fault why) old new (take count text)

-- a text was printed; or only the first so many bytes of it
abbrev pub PrintsFront : {T : Type 0} → List ℕ → Option (List ℕ) → Option (List ℕ) → Result T ProgramFault → Type 0
PrintsFront text old new (Ok done) = Appends old new text
PrintsFront text old new (Err why) = PrintsFirst why text old new

-- a text was printed; or the first so many bytes of it, and then a fault
abbrev pub PrintsExpected : {T : Type 0} → (ProgramFault → List ℕ → Type 0) → List ℕ → Option (List ℕ)
    → Option (List ℕ) → StreamEnding T → Type 0
PrintsExpected {T} fails text old new (Stopped stop) = Appends old new text
PrintsExpected {T} fails text old new (Failed why) =
    (count : ℕ) × (fault : ProgramFault) × PrintsFault {T = T} fails (take count text) old new fault (Failed why)
