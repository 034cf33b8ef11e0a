-- Saving what takes a stream now and then, and what the command prints.
use Rattle.std.specs.Prelude.{◌≡◌, ◌⊎◌, ◌&&◌, ◌||◌, nat_le, nat_lt, ℕ, ◌≤◌, Bool, true, false, if◌then◌else◌, List, []}
use Rattle.std.specs.Prelude.{◌∷◌, ◌++◌, take, Option, Some, None, IfSome, Result, Ok, Err, IfOk}
use Rattle.std.specs.List.{flat_map}
use Rattle.std.specs.Io.KnownBytes.{Appends}
use Rattle.cdc_output.specs.declared.faults.ProgramFault.{ProgramFault}
use Rattle.cdc_output.specs.declared.faults.ProgramFault.TheVariants.{WriteFault}
use Rattle.cdc_streams.specs.Keeping.{HasKept}
use Rattle.cdc_streams.specs.declared.endings.StreamEnding.{StreamEnding}
use Rattle.cdc_streams.specs.declared.endings.StreamEnding.TheVariants.{Stopped, Failed}

-- it is the fault of a write of the output
abbrev pub is_write_fault : ProgramFault → Bool
is_write_fault (WriteFault error) = true
is_write_fault why = false

-- a text was printed, or a part of it
abbrev pub PrintsPart : Option (List ℕ) → Option (List ℕ) → List ℕ → Type 0
PrintsPart old new text = (n : ℕ) × Appends old new (take n text)

-- a text was printed; if a write failed, a part of it
abbrev pub PrintsBy : Bool → Option (List ℕ) → Option (List ℕ) → List ℕ → Type 0
PrintsBy true old new text = PrintsPart old new text
PrintsBy false old new text = Appends old new text

-- the same by how it ended
abbrev pub PrintsAll : {T : Type 0} → Option (List ℕ) → Option (List ℕ) → List ℕ → Result T ProgramFault → Type 0
PrintsAll old new text (Ok done) = Appends old new text
PrintsAll old new text (Err why) = PrintsBy (is_write_fault why) old new text

-- a save is due: so many lines were taken since the last save, or some were and no whole line has come yet
abbrev pub is_due : ℕ → ℕ → Bool → Bool
is_due every unsaved waits = nat_le every unsaved || (waits && nat_lt 0 unsaved)

-- what is printed of a save of this, if there is a store
abbrev pub save_text : {S : Type 0} → (S → List ℕ) → Bool → S → List ℕ
save_text prints kept state = if kept then prints state else []

-- a save that fails because a write does, or for another reason
abbrev pub SaveFails : {S : Type 0} → Bool → (List S → Type 0) → Option (List ℕ) → Option (List ℕ) → S → List ℕ → Type 0
SaveFails true Keeps old new state line = Keeps (state ∷ []) × PrintsPart old new line
SaveFails false Keeps old new state line = Keeps [] × Appends old new []

-- What a save does. The state is kept, and the line is printed, or a part of it if that fails; or the state isn't kept,
-- and nothing is printed.
abbrev pub SavesOne : {S T : Type 0} → (List S → Type 0) → Option (List ℕ) → Option (List ℕ) → S → List ℕ
    → Result T ProgramFault → Type 0
SavesOne Keeps old new state line (Ok done) = Keeps (state ∷ []) × Appends old new line
SavesOne Keeps old new state line (Err why) = SaveFails (is_write_fault why) Keeps old new state line

-- these stand for the first entries of a stream, one after another: the first for this many or more, each later one for
-- as many as the one before it or more
abbrev pub StandInOrder : {S : Type 0} → (ℕ → S → Type 0) → ℕ → List S → Type 0
StandInOrder Stands from [] = Unit {0}
StandInOrder Stands from (state ∷ later) =
    (count : ℕ) × (from ≤ count) × Stands count state × StandInOrder Stands count later

-- the last of these is this one
abbrev pub EndWith : {S : Type 0} → List S → S → Type 0
EndWith states final = (before : List _) × (states ≡ before ++ (final ∷ []))

-- what is printed of the saves of these, one after another, if there is a store
abbrev pub saves_text : {S : Type 0} → (S → List ℕ) → Bool → List S → List ℕ
saves_text prints false states = []
saves_text prints true states = flat_map prints states

-- These were saved while a stream was taken: they are what its first entries make, one after another, and the store was
-- given them and held each of them.
pub record AreSaved {K S : Type 0} (Stands : List ℕ → ℕ → S → Type 0) (Kept : K → K → List S → Type 0)
    (known : Option (List ℕ)) (old new : Option K) (states : List S) : Type 0 where
  pub stand : IfSome known (λ bytes. StandInOrder (Stands bytes) 0 states)
  pub kept : HasKept Kept old new states

-- Some were saved, of which these lines were printed, or a part of the lines if a write failed; if taking stopped, the
-- last one is this one.
abbrev pub PrintsSaves : {S T : Type 0} → (List S → Type 0) → (List S → List ℕ) → Option (List ℕ) → Option (List ℕ) → S
    → Result T ProgramFault → Type 0
PrintsSaves Saved lines old new final result =
    (states : List _) × Saved states × PrintsAll old new (lines states) result
    × IfOk result (λ stop. EndWith states final)

-- if taking stopped, this holds of why
abbrev pub IfStopped : {T : Type 0} → StreamEnding T → (T → Type 0) → Type 0
IfStopped (Stopped stop) Holds = Holds stop
IfStopped (Failed fault) Holds = Unit {0}

-- a command ended because a write failed
abbrev pub ends_by_write : {T : Type 0} → StreamEnding T → Bool
ends_by_write (Stopped stop) = false
ends_by_write (Failed why) = is_write_fault why

-- a text was printed last, and the command ended as it was to end; or a part of it, since a write failed
abbrev pub PrintsLast : {T : Type 0} → Option (List ℕ) → Option (List ℕ) → List ℕ → StreamEnding T → StreamEnding T
    → Type 0
PrintsLast old new text wanted ending =
    ((ending ≡ wanted) × Appends old new text) ⊎ ((ends_by_write ending ≡ true) × PrintsPart old new text)

-- after a text the line of a fault was printed last; or only the text, or a part of it, since a write failed
abbrev pub PrintsFault : {T : Type 0} → (ProgramFault → List ℕ → Type 0) → List ℕ → Option (List ℕ) → Option (List ℕ)
    → ProgramFault → StreamEnding T → Type 0
PrintsFault prints text old new fault ending =
    ((line : List ℕ) × prints fault line × PrintsLast old new (text ++ line) (Failed fault) ending)
    ⊎ ((ends_by_write ending ≡ true) × PrintsPart old new text)

-- After a text, the end was printed last, and why taking stopped; or a fault.
abbrev pub PrintsEnd : {S T : Type 0} → (S → T → List ℕ) → (ProgramFault → List ℕ → Type 0) → List ℕ → Option (List ℕ)
    → Option (List ℕ) → S → StreamEnding T → Type 0
PrintsEnd {S} {T} prints fails text old new state ending =
    ((stop : T) × PrintsLast old new (text ++ prints state stop) (Stopped stop) ending)
    ⊎ ((fault : ProgramFault) × PrintsFault fails text old new fault ending)

-- All that is printed: the lines of what was saved, the last one of this if taking stopped; and then the end or a
-- fault.
abbrev pub PrintsStream : {S T : Type 0} → (List S → Type 0) → (List S → List ℕ) → (S → T → List ℕ)
    → (ProgramFault → List ℕ → Type 0) → Option (List ℕ) → Option (List ℕ) → S → StreamEnding T → Type 0
PrintsStream Saved lines prints fails old new state ending =
    (states : List _) × Saved states × IfStopped ending (λ stop. EndWith states state)
    × PrintsEnd prints fails (lines states) old new state ending
