-- What is printed and saved so far. Cited by private contracts alone.
use Rattle.std.specs.Prelude.{◌≡◌, ℕ, ◌+◌, Bool, true, List, [], ◌∷◌, ◌++◌, Option, Some, Result, Ok, Err, IfSome, length, map}
use Rattle.std.specs.List.{AllByRecursion}
use Rattle.std.specs.Io.KnownBytes.{Appends}
use Rattle.cdc_frames.specs.Frames.{frames}
use Rattle.cdc_match.specs.Arguments.{Arguments}
use Rattle.cdc_output.specs.declared.faults.ProgramFault.{ProgramFault}
use Rattle.cdc_streams.specs.Keeping.{AddsTexts, last_text}
use Rattle.cdc_streams.specs.Saving.{PrintsPart}
use Rattle.cdc_streams.specs.declared.endings.StreamEnding.{StreamEnding}
use Rattle.cdc_streams.specs.declared.endings.StreamEnding.TheVariants.{Stopped, Failed}
use Rattle.cdc_chain.specs.declared.streams.ChainStop.{ChainStop}
use Rattle.cdc_chain.specs.Chains.{ChainState, Made, bytes_chained}
use Rattle.cdc_chain.specs.Lines.{lines_text}
use Rattle.cdc_chain_command.specs.Printing.{ChainsFirst, IsPart, IsPrinted}
use Rattle.cdc_chain_command.specs.Logs.{IsTextOf, log_name}
use Rattle.cdc_chain_command.specs.States.{state_text}
use Rattle.cdc_chain_command.specs.declared.chain_log.ChainLog.{ChainLog}

-- some of the pending text was written, and the rest is left; or a part of it, since a write failed
abbrev pub Writes : {T : Type 0} → Option (List ℕ) → Option (List ℕ) → List ℕ → List ℕ → Result T ProgramFault → Type 0
Writes old new before after (Ok done) = (text : List ℕ) × Appends old new text × (before ≡ text ++ after)
Writes old new before after (Err why) = PrintsPart old new before

-- a text was held after those that were held before, as far as these are known: a log whose last state is this one
abbrev pub Keeps : List (List ℕ) → Option (List (List ℕ)) → Option (List (List ℕ)) → ChainState → Type 0
Keeps names held holds state =
    IfSome held (λ before. (text : List ℕ) × (holds ≡ Some (before ++ text ∷ [])) × IsTextOf names text state)

-- all of the pending text was written, and this state was saved
abbrev pub SavesState : List (List ℕ) → Option (List ℕ) → Option (List ℕ) → List ℕ → List ℕ → Option (List (List ℕ))
    → Option (List (List ℕ)) → ChainState → Type 0
SavesState names old new before after held holds state =
    Appends old new before × (after ≡ []) × Keeps names held holds state

-- the last text that is held is a log with so many records after its first state
abbrev pub HasRecords : List (List ℕ) → Option (List (List ℕ)) → ℕ → Type 0
HasRecords names texts records = IfSome texts (λ held. (states : List ChainState)
    × (last_text held ≡ frames log_name 0 (map (state_text names) states)) × (length states ≡ records + 1))

-- so it is once a log has begun
abbrev pub FitsBy : Bool → List (List ℕ) → Option (List (List ℕ)) → ℕ → Type 0
FitsBy begun names texts records = begun ≡ true → HasRecords names texts records

abbrev pub FitsLog : {L : Type 0} → (L → Option (List (List ℕ))) → List (List ℕ) → ChainLog L → Type 0
FitsLog texts names it = FitsBy it.has_begun names (texts it.log.store) it.log.records

-- What was printed and saved so far, and what is pending: the stream has made what `Taken` holds of.
pub record HasRun (bindings : List Arguments) (names : List (List ℕ)) (start : ChainState) (bytes : List ℕ)
    (old : Option (List ℕ)) (held : Option (List (List ℕ))) (Taken : Made → Type 0) (now : Option (List ℕ))
    (pending : List ℕ) (holds : Option (List (List ℕ))) : Type 0 where
  pub made : Made
  pub taken : Taken made
  pub text : List ℕ
  pub printed : Appends old now text
  pub makes : text ++ pending ≡ lines_text made.lines
  pub states : List ChainState
  pub saved : AddsTexts (IsTextOf names) held holds states
  pub are : AllByRecursion (IsPrinted bindings start bytes text) states

-- the same after a failure: a part was printed
pub record HasFailed (bindings : List Arguments) (names : List (List ℕ)) (start : ChainState) (bytes : List ℕ)
    (old : Option (List ℕ)) (held : Option (List (List ℕ))) (now : Option (List ℕ))
    (holds : Option (List (List ℕ))) : Type 0 where
  pub text : List ℕ
  pub printed : Appends old now text
  pub states : List ChainState
  pub saved : AddsTexts (IsTextOf names) held holds states
  pub are : AllByRecursion (IsPrinted bindings start bytes text) states
  pub part : IsPart bindings start bytes text

-- a stream has made this where chaining stops, and some of its first lines have made all of it
abbrev pub AllTaken : List Arguments → ChainState → List ℕ → ChainState → ChainStop → Made → Type 0
AllTaken bindings start bytes state stop made =
    (bytes_chained bindings start bytes ≡ record { made = made; state = state; stop = stop })
    × ((before : ChainState) × ChainsFirst bindings start bytes made before)

-- the lines of a stream were taken up to where chaining stops, or a read failed; or the command failed
abbrev pub TakesLines : List Arguments → List (List ℕ) → ChainState → List ℕ → Option (List ℕ)
    → Option (List (List ℕ)) → Result (StreamEnding ChainStop) ProgramFault → ChainState → Option (List ℕ) → List ℕ
    → Option (List (List ℕ)) → Type 0
TakesLines bindings names start bytes old held (Ok (Stopped stop)) state now pending holds =
    HasRun bindings names start bytes old held (AllTaken bindings start bytes state stop) now pending holds
TakesLines bindings names start bytes old held (Ok (Failed why)) state now pending holds =
    HasRun bindings names start bytes old held (λ made. ChainsFirst bindings start bytes made state) now pending holds
TakesLines bindings names start bytes old held (Err why) state now pending holds =
    HasFailed bindings names start bytes old held now holds
