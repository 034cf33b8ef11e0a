-- What the command prints and saves.
use Rattle.std.specs.Prelude.{◌≡◌, ℕ, List, [], ◌∷◌, ◌++◌, Option, take}
use Rattle.std.specs.List.{AllByRecursion}
use Rattle.std.specs.Io.KnownBytes.{Appends}
use Rattle.cdc_match.specs.Arguments.{Arguments}
use Rattle.cdc_follow.specs.Lines.{lines_of}
use Rattle.cdc_streams.specs.Keeping.{AddsTexts}
use Rattle.cdc_streams.specs.declared.endings.StreamEnding.{StreamEnding}
use Rattle.cdc_streams.specs.declared.endings.StreamEnding.TheVariants.{Stopped, Failed}
use Rattle.cdc_chain.specs.declared.streams.ChainStop.{ChainStop}
use Rattle.cdc_chain.specs.declared.streams.ChainStop.TheVariants.{AtEnd}
use Rattle.cdc_chain.specs.Chains.{ChainState, Made, bytes_chained, chain}
use Rattle.cdc_chain.specs.Lines.{lines_text}
use Rattle.cdc_chain_command.specs.Logs.{IsTextOf}

-- some of the first lines of a stream were chained, and came to this
pub record ChainsFirst (bindings : List Arguments) (start : ChainState) (bytes : List ℕ) (made : Made)
    (state : ChainState) : Type 0 where
  pub front : List (List ℕ)
  pub rest : List (List ℕ)
  pub whole : lines_of bytes ≡ front ++ rest
  pub chained : chain bindings start 1 front ≡ record { made = made; state = state; stop = AtEnd }

-- a state may be saved once this text was printed: it is that of some of the first lines of the stream, and the text
-- begins with all that these make
pub record IsPrinted (bindings : List Arguments) (start : ChainState) (bytes text : List ℕ) (state : ChainState)
    : Type 0 where
  pub made : Made
  pub first : ChainsFirst bindings start bytes made state
  pub later : List ℕ
  pub begins : text ≡ lines_text made.lines ++ later

-- or it is that at which chaining stops
pub record IsLast (bindings : List Arguments) (start : ChainState) (bytes text : List ℕ) (state : ChainState)
    (stop : ChainStop) : Type 0 where
  pub made : Made
  pub all : bytes_chained bindings start bytes ≡ record { made = made; state = state; stop = stop }
  pub text_is : text ≡ lines_text made.lines

-- a part of what some of the first lines make
pub record IsPart (bindings : List Arguments) (start : ChainState) (bytes text : List ℕ) : Type 0 where
  pub made : Made
  pub state : ChainState
  pub first : ChainsFirst bindings start bytes made state
  pub n : ℕ
  pub text_is : text ≡ take n (lines_text made.lines)

-- This text was printed and these states were saved. If chaining stopped, the text is all that the
-- stream makes, and the last state is saved last. If the command failed, the text is a prefix of what the stream makes.
abbrev pub Ends : List Arguments → ChainState → List ℕ → List ℕ → List ChainState → ChainState → StreamEnding ChainStop
    → Type 0
Ends bindings start bytes text states final (Stopped stop) = (before : List ChainState)
    × (states ≡ before ++ (final ∷ [])) × AllByRecursion (IsPrinted bindings start bytes text) before
    × IsLast bindings start bytes text final stop
Ends bindings start bytes text states final (Failed why) =
    AllByRecursion (IsPrinted bindings start bytes text) states × IsPart bindings start bytes text

-- What was printed, and which states were saved, one after another, each as the last one of a log, with these texts of
-- the bindings.
pub record PrintsChain (bindings : List Arguments) (names : List (List ℕ)) (start : ChainState) (bytes : List ℕ)
    (old new : Option (List ℕ)) (held holds : Option (List (List ℕ))) (final : ChainState)
    (ending : StreamEnding ChainStop) : Type 0 where
  pub text : List ℕ
  pub printed : Appends old new text
  pub states : List ChainState
  pub saved : AddsTexts (IsTextOf names) held holds states
  pub ends : Ends bindings start bytes text states final ending
