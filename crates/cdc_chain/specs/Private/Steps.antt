-- What one line makes of a chain. Cited by private contracts alone.
use Rattle.std.specs.Prelude.{◌≡◌, ℕ, ◌+◌, List, ◌∷◌, ◌++◌, Option, Some, None}
use Rattle.cdc_match.specs.Arguments.{Arguments}
use Rattle.cdc_follow.specs.Lines.{lines_of}
use Rattle.cdc_chain.specs.declared.streams.ChainStop.{ChainStop}
use Rattle.cdc_chain.specs.Chains.{ChainState, Made, chain, made_first, stopped}
use Rattle.cdc_chain.specs.Lines.{lines_text}

-- the line of this number makes this, whatever lines come after it, and its lines are added to a text
pub record GoesOn (bindings : List Arguments) (number : ℕ) (line : List ℕ) (old new : ChainState)
    (before after : List ℕ) : Type 0 where
  pub made : Made
  pub leads : (rest : List (List ℕ)) → chain bindings old number (line ∷ rest)
      ≡ made_first made (chain bindings new (number + 1) rest)
  pub text : after ≡ before ++ lines_text made.lines

-- or chaining stops at it, and no line is added
abbrev pub LineMakes : List Arguments → ℕ → List ℕ → ChainState → Option ChainStop → ChainState → List ℕ → List ℕ
    → Type 0
LineMakes bindings number line old None new before after = GoesOn bindings number line old new before after
LineMakes bindings number line old (Some stop) new before after =
    ((rest : List (List ℕ)) → chain bindings old number (line ∷ rest) ≡ stopped new stop) × (after ≡ before)

-- the same of the first line of bytes, which has this number and is taken off
abbrev pub StepMakes : List Arguments → ℕ → ChainState → List ℕ → Option ChainStop → ChainState → Option (List ℕ)
    → List ℕ → List ℕ → Type 0
StepMakes bindings number old bytes None new left before after =
    (line : List ℕ) × (rest : List ℕ) × (left ≡ Some rest) × (lines_of bytes ≡ line ∷ lines_of rest)
    × GoesOn bindings number line old new before after
StepMakes bindings number old bytes (Some stop) new left before after =
    (chain bindings old number (lines_of bytes) ≡ stopped new stop) × (after ≡ before)
