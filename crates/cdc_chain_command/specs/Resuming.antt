-- How a later run goes on from the text of a chain's state.
use Rattle.std.specs.Prelude.{◌≡◌, ◌≢◌, ◌⊎◌, ℕ, List, true, length}
use Rattle.std.specs.List.{AllByRecursion}
use Rattle.cdc_files.specs.declared.errors.StoreError.{StoreError}
use Rattle.cdc_files.specs.declared.errors.StoreError.TheVariants.{BadRecord, OutOfMemory}
use Rattle.cdc_match.specs.Arguments.{Arguments}
use Rattle.cdc_chain.specs.Chains.{ChainState}
use Rattle.cdc_chain_command.specs.Logs.{Fits, IsLogText, IsRead, Saved, last_saved}
use Rattle.cdc_chain_command.specs.States.{CanBeSaved, are_of, state_text}

-- a chain goes on from the text of a log: that of its last state, with bindings that mean the same as these
abbrev pub IsResumedLog : List Arguments → List ℕ → ChainState → Type 0
IsResumedLog bindings text state = (names : List (List ℕ))
    × IsRead (length bindings) text (record { names = names; state = state }) × (are_of bindings names ≡ true)
    × (state.duplicates ≡ 0)

-- the same of the text of a state alone, as earlier versions saved it
abbrev pub IsResumedText : List Arguments → List ℕ → ChainState → Type 0
IsResumedText bindings text state = (names : List (List ℕ)) × (text ≡ state_text names state)
    × (are_of bindings names ≡ true) × (state.duplicates ≡ 0)

-- a chain goes on from a text, which is either
abbrev pub IsResumed : List Arguments → List ℕ → ChainState → Type 0
IsResumed bindings text state = IsResumedLog bindings text state ⊎ IsResumedText bindings text state

-- a text is that of no log whose last state has bindings that mean the same as these
abbrev pub IsNoLog : List Arguments → List ℕ → Type 0
IsNoLog bindings text = (first : Saved) (later : List Saved) (torn : List ℕ) → Fits (length bindings) first
    → AllByRecursion (Fits (length bindings)) later → are_of bindings (last_saved first later).names ≡ true
    → IsLogText text first later torn → ⊥

-- a text is that of no state that can be saved, with bindings that mean the same as these
abbrev pub IsNoState : List Arguments → List ℕ → Type 0
IsNoState bindings text = (names : List (List ℕ)) (state : ChainState) → CanBeSaved names state
    → are_of bindings names ≡ true → text ≢ state_text names state

-- it is neither
pub record IsNeither (bindings : List Arguments) (text : List ℕ) : Type 0 where
  pub log : IsNoLog bindings text
  pub alone : IsNoState bindings text

-- a text isn't resumed because memory runs out, or because it is no such text
abbrev pub IsRefused : List Arguments → List ℕ → StoreError → Type 0
IsRefused bindings text error = (error ≡ OutOfMemory) ⊎ ((error ≡ BadRecord) × IsNeither bindings text)
