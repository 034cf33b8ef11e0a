-- The text of a chain's state, and how a later run goes on from it.
use Rattle.std.specs.Prelude.{◌≡◌, ◌≢◌, ◌⊎◌, ◌<◌, ◌^◌, ◌&&◌, ℕ, Bool, true, false, List, [], ◌∷◌, ◌++◌, codes, length}
use Rattle.std.specs.List.{AllByRecursion, list_all}
use Rattle.cdc_codec.specs.Texts.{flagged, is_in_line, named}
use Rattle.cdc_files.specs.declared.errors.StoreError.{StoreError}
use Rattle.cdc_files.specs.declared.errors.StoreError.TheVariants.{BadRecord, OutOfMemory}
use Rattle.cdc_match.specs.Arguments.{Arguments}
use Rattle.cdc_bindings.specs.Bindings.{is_of}
use Rattle.cdc_chain.specs.Chains.{ChainState}

-- the first line: the version, the timestamp of the last event taken, and whether the end was received
abbrev pub heading : ChainState → List ℕ
heading state =
    named (codes "chain-state 1 last") state.last ++ (flagged (codes " ended") state.ended ++ codes "\n")

-- the line of a queue: the timestamp of its last event, and its binding
abbrev pub row : List ℕ → ℕ → List ℕ
row binding place = named (codes "queue") place ++ (codes " " ++ (binding ++ codes "\n"))

-- the lines of the queues, in order
abbrev pub rows : List (List ℕ) → List ℕ → List ℕ
rows [] places = []
rows (binding ∷ bindings) [] = []
rows (binding ∷ bindings) (place ∷ places) = row binding place ++ rows bindings places

-- the text of a state, with these texts of the bindings
unfoldable pub state_text : List (List ℕ) → ChainState → List ℕ
state_text bindings state = heading state ++ rows bindings state.places

-- the state as it is read: how many duplicates were skipped isn't saved
abbrev pub fresh : ChainState → ChainState
fresh state = record state { duplicates = 0 }

-- a state can be saved with these texts: there is one line for each queue, and the numbers fit
pub record CanBeSaved (bindings : List (List ℕ)) (state : ChainState) : Type 0 where
  pub many : length bindings ≡ length state.places
  pub last : state.last < 2 ^ 64
  pub places : AllByRecursion (λ place. place < 2 ^ 64) state.places
  pub lines : AllByRecursion (λ binding. list_all is_in_line binding ≡ true) bindings

-- these are the texts of bindings that mean the same as these ones, in order
abbrev pub are_of : List Arguments → List (List ℕ) → Bool
are_of [] [] = true
are_of (binding ∷ bindings) (text ∷ texts) = is_of binding text && are_of bindings texts
are_of _ _ = false
