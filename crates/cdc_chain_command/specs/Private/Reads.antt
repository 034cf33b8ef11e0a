-- How the parts of a state's text are read. Cited by private contracts alone.
use Rattle.std.specs.Prelude.{◌≡◌, ◌<◌, ◌^◌, ℕ, List, ◌++◌, length, map, true}
use Rattle.std.specs.List.{AllByRecursion, list_all}
use Rattle.cdc_codec.specs.Texts.{is_in_line}
use Rattle.cdc_chain.specs.Chains.{ChainState}
use Rattle.cdc_chain_command.specs.declared.reading.Front.{Front}
use Rattle.cdc_chain_command.specs.declared.reading.Row.{Row}
use Rattle.cdc_chain_command.specs.declared.reading.Rows.{Rows}
use Rattle.cdc_chain_command.specs.declared.reading.SavedState.{SavedState}
use Rattle.cdc_chain_command.specs.Logs.{Saved}
use Rattle.cdc_chain_command.specs.States.{heading, row, rows}

-- if a text begins with such a heading, its parts are read
abbrev pub ReadsFront : List ℕ → Front → Type 0
ReadsFront text it = (state : ChainState) (rest : List ℕ) → state.last < 2 ^ 64 → text ≡ heading state ++ rest
    → (it.last ≡ state.last) × (it.ended ≡ state.ended) × (it.rest.now ≡ rest)

-- if a text begins with the line of a queue, its parts are read
abbrev pub ReadsRow : List ℕ → Row → Type 0
ReadsRow text it = (binding : List ℕ) (place : ℕ) (rest : List ℕ) → place < 2 ^ 64
    → list_all is_in_line binding ≡ true → text ≡ row binding place ++ rest
    → (it.place ≡ place) × (it.binding.now ≡ binding) × (it.rest.now ≡ rest)

-- if a text is that of the lines of so many queues, they are read
abbrev pub ReadsRows : List ℕ → ℕ → Rows → Type 0
ReadsRows text count it = (bindings : List (List ℕ)) (places : List ℕ) → length bindings ≡ count
    → length places ≡ count → AllByRecursion (λ place. place < 2 ^ 64) places
    → AllByRecursion (λ binding. list_all is_in_line binding ≡ true) bindings → text ≡ rows bindings places
    → (it.places.items ≡ places) × (map (λ t. t.items) it.texts.items ≡ bindings)

-- what was read
abbrev pub saved_of : SavedState → Saved
saved_of it = record { names = map (λ t. t.items) it.texts.items; state = it.chain }

-- it has so many queues, and counts no duplicates yet
abbrev pub IsGood : ℕ → SavedState → Type 0
IsGood count it = (length it.chain.places ≡ count) × (it.chain.duplicates ≡ 0)
