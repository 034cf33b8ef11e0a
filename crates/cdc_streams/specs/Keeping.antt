-- What is kept of what takes a stream.
use Rattle.std.specs.Prelude.{◌≡◌, ℕ, List, [], ◌∷◌, ◌++◌, Option, Some, None, IfSome}
use Rattle.std.specs.List.{AllZip}
use Rattle.std.specs.Option.{option_map}

-- the last of these texts; none if there isn't one
abbrev pub last_text : List (List ℕ) → List ℕ
last_text [] = []
last_text (text ∷ []) = text
last_text (text ∷ later) = last_text later

-- texts that were held, and then one more: the last of them with this one after it
abbrev pub with_text : List (List ℕ) → List ℕ → List (List ℕ)
with_text before text = before ++ ((last_text before ++ text) ∷ [])

-- a text was held after those that were held before, as far as these are known
abbrev pub ReplacesText : Option (List (List ℕ)) → Option (List (List ℕ)) → List ℕ → Type 0
ReplacesText old new text = new ≡ option_map (λ before. before ++ (text ∷ [])) old

-- so was the last one of them with a text after it
abbrev pub AppendsText : Option (List (List ℕ)) → Option (List (List ℕ)) → List ℕ → Type 0
AppendsText old new text = new ≡ option_map (λ before. with_text before text) old

-- to the texts that were held, if they are known, these were added, each of which is read back as one of these states
abbrev pub AddsTexts : {S : Type 0} → (List ℕ → S → Type 0) → Option (List (List ℕ)) → Option (List (List ℕ))
    → List S → Type 0
AddsTexts IsText old new states =
    IfSome old (λ before. (added : List (List ℕ)) × (new ≡ Some (before ++ added)) × AllZip IsText added states)

-- what was kept while one store came from another, if there is one
abbrev pub HasKept : {K S : Type 0} → (K → K → List S → Type 0) → Option K → Option K → List S → Type 0
HasKept Kept None None states = Unit {0}
HasKept Kept (Some old) (Some new) states = Kept old new states
HasKept Kept old new states = ⊥

-- meanwhile such a store was given these as well
abbrev pub KeepsMore : {K S : Type 0} → (K → K → List S → Type 0) → Option K → Option K → List S → Type 0
KeepsMore Kept old new more =
    (first : Option _) (states : List _) → HasKept Kept first old states → HasKept Kept first new (states ++ more)
