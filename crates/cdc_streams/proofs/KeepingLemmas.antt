-- Texts that are held one after another.
use Rattle.std.proofs.Common.{◌≡◌, ℕ, List, [], ◌∷◌, ◌++◌, Option, None, Some, sym, ap, ◌∙◌, subst, append-nil}
use Rattle.std.proofs.Common.{append_assoc, refl}
use Rattle.std.specs.Prelude.{Err, IfSome, Ok, OnOk, Result}
use Rattle.std.specs.List.{AllZip}
use Rattle.cdc_streams.specs.Keeping.{AddsTexts, last_text}

-- the last of some texts and one more
pub last_of_more : (texts : List (List ℕ)) (text : List ℕ) → last_text (texts ++ text ∷ []) ≡ text
last_of_more [] text = refl
last_of_more (one ∷ []) text = refl
last_of_more (one ∷ two ∷ later) text = last_of_more (two ∷ later) text

module _ {S : Type 0} (IsText : List ℕ → S → Type 0) where
  zip_more : (texts : List (List ℕ)) (states : List S) (text : List ℕ) (state : S) → AllZip IsText texts states
      → IsText text state → AllZip IsText (texts ++ text ∷ []) (states ++ state ∷ [])
  zip_more [] [] text state all is = (is, tt)
  zip_more [] (other ∷ states) text state all is = absurd all
  zip_more (one ∷ texts) [] text state all is = absurd all
  zip_more (one ∷ texts) (other ∷ states) text state all is = (all.0, zip_more texts states text state all.1 is)

  -- none was added
  pub adds_none : (texts : Option (List (List ℕ))) → AddsTexts IsText texts texts []
  adds_none None = tt
  adds_none (Some held) = ([], ap Some (sym (append-nil held)), tt)

  -- nothing changed since
  pub adds_same : (first old new : Option (List (List ℕ))) (states : List S) → new ≡ old
      → AddsTexts IsText first old states → AddsTexts IsText first new states
  adds_same first old new states same adds = subst (λ it. AddsTexts IsText first it states) (sym same) adds

  -- one more was added
  pub adds_one : (first old new : Option (List (List ℕ))) (states : List S) (state : S)
      → AddsTexts IsText first old states
      → IfSome old (λ before. (text : List ℕ) × (new ≡ Some (before ++ text ∷ [])) × IsText text state)
      → AddsTexts IsText first new (states ++ state ∷ [])
  adds_one None old new states state adds one = tt
  adds_one (Some held) old new states state adds one =
      let last = subst (λ it. IfSome it (λ before. (text : List ℕ) × (new ≡ Some (before ++ text ∷ []))
      × IsText text state)) adds.1 one in (
        adds.0 ++ last.0 ∷ [],
        last.1 ∙ ap Some (append_assoc held adds.0 (last.0 ∷ [])),
        zip_more adds.0 states last.0 state adds.2 last.2,
      )

-- ---- what holds after a call that may fail

pub ok_map : {T E A B : Type 0} (result : Result T E) → (A → B) → OnOk result A → OnOk result B
ok_map (Ok done) maps holds = maps holds
ok_map (Err why) maps holds = tt

pub ok_map_two : {T E A B C : Type 0} (result : Result T E) → (A → B → C) → OnOk result A → OnOk result B
    → OnOk result C
ok_map_two (Ok done) maps one two = maps one two
ok_map_two (Err why) maps one two = tt
