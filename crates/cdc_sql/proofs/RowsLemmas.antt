-- Rows that are added one after another.
use Rattle.std.proofs.Common.{◌≡◌, ℕ, zero, suc, ◌+◌, List, [], ◌∷◌, ◌++◌, drop, length, Some, None, refl, sym, ap, ◌∙◌, arith}
use Rattle.std.proofs.Common.{append_assoc, append-nil}
use Rattle.std.specs.Prelude.{slice_get}
use Rattle.cdc_sql.specs.Statements.{list_text}

drop_none : {X : Type 0} (items : List X) → drop 0 items ≡ items
drop_none [] = refl
drop_none (x ∷ more) = refl

-- the item of a place is the first one from there on
dropped : {X : Type 0} (items : List X) (place : ℕ) (x : X) → slice_get items place ≡ Some x
    → drop place items ≡ x ∷ drop (suc place) items
dropped [] place x is = absurd cc
dropped (y ∷ more) zero x is =
    let same : y ≡ x = cc in
    ap (λ it. it ∷ more) same ∙ ap (λ l. x ∷ l) (sym (drop_none more))
dropped (y ∷ more) (suc place) x is = dropped more place x is

-- there is none after the last one
none_dropped : {X : Type 0} (items : List X) (place : ℕ) → slice_get items place ≡ None
    → (drop place items ≡ []) × (drop (suc place) items ≡ [])
none_dropped [] zero none = (refl, refl)
none_dropped [] (suc place) none = (refl, refl)
none_dropped (x ∷ more) zero none = absurd cc
none_dropped (x ∷ more) (suc place) none = none_dropped more place none

-- after the last item there is none
pub dropped_all : {X : Type 0} (items : List X) → drop (length items) items ≡ []
dropped_all [] = refl
dropped_all (x ∷ more) = dropped_all more

module _ {X : Type 0} (lead : ℕ → List ℕ) (row : X → List ℕ) (items : List X) where
  -- what was added so far, and what is to be added from this place on
  abbrev pub IsRest : List ℕ → ℕ → List ℕ → Type 0
  IsRest text place whole = text ++ list_text lead row place (drop place items) ≡ whole

  pub row_added : (place : ℕ) (x : X) (old mid new whole : List ℕ) → slice_get items place ≡ Some x
      → IsRest old place whole → mid ≡ old ++ lead place → new ≡ mid ++ row x → IsRest new (suc place) whole
  row_added place x old mid new whole is so_far leads added =
      let rest = list_text lead row (suc place) (drop (suc place) items) in
      let next : place + 1 ≡ suc place = omega arith in
      ap (λ t. t ++ rest) (added ∙ ap (λ t. t ++ row x) leads)
      ∙ append_assoc (old ++ lead place) (row x) rest
      ∙ append_assoc old (lead place) (row x ++ rest)
      ∙ ap (λ n. old ++ (lead place ++ (row x ++ list_text lead row n (drop (suc place) items)))) (sym next)
      ∙ ap (λ l. old ++ list_text lead row place l) (sym (dropped items place x is))
      ∙ so_far

  pub none_added : (place : ℕ) (text whole : List ℕ) → slice_get items place ≡ None
      → IsRest text place whole → IsRest text (suc place) whole
  none_added place text whole none so_far =
      let ends = none_dropped items place none in
      ap (λ l. text ++ list_text lead row (suc place) l) ends.1
      ∙ ap (λ l. text ++ list_text lead row place l) (sym ends.0) ∙ so_far

  pub rows_all : (place : ℕ) (text whole : List ℕ) → drop place items ≡ [] → IsRest text place whole → text ≡ whole
  rows_all place text whole none so_far =
      sym (append-nil text) ∙ ap (λ l. text ++ list_text lead row place l) (sym none) ∙ so_far
