-- A list and the first occurrences of its elements: the list is a replay of them. So if the timestamps of the first
-- occurrences rise, these are the elements that rise in the whole list.
use Rattle.cdc_run.proofs.Words.{Bool, Contains, Contains-get_or, Decides-has_same, HasNoneTwice, HaveSame, HaveSame-again, HaveSame-push, HaveSame-refl, IsReplay, IsReplay-again, IsReplay-longer, IsReplay-nil, IsReplay-push, Item, List, TimestampsRise, [], append-nil, arith, cases_Bool, events_of, firsts, fold, has_same, if◌then◌else◌, inl, inr, length, not_from_Decides, rises, same_item, subst, sym, take, take_all, ◌++◌, ◌∷◌, ◌≡◌, ◌≢◌}
use Rattle.std.proofs.Common.{append_assoc}
use Rattle.std.specs.Bool.{Decides}
use Rattle.std.proofs.lemmas.List.Quantifiers.{all_pairs_push}
use Rattle.cdc_message.proofs.RisesLaws.{rises-firsts}
use Rattle.cdc_message.proofs.Same.{Decides-same_item}

-- what has come, and the first ones of it
record IsOf {X : Type 0} (v seen : List X) : Type 0 where
  replay : IsReplay v seen
  elements : HaveSame v seen
  apart : HasNoneTwice seen

module _ {X : Type 0} (same : X → X → Bool) (decides : (a b : X) → Decides (same a b) (a ≡ b)) where
  -- the first ones, with one element more
  abbrev with_first : List X → X → List X
  with_first seen x = if has_same same x seen then seen else (seen ++ x ∷ [])

  -- an element that came before, or a new one
  of_more : (v seen : List X) (x : X) → IsOf v seen → IsOf (v ++ x ∷ []) (with_first seen x)
  of_more v seen x is =
      elim (cases_Bool (has_same same x seen)) [
        | inl old ↦
            let there : Contains v x = is.elements.back x ((Decides-has_same same decides x seen).0 old) in
            let both : IsOf (v ++ x ∷ []) seen = record {
              replay = IsReplay-again v seen x is.replay there;
              elements = HaveSame-again v seen x is.elements there;
              apart = is.apart;
            } in
            rw old both
        | inr new ↦
            let longer : List X = seen ++ x ∷ [] in
            let elements : HaveSame (v ++ x ∷ []) longer = HaveSame-push v seen x is.elements in
            let all : take (length longer) longer ≡ longer = take_all (length longer) longer (omega arith) in
            let not_yet : Contains seen x → ⊥ =
            not_from_Decides (has_same same x seen) (Decides-has_same same decides x seen) new in
            let both : IsOf (v ++ x ∷ []) longer = record {
              replay = IsReplay-push v longer x (length longer) (IsReplay-longer v seen (x ∷ []) is.replay)
                  (subst (HaveSame (v ++ x ∷ [])) (sym all) elements);
              elements = elements;
              apart = all_pairs_push (λ (a b : X). a ≢ b) seen x is.apart
                  (λ k d below eq. not_yet (subst (Contains seen) eq (Contains-get_or seen k d below)));
            } in
            rw new both
      ]

  -- all that comes
  of_all : (v seen w : List X) → IsOf v seen → IsOf (v ++ w) (fold with_first seen w)
  of_all v seen [] is = subst (λ l. IsOf l seen) (sym (append-nil v)) is
  of_all v seen (x ∷ w) is =
      subst (λ l. IsOf l (fold with_first (with_first seen x) w)) (append_assoc v (x ∷ []) w)
      (of_all (v ++ x ∷ []) (with_first seen x) w (of_more v seen x is))

  of_firsts : (w : List X) → IsOf w (firsts same w)
  of_firsts w = of_all [] [] w (record {
    replay = IsReplay-nil [];
    elements = HaveSame-refl [];
    apart = λ i j d before below eq. absurd (omega arith);
  })

-- if the first occurrences rise, a receiver that goes by timestamps alone takes exactly these
pub rises-of_firsts : (w : List Item) → TimestampsRise (events_of (firsts same_item w))
    → events_of (firsts same_item w) ≡ rises (events_of w)
rises-of_firsts w rise =
    let is : IsOf w (firsts same_item w) = of_firsts same_item Decides-same_item w in
    rises-firsts (firsts same_item w) is.apart rise w is.replay
