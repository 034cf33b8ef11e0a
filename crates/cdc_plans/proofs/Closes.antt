-- The least close number of a subscriber, one entry after another.
use Rattle.cdc_plans.specs.Faults.{IsLeast, closes_of}
use Rattle.std.proofs.Common.{Bool, List, [], ap, arith, inl, inr, map, refl, subst, sym, true, ℕ, ◌++◌, ◌==◌, ◌∙◌, ◌∷◌, ◌≡◌, ◌≤◌}
use Rattle.std.proofs.lemmas.Bool.Decides.{nat_tests}
use Rattle.std.proofs.lemmas.List.{map-append}
use Rattle.std.proofs.lemmas.List.Elements.{All-nil, All-push, All-weaker, Contains-append_left, Contains-append_right, filter-append}
use Rattle.std.specs.Prelude.{Contains, None, Some, cond, filter, nat_le, ◌&&◌, ◌⊎◌}

-- whether an entry counts for a subscriber
abbrev pub counts : ℕ → ℕ × ℕ → Bool
counts subscriber entry = (entry.0 == subscriber) && nat_le 1 entry.1

-- one more entry adds its number, if it counts
closes_push : (subscriber : ℕ) (closes : List (ℕ × ℕ)) (entry : ℕ × ℕ)
    → closes_of subscriber (closes ++ entry ∷ [])
    ≡ closes_of subscriber closes ++ map (λ c. c.1) (cond (counts subscriber entry) (entry ∷ []) [])
closes_push subscriber closes entry =
    ap (map (λ c. c.1)) (filter-append (counts subscriber) closes (entry ∷ []))
    ∙ map-append (λ (c : ℕ × ℕ). c.1) (filter (counts subscriber) closes)
    (cond (counts subscriber entry) (entry ∷ []) [])

-- the last of a list is in it
last_in : (numbers : List ℕ) (n : ℕ) → Contains (numbers ++ n ∷ []) n
last_in numbers n = Contains-append_right numbers (n ∷ []) n (0, omega arith, refl)

-- one that counts adds its number
counted : (subscriber : ℕ) (closes : List (ℕ × ℕ)) (entry : ℕ × ℕ) → counts subscriber entry ≡ true
    → closes_of subscriber (closes ++ entry ∷ []) ≡ closes_of subscriber closes ++ entry.1 ∷ []
counted subscriber closes entry so =
    closes_push subscriber closes entry
    ∙ ap (λ (b : Bool). closes_of subscriber closes ++ map (λ c. c.1) (cond b (entry ∷ []) [])) so

-- the lesser of the two is the least then
pub least_falls : (subscriber : ℕ) (closes : List (ℕ × ℕ)) (entry : ℕ × ℕ) (n least : ℕ)
    → counts subscriber entry ≡ true → least ≤ n → least ≤ entry.1 → (least ≡ n) ⊎ (least ≡ entry.1)
    → IsLeast (closes_of subscriber closes) (Some n)
    → IsLeast (closes_of subscriber (closes ++ entry ∷ [])) (Some least)
least_falls subscriber closes entry n least so low lower which is =
    let numbers : List ℕ = closes_of subscriber closes in
    let P : ℕ → Type 0 = λ m. Contains (numbers ++ entry.1 ∷ []) m in
    let there : P least =
    elim which [
      | inl same ↦ subst P (sym same) (Contains-append_left numbers (entry.1 ∷ []) n is.0)
      | inr same ↦ subst P (sym same) (last_in numbers entry.1)
    ] in
    subst (λ (all : List ℕ). IsLeast all (Some least)) (sym (counted subscriber closes entry so)) (
      there,
      All-push (λ m. least ≤ m) numbers entry.1
          (All-weaker (λ m. n ≤ m) (λ m. least ≤ m) (λ m h. omega arith) numbers is.1) lower,
    )

-- and if there was none
pub least_begins : (subscriber : ℕ) (closes : List (ℕ × ℕ)) (entry : ℕ × ℕ)
    → counts subscriber entry ≡ true → IsLeast (closes_of subscriber closes) None
    → IsLeast (closes_of subscriber (closes ++ entry ∷ [])) (Some entry.1)
least_begins subscriber closes entry so none =
    let made : closes_of subscriber (closes ++ entry ∷ []) ≡ entry.1 ∷ [] =
    counted subscriber closes entry so ∙ ap (λ (numbers : List ℕ). numbers ++ entry.1 ∷ []) none in
    subst (λ (all : List ℕ). IsLeast all (Some entry.1)) (sym made)
    (last_in [] entry.1, All-push (λ m. entry.1 ≤ m) [] entry.1 (All-nil (λ m. entry.1 ≤ m)) (omega arith))

-- an entry of the subscriber with a number from 1 up counts
pub counts_so : (subscriber : ℕ) (entry : ℕ × ℕ) → entry.0 ≡ subscriber → (entry.1 ≡ 0 → ⊥)
    → counts subscriber entry ≡ true
counts_so subscriber entry its some = grind (arith, nat_tests)
