-- Elements by their numbers, and by their places.
use Rattle.cdc_world.proofs.Words.{Bool, Contains, Contains_slice_get, List, None, Some, [], ap, arith, cases_Bool, eqb-false, eqb-true, false, get_or, if◌then◌else◌, inl, inr, length, map, nat_lt, none-some, numbered, option_map, place_in, refl, slice_get-map, slice_get_past, slice_get_read, subscription_parts, subst, suc, sym, true, zero, ℕ, ◌-◌, ◌<◌, ◌==◌, ◌∙◌, ◌∷◌, ◌≡◌}
use Rattle.std.specs.List.{slice_get}
use Rattle.cdc_world.specs.declared.subscriptions.Subscription.{Subscription}

-- a number above 0 isn't 0
above_none : (i : ℕ) → (suc i == 0) ≡ false
above_none i = grind arith

-- a number above 0 is that of the place before it
pub numbered_place : {X : Type 0} (xs : List X) (i : ℕ) → 0 < i → numbered xs i ≡ slice_get xs (i - 1)
numbered_place xs zero below = absurd (omega arith)
numbered_place {X} xs (suc i) below =
    ap (λ (b : Bool). if b then None else slice_get xs (suc i - 1)) (above_none i)

-- a number that names something is at least 1 and names the element at the place before it, so a tag gives its item's
-- place in the line
pub numbered_parts : {X : Type 0} (xs : List X) (k : ℕ) (x : X) → numbered xs k ≡ Some x
    → (0 < k) × (slice_get xs (k - 1) ≡ Some x)
numbered_parts xs k x h =
    elim (cases_Bool (k == 0)) [
      | inl is ↦ absurd (none-some x (rw is at h))
      | inr not ↦ let above : 0 < k = omega (arith, eqb-false k 0 not) in (above, rw not at h)
    ]

-- and the element at a place is named by the number after it
pub numbered_from : {X : Type 0} (xs : List X) (k : ℕ) (x : X) → 0 < k → slice_get xs (k - 1) ≡ Some x
    → numbered xs k ≡ Some x
numbered_from xs k x above h =
    elim (cases_Bool (k == 0)) [
      | inl is ↦ absurd (omega (arith, eqb-true k 0 is))
      | inr not ↦ rw not h
    ]

-- a packet that a step names by its number is one that was sent, and so is a confirm
pub Contains_numbered : {X : Type 0} (xs : List X) (k : ℕ) (x : X) → numbered xs k ≡ Some x → Contains xs x
Contains_numbered xs k x h = Contains_slice_get xs (k - 1) x (numbered_parts xs k x h).1

-- a place that a number has
pub record IsPlace (i count place : ℕ) : Type 0 where
  pub above : 0 < i
  pub here : place ≡ i - 1
  pub inside : i - 1 < count

-- a number above 0 has a place if the list is long enough
place_above : (i count : ℕ) → place_in (suc i) count ≡ (if nat_lt (suc i - 1) count then Some (suc i - 1) else None)
place_above i count =
    ap (λ (b : Bool). if b then None else (if nat_lt (suc i - 1) count then Some (suc i - 1) else None)) (above_none i)

-- a place that was found is the one before the number, and within the list
place_cases : (i count place : ℕ) (b : Bool) → nat_lt (suc i - 1) count ≡ b
    → (if b then Some (suc i - 1) else None) ≡ Some place → IsPlace (suc i) count place
place_cases i count place true below found =
    record { above = omega arith; here = cc; inside = grind arith }
place_cases i count place false below found = cc

-- so if the code finds a place for a subscriber's number, that subscriber is there
pub place_is : (i count place : ℕ) → place_in i count ≡ Some place → IsPlace i count place
place_is zero count place found = cc
place_is (suc i) count place found =
    place_cases i count place (nat_lt (suc i - 1) count) refl (sym (place_above i count) ∙ found)

-- a number above 0 without a place names nothing
unplaced : {X : Type 0} (xs : List X) (i : ℕ) (b : Bool) → nat_lt (suc i - 1) (length xs) ≡ b
    → (if b then Some (suc i - 1) else None) ≡ None → numbered xs (suc i) ≡ None
unplaced xs i true below none = cc
unplaced xs i false past none =
    numbered_place xs (suc i) (omega arith) ∙ slice_get_past xs (suc i - 1) (grind arith)

-- so if the code finds no place for a number, nothing has that number
pub numbered_none : {X : Type 0} (xs : List X) (i count : ℕ) → count ≡ length xs → place_in i count ≡ None
    → numbered xs i ≡ None
numbered_none xs zero count same none = refl
numbered_none xs (suc i) count same none =
    unplaced xs i (nat_lt (suc i - 1) (length xs)) refl
    (sym (place_above i (length xs)) ∙ subst (λ n. place_in (suc i) n ≡ None) same none)

-- and if it finds one, the element there has the number
pub numbered_some : {X : Type 0} (xs : List X) (i count place : ℕ) (x : X) → count ≡ length xs
    → place_in i count ≡ Some place → x ≡ get_or xs place x → numbered xs i ≡ Some x
numbered_some xs i count place x same found here =
    let at = place_is i count place found in
    numbered_place xs i at.above ∙ ap (slice_get xs) (sym at.here)
    ∙ slice_get_read xs count place x same (omega (arith, at.inside, at.here)) here

-- an element of a mapped list is the image of the list's element at the same place
pub slice_get_made : {X Y : Type 0} (f : X → Y) (xs : List X) (k : ℕ) (y : Y) → slice_get (map f xs) k ≡ Some y
    → (x : X) × ((slice_get xs k ≡ Some x) × (f x ≡ y))
slice_get_made f [] k y found = cc
slice_get_made f (x ∷ xs) zero y found = (x, (refl, cc))
slice_get_made f (x ∷ xs) (suc k) y found = slice_get_made f xs k y found

-- a subscription of the world, as it is kept
pub subscription_here : (items : List Subscription) (k : ℕ) (s : Subscription) → k < length items → s ≡ get_or items k s
    → slice_get (map subscription_parts items) k ≡ Some (subscription_parts s)
subscription_here items k s inside here =
    slice_get-map subscription_parts items k ∙ ap (option_map subscription_parts) (slice_get_read items
    (length items) k s refl inside here)
