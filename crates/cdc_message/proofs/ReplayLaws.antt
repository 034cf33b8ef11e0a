-- Laws of replays, whatever the lists hold.
use Rattle.std.proofs.Common.{◌≡◌, ℕ, zero, suc, ◌+◌, ◌<◌, ◌≤◌, Bool, true, false, cond, List, [], ◌∷◌, ◌++◌, length, get_or, take, drop, refl, sym, ap, ◌∙◌, subst, inl, inr, arith, add-one}
use Rattle.std.specs.Prelude.{Contains, Some, max, slice_get}
use Rattle.std.specs.Bool.{Decides}
use Rattle.std.proofs.lemmas.Bool.{cases_Bool, cases_lt}
use Rattle.std.proofs.lemmas.Bool.Decides.{Decides-by_or, not_from_Decides}
use Rattle.std.proofs.lemmas.List.{take_all, take_at, take-take, take-append-le, take-append-drop, take_more, length-take, length-append, get_or-take, get_or_default, get_or_at}
use Rattle.std.proofs.lemmas.List.Elements.{Contains-append_left, Contains-push, Contains-push_cases, Decides-contains}
use Rattle.std.proofs.lemmas.List.Sums.{fold-append}
use Rattle.std.proofs.lemmas.Option.{get_or_from_slice_get, slice_get_within}
use Rattle.cdc_message.specs.Replays.{HaveSame, IsReplay, IsPrefix, HasNoneTwice, has_same, firsts}

-- ---- lists with the same elements

-- a list has what it has itself, so that nothing sent and everything sent once are replays
pub HaveSame-refl : {X : Type 0} (xs : List X) → HaveSame xs xs
HaveSame-refl xs = record { forth = λ x h. h; back = λ x h. h }

-- so that what replays a replay can be compared with the first list
pub HaveSame-trans : {X : Type 0} {xs ys zs : List X} → HaveSame xs ys → HaveSame ys zs → HaveSame xs zs
HaveSame-trans p q = record { forth = λ x h. q.forth x (p.forth x h); back = λ x h. p.back x (q.back x h) }

-- an element once more
pub HaveSame-again : {X : Type 0} (xs ys : List X) (x : X) → HaveSame xs ys → Contains xs x → HaveSame (xs ++ x ∷ []) ys
HaveSame-again xs ys x same there = record {
  forth = λ y h.
      elim (Contains-push_cases xs x y h) [
        | inl old ↦ same.forth y old
        | inr is ↦ subst (Contains ys) is (same.forth x there)
      ];
  back = λ y h. Contains-append_left xs (x ∷ []) y (same.back y h);
}

-- one direction of the next, which takes it both ways
push_forth : {X : Type 0} (xs ys : List X) (x : X) → HaveSame xs ys → (y : X) → Contains (xs ++ x ∷ []) y
    → Contains (ys ++ x ∷ []) y
push_forth xs ys x same y h =
    elim (Contains-push_cases xs x y h) [
      | inl old ↦ Contains-append_left ys (x ∷ []) y (same.forth y old)
      | inr is ↦ subst (Contains (ys ++ x ∷ [])) is (Contains-push ys x)
    ]

-- the same element appended to both
pub HaveSame-push : {X : Type 0} (xs ys : List X) (x : X) → HaveSame xs ys → HaveSame (xs ++ x ∷ []) (ys ++ x ∷ [])
HaveSame-push xs ys x same = record {
  forth = push_forth xs ys x same;
  back = push_forth ys xs x (record { forth = same.back; back = same.forth });
}

-- ---- replays

-- before anything has come, that is a replay of anything
pub IsReplay-nil : {X : Type 0} (f : List X) → IsReplay [] f
IsReplay-nil f = record {
  prefixes = λ n. let none = take_all n (take 0 f) (omega arith) in (0, rw none (HaveSame-refl (take 0 f)));
}

-- a replay of a replay is a replay: what a subscriber receives is one of its queue, and the queue one of the ledger
pub IsReplay-trans : {X : Type 0} (w v f : List X) → IsReplay w v → IsReplay v f → IsReplay w f
IsReplay-trans w v f of_v of_f = record {
  prefixes = λ n.
      let m = of_v.prefixes n in
      let k = of_f.prefixes m.0 in
      (k.0, HaveSame-trans m.1 k.1);
}

-- a whole replay has the same elements as some prefix
pub IsReplay-all : {X : Type 0} (w f : List X) → IsReplay w f → (m : ℕ) × HaveSame w (take m f)
IsReplay-all w f replay =
    let all : take (length w) w ≡ w = take_all (length w) w (omega arith) in
    rw all at (replay.prefixes (length w))

-- one more element, after which the list has the same elements as some prefix
pub IsReplay-push : {X : Type 0} (w f : List X) (x : X) (m : ℕ) → IsReplay w f → HaveSame (w ++ x ∷ []) (take m f)
    → IsReplay (w ++ x ∷ []) f
IsReplay-push w f x m replay same = record {
  prefixes = λ n.
      elim (cases_lt (length w) n) [
        | inl past ↦
            let all : take n (w ++ x ∷ []) ≡ w ++ x ∷ [] =
            take_all n (w ++ x ∷ []) (omega (arith, length-append w (x ∷ []))) in
            (m, rw all same)
        | inr within ↦
            let front : take n (w ++ x ∷ []) ≡ take n w = take-append-le n w (x ∷ []) within in
            rw front (replay.prefixes n)
      ];
}

-- an element that was there already
pub IsReplay-again : {X : Type 0} (w f : List X) (x : X) → IsReplay w f → Contains w x → IsReplay (w ++ x ∷ []) f
IsReplay-again w f x replay there =
    let all = IsReplay-all w f replay in
    IsReplay-push w f x all.0 replay (HaveSame-again w (take all.0 f) x all.1 there)

-- a prefix of a replay
pub IsReplay-take : {X : Type 0} (k : ℕ) (w f : List X) → IsReplay w f → IsReplay (take k w) f
IsReplay-take k w f replay = record {
  prefixes = λ n.
      elim (cases_lt k n) [
        | inl past ↦
            let all : take n (take k w) ≡ take k w = take_all n (take k w) (omega (arith, length-take k w)) in
            rw all (replay.prefixes k)
        | inr within ↦
            let front : take n (take k w) ≡ take n w = take-take n k w within in rw front (replay.prefixes n)
      ];
}

-- f goes on
pub IsReplay-longer : {X : Type 0} (w f g : List X) → IsReplay w f → IsReplay w (f ++ g)
IsReplay-longer w f g replay = record {
  prefixes = λ n.
      let m = replay.prefixes n in
      elim (cases_lt (length f) m.0) [
        | inl past ↦
            let all : take m.0 f ≡ f = take_all m.0 f (omega arith) in
            let front : take (length f) (f ++ g) ≡ f = take_at f g (length f) refl in
            let same : HaveSame (take n w) f = rw all at m.1 in
            (length f, rw front same)
        | inr within ↦ let front : take m.0 (f ++ g) ≡ take m.0 f = take-append-le m.0 f g within in (m.0, rw front m.1)
      ];
}

-- ---- elements of a prefix

-- an element of a prefix is at an index below the prefix's length
Contains-take : {X : Type 0} (m : ℕ) (f : List X) (x : X) → Contains (take m f) x
    → (i : ℕ) × (i < m) × (i < length f) × (get_or f i x ≡ x)
Contains-take m f x (i, below, is) =
    let low : i < m = omega (arith, length-take m f) in
    let within : i < length f = omega (arith, length-take m f) in
    (i, low, within, sym (get_or-take m f i x low) ∙ is)

-- and the element at such an index is in the prefix
Contains-from_take : {X : Type 0} (m i : ℕ) (f : List X) (x : X) → i < m → i < length f → get_or f i x ≡ x
    → Contains (take m f) x
Contains-from_take m i f x low within is = (i, omega (arith, length-take m f), get_or-take m f i x low ∙ is)

-- what a replay has, f has
pub IsReplay-Contains : {X : Type 0} (w f : List X) (x : X) → IsReplay w f → Contains w x → Contains f x
IsReplay-Contains w f x replay there =
    let all = IsReplay-all w f replay in
    let found = Contains-take all.0 f x (all.1.forth x there) in
    (found.0, found.2, found.3)

-- ---- the first of each

-- one more element joins the first ones unless the same one came before
pub firsts-push : {X : Type 0} (same : X → X → Bool) (w : List X) (x : X)
    → firsts same (w ++ x ∷ []) ≡ cond (has_same same x (firsts same w)) (firsts same w) (firsts same w ++ x ∷ [])
firsts-push same w x = rw (fold-append (λ seen y. cond (has_same same y seen) seen (seen ++ y ∷ [])) [] w (x ∷ [])) refl

module _ {X : Type 0} (same : X → X → Bool) (decides : (a b : X) → Decides (same a b) (a ≡ b)) where
  -- the test whether an element occurred before is correct if the test of sameness is
  pub Decides-has_same : (x : X) (seen : List X) → Decides (has_same same x seen) (Contains seen x)
  Decides-has_same x seen =
      Decides-contains seen x (has_same same x seen)
      (Decides-by_or (λ y. same y x) (λ y. y ≡ x) (has_same same x) (λ y. decides y x) refl (λ _ _. refl) seen)

-- the first n + 1 elements of a list
pub take_next : {X : Type 0} (n : ℕ) (w : List X) → n < length w → (x : X) × (take (n + 1) w ≡ take n w ++ x ∷ [])
take_next n [] below = absurd (omega arith)
take_next n (x ∷ w) below = (get_or (x ∷ w) n x, take_more (x ∷ w) n x below)

-- what is known once the first elements of a replay of f have come, here v: they are those of the first `count` of f
pub record HasBegun {X : Type 0} (same : X → X → Bool) (v f : List X) : Type 0 where
  pub count : ℕ
  pub within : count ≤ length f
  pub firsts_are : firsts same v ≡ take count f
  pub elements : HaveSame v (take count f)

-- an element that is new is the one of f that comes next
pub next_is : {X : Type 0} (v f : List X) (x : X) (m n : ℕ) → HasNoneTwice f → HaveSame v (take m f)
    → HaveSame (v ++ x ∷ []) (take n f)
    → (Contains v x → ⊥) → (m < length f) × (get_or f m x ≡ x)
next_is v f x m n apart before after new =
    let found = Contains-take n f x (after.forth x (Contains-push v x)) in
    let late : m ≤ found.0 =
    elim (cases_lt found.0 m) [
      | inl early ↦ absurd (new (before.back x (Contains-from_take m found.0 f x early found.2 found.3)))
      | inr past ↦ past
    ] in
    let within : m < length f = omega (arith, late, found.2) in
    let y = get_or f m x in
    let here : get_or f m y ≡ y = get_or_default f m y x within in
    let in_f : Contains (take n f) y = Contains-from_take n m f y (omega (arith, late, found.1)) within here in
    let is : x ≡ y =
    elim (Contains-push_cases v x y (after.back y in_f)) [
      | inl old ↦
          let earlier = Contains-take m f y (before.forth y old) in
          absurd (apart earlier.0 m y earlier.1 within (earlier.3 ∙ sym here))
      | inr same ↦ same
    ] in
    (within, sym is)

module _ {X : Type 0} (same : X → X → Bool) (decides : (a b : X) → Decides (same a b) (a ≡ b)) where
  -- once more what came
  HasBegun-again : (v f : List X) (x : X) (b : HasBegun same v f) → has_same same x (firsts same v) ≡ true
      → HasBegun same (v ++ x ∷ []) f
  HasBegun-again v f x b old =
      let among : Contains (take b.count f) x =
      rw b.firsts_are at ((Decides-has_same same decides x (firsts same v)).0 old) in
      record {
        count = b.count;
        within = b.within;
        firsts_are = firsts-push same v x ∙ rw old b.firsts_are;
        elements = HaveSame-again v (take b.count f) x b.elements (b.elements.back x among);
      }

  -- what is none of the first ones hasn't come
  pub is_new : (v f : List X) (x : X) (b : HasBegun same v f) → has_same same x (firsts same v) ≡ false → Contains v x
      → ⊥
  is_new v f x b new there =
      let among : Contains (firsts same v) x = rw (b.firsts_are) (b.elements.forth x there) in
      not_from_Decides (has_same same x (firsts same v)) (Decides-has_same same decides x (firsts same v)) new among

  -- what comes next
  HasBegun-next : (v f : List X) (x : X) (b : HasBegun same v f) → has_same same x (firsts same v) ≡ false
      → b.count < length f → get_or f b.count x ≡ x → HasBegun same (v ++ x ∷ []) f
  HasBegun-next v f x b new below here =
      let more : take (b.count + 1) f ≡ take b.count f ++ x ∷ [] =
      take_more f b.count x below ∙ ap (λ y. take b.count f ++ y ∷ []) here in
      record {
        count = b.count + 1;
        within = omega arith;
        firsts_are = firsts-push same v x ∙ rw new (ap (λ ys. ys ++ x ∷ []) b.firsts_are ∙ sym more);
        elements = rw more (HaveSame-push v (take b.count f) x b.elements);
      }

  -- so after one more element, new or not, the first occurrences are still a prefix of f
  HasBegun-push : (v f : List X) (x : X) → HasNoneTwice f → HasBegun same v f → (n : ℕ)
      → HaveSame (v ++ x ∷ []) (take n f)
      → HasBegun same (v ++ x ∷ []) f
  HasBegun-push v f x apart b n after =
      elim (cases_Bool (has_same same x (firsts same v))) [
        | inl old ↦ HasBegun-again v f x b old
        | inr new ↦
            let next = next_is v f x b.count n apart b.elements after (is_new v f x b new) in
            HasBegun-next v f x b new next.0 next.1
      ]

  -- before anything was received, it is the empty prefix
  HasBegun-nil : (f : List X) → HasBegun same [] f
  HasBegun-nil f = record { count = 0; within = omega arith; firsts_are = refl; elements = HaveSame-refl [] }

  -- so it is after each number of elements
  pub HasBegun-replay : (w f : List X) → HasNoneTwice f → IsReplay w f → (k : ℕ) → HasBegun same (take k w) f
  HasBegun-replay w f apart replay zero = HasBegun-nil f
  HasBegun-replay w f apart replay (suc k) =
      let so_far = HasBegun-replay w f apart replay k in
      elim (cases_lt k (length w)) [
        | inl below ↦
            let next = take_next k w below in
            let more : take (suc k) w ≡ take k w ++ next.0 ∷ [] = rw add-one at next.1 in
            let n = replay.prefixes (suc k) in
            let after : HaveSame (take k w ++ next.0 ∷ []) (take n.0 f) = rw more at n.1 in
            rw more (HasBegun-push (take k w) f next.0 apart so_far n.0 after)
        | inr past ↦
            let all : take (suc k) w ≡ take k w = take_all (suc k) w (omega arith) ∙ sym (take_all k w past) in
            rw all so_far
      ]

  -- if f has no duplicates, a replay of f without the replay's duplicates is a prefix of f
  pub IsPrefix-firsts : (w f : List X) → HasNoneTwice f → IsReplay w f → IsPrefix (firsts same w) f
  IsPrefix-firsts w f apart replay =
      let all : take (length w) w ≡ w = take_all (length w) w (omega arith) in
      let b : HasBegun same w f = rw all at (HasBegun-replay w f apart replay (length w)) in
      record { rest = drop b.count f; whole = rw b.firsts_are (take-append-drop b.count f) }

-- ---- elements by their places in f

-- an element of f that was already received, or that is the next one
pub HaveSame-place : {X : Type 0} (w f : List X) (x : X) (n i : ℕ) → HaveSame w (take n f) → i ≤ n → i < length f
    → get_or f i x ≡ x
    → HaveSame (w ++ x ∷ []) (take (max n (i + 1)) f)
HaveSame-place w f x n i same near below here =
    elim (cases_lt i n) [
      | inl old ↦
          let count : max n (i + 1) ≡ n = omega arith in
          rw count (HaveSame-again w (take n f) x same (same.back x (Contains-from_take n i f x old below here)))
      | inr next ↦
          let is : i ≡ n = omega arith in
          let at : get_or f n x ≡ x = rw is at here in
          let in_f : n < length f = rw is at below in
          let count : max n (i + 1) ≡ n + 1 = omega arith in
          let more : take (n + 1) f ≡ take n f ++ x ∷ [] = take_more f n x in_f ∙ ap (λ y. take n f ++ y ∷ []) at in
          rw (count, more) (HaveSame-push w (take n f) x same)
    ]

-- so any element up to the one that comes next may be sent, and a replay stays one
pub IsReplay-place : {X : Type 0} (w f : List X) (x : X) (n i : ℕ) → IsReplay w f → HaveSame w (take n f) → i ≤ n
    → i < length f
    → get_or f i x ≡ x → IsReplay (w ++ x ∷ []) f
IsReplay-place w f x n i replay same near below here =
    IsReplay-push w f x (max n (i + 1)) replay (HaveSame-place w f x n i same near below here)

-- an element of a prefix is in the list
pub Contains-take_all : {X : Type 0} (n : ℕ) (xs : List X) (x : X) → Contains (take n xs) x → Contains xs x
Contains-take_all n xs x there =
    subst (λ ys. Contains ys x) (take-append-drop n xs) (Contains-append_left (take n xs) (drop n xs) x there)

-- and in each longer prefix
pub Contains-take_longer : {X : Type 0} (m n : ℕ) (xs : List X) (x : X) → m ≤ n → Contains (take m xs) x
    → Contains (take n xs) x
Contains-take_longer m n xs x less there =
    Contains-take_all m (take n xs) x (subst (λ ys. Contains ys x) (sym (take-take m n xs less)) there)

-- an element may be received once all elements before it have been received, and from then on any number of times
pub IsReplay-in_turn : {X : Type 0} (w f : List X) (x : X) (n : ℕ) → IsReplay w f → slice_get f n ≡ Some x
    → ((y : X) → Contains (take n f) y → Contains w y) → IsReplay (w ++ x ∷ []) f
IsReplay-in_turn w f x n replay found before =
    let within : n < length f = slice_get_within f n x found in
    let here : get_or f n x ≡ x = get_or_from_slice_get f n x x found in
    let all = IsReplay-all w f replay in
    elim (cases_lt n all.0) [
      | inl early ↦ IsReplay-place w f x all.0 n replay all.1 (omega arith) within here
      | inr late ↦
          let same : HaveSame w (take n f) =
          record { forth = λ y there. Contains-take_longer all.0 n f y late (all.1.forth y there); back = before } in
          IsReplay-place w f x n n replay same (omega arith) within here
    ]

-- an element of a list without duplicates has a single index
one_place : {X : Type 0} (f : List X) (x : X) (i j : ℕ) → HasNoneTwice f → i < length f → j < length f
    → get_or f i x ≡ x → get_or f j x ≡ x → i ≡ j
one_place f x i j apart in_i in_j here there =
    elim (cases_lt i j) [
      | inl before ↦ absurd (apart i j x before in_j (here ∙ sym there))
      | inr reached ↦
          elim (cases_lt j i) [
            | inl after ↦ absurd (apart j i x after in_i (there ∙ sym here))
            | inr same ↦ omega arith
          ]
    ]

-- a replay that has an element of f has all before it
pub IsReplay-earlier : {X : Type 0} (w f : List X) (x y : X) (i j : ℕ) → IsReplay w f → HasNoneTwice f → i ≤ j
    → j < length f
    → get_or f i x ≡ x → get_or f j y ≡ y → Contains w y → Contains w x
IsReplay-earlier w f x y i j replay apart before below at_i at_j there =
    let all = IsReplay-all w f replay in
    let found = Contains-take all.0 f y (all.1.forth y there) in
    let place : found.0 ≡ j = one_place f y found.0 j apart found.2 below found.3 at_j in
    all.1.back x (Contains-from_take all.0 i f x (omega (arith, place, found.1)) (omega arith) at_i)

-- ---- a replay that has reached the end

-- a replay that has the last element has them all
pub firsts-all : {X : Type 0} (same : X → X → Bool) (decides : (a b : X) → Decides (same a b) (a ≡ b))
    (w f : List X) (x : X)
    → HasNoneTwice (f ++ x ∷ []) → IsReplay w (f ++ x ∷ []) → Contains w x → firsts same w ≡ f ++ x ∷ []
firsts-all same decides w f x apart replay there =
    let all : take (length w) w ≡ w = take_all (length w) w (omega arith) in
    let b : HasBegun same w (f ++ x ∷ []) =
    rw all at (HasBegun-replay same decides w (f ++ x ∷ []) apart replay (length w)) in
    let found = Contains-take b.count (f ++ x ∷ []) x (b.elements.forth x there) in
    let within : length f < length (f ++ x ∷ []) = omega (arith, length-append f (x ∷ [])) in
    let last : found.0 ≡ length f =
    one_place (f ++ x ∷ []) x found.0 (length f) apart found.2 within found.3 (get_or_at f x [] x (length f) refl) in
    b.firsts_are ∙ take_all b.count (f ++ x ∷ []) (omega (arith, length-append f (x ∷ []), last, found.1))
