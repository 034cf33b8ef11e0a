-- A replay remains a replay if the same elements are removed from both lists.
use Rattle.std.proofs.Common.{◌≡◌, ℕ, zero, suc, Bool, true, false, cond, List, [], ◌∷◌, take, refl, ap, inl, inr, arith}
use Rattle.std.specs.Prelude.{Contains, filter}
use Rattle.std.proofs.lemmas.List.Elements.{All-contains, All-filter, All-contains_itself, filter_passes, Contains-append_left, Contains-append_right, Contains-append_cases, Contains-push, Contains-push_cases}
use Rattle.cdc_message.specs.Replays.{HaveSame, IsReplay}

-- ---- the elements of a filtered list

-- an element of a filtered list passes the test, and was in the list
filtered_passes : {X : Type 0} (p : X → Bool) (xs : List X) (x : X) → Contains (filter p xs) x → p x ≡ true
filtered_passes p xs x h = All-contains (λ y. p y ≡ true) (filter p xs) x (filter_passes p xs) h

-- so everything in a queue was published
filtered_was_there : {X : Type 0} (p : X → Bool) (xs : List X) (x : X) → Contains (filter p xs) x → Contains xs x
filtered_was_there p xs x h =
    All-contains (Contains xs) (filter p xs) x (All-filter p (Contains xs) xs (All-contains_itself xs)) h

-- an element of the rest of a list, whether or not the first one is kept
kept_after : {X : Type 0} (first : X) (rest : List X) (x : X) (b : Bool) → Contains rest x
    → Contains (cond b (first ∷ rest) rest) x
kept_after first rest x true h = Contains-append_right (first ∷ []) rest x h
kept_after first rest x false h = h

-- the first element, which is kept
kept_first : {X : Type 0} (p : X → Bool) (first x : X) (rest : List X) → first ≡ x → p x ≡ true
    → Contains (cond (p first) (first ∷ rest) rest) x
kept_first p first x rest is passes = rw (is, passes) (Contains-append_left (x ∷ []) rest x (Contains-push [] x))

-- an empty list contains nothing
none_there : {X : Type 0} (x : X) → Contains [] x → ⊥
none_there x h = omega (arith, h.1)

-- an element that passes the test stays
stays : {X : Type 0} (p : X → Bool) (xs : List X) (x : X) → Contains xs x → p x ≡ true → Contains (filter p xs) x
stays p [] x h passes = h
stays p (y ∷ ys) x h passes =
    elim (Contains-append_cases (y ∷ []) ys x h) [
      | inl here ↦
          elim (Contains-push_cases [] y x here) [
            | inl nowhere ↦ absurd (none_there x nowhere)
            | inr is ↦ kept_first p y x (filter p ys) is passes
          ]
      | inr later ↦ kept_after y (filter p ys) x (p y) (stays p ys x later passes)
    ]

-- so of two lists with the same elements the queues have the same ones too
HaveSame-filter : {X : Type 0} (p : X → Bool) (xs ys : List X) → HaveSame xs ys → HaveSame (filter p xs) (filter p ys)
HaveSame-filter p xs ys same = record {
  forth = λ x h. stays p ys x (same.forth x (filtered_was_there p xs x h)) (filtered_passes p xs x h);
  back = λ x h. stays p xs x (same.back x (filtered_was_there p ys x h)) (filtered_passes p ys x h);
}

-- ---- the prefixes of a filtered list

-- `kept` is what a filter leaves of some prefix of xs
record Begins {X : Type 0} (p : X → Bool) (xs kept : List X) : Type 0 where
  length : ℕ
  is : kept ≡ filter p (take length xs)

-- one more element in front of the prefix, kept or not
begins_with : {X : Type 0} (p : X → Bool) (x : X) (xs : List X) (n : ℕ) (b : Bool) → Begins p xs (take n (filter p xs))
    → Begins p xs (take (suc n) (filter p xs))
    → (k : ℕ)
    × (take (suc n) (cond b (x ∷ filter p xs) (filter p xs)) ≡ cond b (x ∷ filter p (take k xs)) (filter p (take k xs)))
begins_with p x xs n true kept passed = (kept.length, ap (λ ys. x ∷ ys) kept.is)
begins_with p x xs n false kept passed = (passed.length, passed.is)

-- a prefix of a filtered list is what the filter leaves of a prefix
begins : {X : Type 0} (p : X → Bool) (xs : List X) (n : ℕ) → Begins p xs (take n (filter p xs))
begins p xs zero = record { length = 0; is = refl }
begins p [] (suc n) = record { length = 0; is = refl }
begins p (x ∷ xs) (suc n) =
    let k = begins_with p x xs n (p x) (begins p xs n) (begins p xs (suc n)) in
    record { length = suc k.0; is = k.1 }

-- `kept` is a prefix of a filtered list
record IsPrefix {X : Type 0} (p : X → Bool) (xs kept : List X) : Type 0 where
  length : ℕ
  is : kept ≡ take length (filter p xs)

-- the same with one more element before it, kept or not
filtered_with : {X : Type 0} (p : X → Bool) (x : X) (xs kept : List X) (b : Bool) → IsPrefix p xs kept
    → (k : ℕ) × (cond b (x ∷ kept) kept ≡ take k (cond b (x ∷ filter p xs) (filter p xs)))
filtered_with p x xs kept true h = (suc h.length, ap (λ ys. x ∷ ys) h.is)
filtered_with p x xs kept false h = (h.length, h.is)

-- what a filter leaves of a prefix is a prefix of the filtered list
filtered_begins : {X : Type 0} (p : X → Bool) (xs : List X) (m : ℕ) → IsPrefix p xs (filter p (take m xs))
filtered_begins p xs zero = record { length = 0; is = refl }
filtered_begins p [] (suc m) = record { length = 0; is = refl }
filtered_begins p (x ∷ xs) (suc m) =
    let k = filtered_with p x xs (filter p (take m xs)) (p x) (filtered_begins p xs m) in
    record { length = k.0; is = k.1 }

-- ---- the law

-- the queue of a replay is a replay of the queue, whatever a binding takes
pub IsReplay-filter : {X : Type 0} (p : X → Bool) (w f : List X) → IsReplay w f → IsReplay (filter p w) (filter p f)
IsReplay-filter p w f replay = record {
  prefixes = λ n.
      let of_w = begins p w n in
      let of_f = replay.prefixes of_w.length in
      let front = filtered_begins p f of_f.0 in
      (front.length, rw (of_w.is, ← front.is) (HaveSame-filter p (take of_w.length w) (take of_f.0 f) of_f.1));
}
