-- What holds of each element, and what functions that agree on each element make of the list.
use Rattle.cdc_ledger.proofs.Words.{[], ◌++◌, ◌+◌, ◌||◌, ◌∙◌, ◌∷◌, ◌≡◌, AllByRecursion, Bool, List, ap, ap₂, false, list_any, map, refl, sum_by, sym, ℕ, true, find, Option, Some, None, if◌then◌else◌, subst}
use Rattle.std.proofs.lemmas.List.Sums.{sum_by-cons}

module _ {X : Type 0} where
  -- if a fact holds of each element, so does anything that it implies
  pub AllByRecursion-weaker : (P Q : X → Type 0) → ((x : X) → P x → Q x) → (xs : List X) → AllByRecursion P xs
      → AllByRecursion Q xs
  AllByRecursion-weaker P Q f [] h = tt
  AllByRecursion-weaker P Q f (x ∷ xs) h = (f x h.0, AllByRecursion-weaker P Q f xs h.1)

  -- what holds of anything holds of each element
  pub AllByRecursion-every : (P : X → Type 0) → ((x : X) → P x) → (xs : List X) → AllByRecursion P xs
  AllByRecursion-every P f [] = tt
  AllByRecursion-every P f (x ∷ xs) = (f x, AllByRecursion-every P f xs)

  -- what holds of each entry of a history holds with one more entry of which it holds too
  pub AllByRecursion_push : (P : X → Type 0) (xs : List X) (x : X) → AllByRecursion P xs → P x
      → AllByRecursion P (xs ++ x ∷ [])
  AllByRecursion_push P [] x h here = (here, tt)
  AllByRecursion_push P (y ∷ ys) x h here = (h.0, AllByRecursion_push P ys x h.1 here)

  -- two facts of each element at once
  pub AllByRecursion-both : (P Q : X → Type 0) (xs : List X) → AllByRecursion P xs → AllByRecursion Q xs
      → AllByRecursion (λ x. P x × Q x) xs
  AllByRecursion-both P Q [] h k = tt
  AllByRecursion-both P Q (x ∷ xs) h k = ((h.0, k.0), AllByRecursion-both P Q xs h.1 k.1)

  -- sums over entries are equal if each entry adds the same to both
  pub sum_by_same : (f g : X → ℕ) (xs : List X) → AllByRecursion (λ x. f x ≡ g x) xs → sum_by f xs ≡ sum_by g xs
  sum_by_same f g [] h = refl
  sum_by_same f g (x ∷ xs) h = sum_by-cons f x xs
      ∙ (ap₂ (λ a b. a + b) h.0 (sum_by_same f g xs h.1) ∙ sym (sum_by-cons g x xs))

  -- so they are equal if both functions agree on every value
  pub sum_by_every : (f g : X → ℕ) → ((x : X) → f x ≡ g x) → (xs : List X) → sum_by f xs ≡ sum_by g xs
  sum_by_every f g h xs = sum_by_same f g xs (AllByRecursion-every (λ x. f x ≡ g x) h xs)

  -- nothing comes of entries that add nothing
  pub sum_by_zero : (f : X → ℕ) (xs : List X) → AllByRecursion (λ x. f x ≡ 0) xs → sum_by f xs ≡ 0
  sum_by_zero f [] h = refl
  sum_by_zero f (x ∷ xs) h = sum_by-cons f x xs ∙ ap₂ (λ a b. a + b) h.0 (sum_by_zero f xs h.1)

  -- tests that agree on each entry find one or find none alike
  pub list_any_same : (p q : X → Bool) (xs : List X) → AllByRecursion (λ x. p x ≡ q x) xs
      → list_any p xs ≡ list_any q xs
  list_any_same p q [] h = refl
  list_any_same p q (x ∷ xs) h = ap₂ (λ a b. a || b) h.0 (list_any_same p q xs h.1)

  -- if each entry fails the test, no entry passes it
  pub list_any_none : (p : X → Bool) (xs : List X) → AllByRecursion (λ x. p x ≡ false) xs → list_any p xs ≡ false
  list_any_none p [] h = refl
  list_any_none p (x ∷ xs) h = ap₂ (λ a b. a || b) h.0 (list_any_none p xs h.1)

  -- two functions that agree on each element give the same list
  pub map_same : {Y : Type 0} (f g : X → Y) (xs : List X) → AllByRecursion (λ x. f x ≡ g x) xs → map f xs ≡ map g xs
  map_same f g [] h = refl
  map_same f g (x ∷ xs) h = ap₂ (λ a b. a ∷ b) h.0 (map_same f g xs h.1)

-- what a search finds
module _ {X : Type 0} (test : X → Bool) where
  -- the first element is found, or a later one: either way it passes and has what all have
  found_from : (P : X → Type 0) (b : Bool) (x found : X) (rest : Option X) → test x ≡ b → P x
      → (rest ≡ Some found → (test found ≡ true) × P found)
      → (if b then Some x else rest) ≡ Some found → (test found ≡ true) × P found
  found_from P true x found rest is here later e = let same : x ≡ found = cc in
      subst (λ y. (test y ≡ true) × P y) same (is, here)
  found_from P false x found rest is here later e = later e

  -- what is found passes the test, and has what all have
  pub find_all : (P : X → Type 0) (xs : List X) (found : X) → AllByRecursion P xs → find test xs ≡ Some found
      → (test found ≡ true) × P found
  find_all P [] found all e = cc
  find_all P (x ∷ xs) found all e =
      found_from P (test x) x found (find test xs) refl all.0 (find_all P xs found all.1) e

  -- if none is found, the first one fails and none of the others is found
  pub not_found_from : (b : Bool) (x : X) (rest : Option X) → test x ≡ b → (if b then Some x else rest) ≡ None
      → (test x ≡ false) × (rest ≡ None)
  not_found_from true x rest is e = cc
  not_found_from false x rest is e = (is, e)

  -- if none is found, none passes
  pub find_none : (xs : List X) → find test xs ≡ None → AllByRecursion (λ x. test x ≡ false) xs
  find_none [] e = tt
  find_none (x ∷ xs) e =
      let both : (test x ≡ false) × (find test xs ≡ None) = not_found_from (test x) x (find test xs) refl e in
      (both.0, find_none xs both.1)

-- a test that fails adds nothing to another
pub or_none : (b c : Bool) → c ≡ false → (b || c) ≡ b
or_none true c fails = refl
or_none false c fails = fails

-- one map after another
pub map-map : {X Y Z : Type 0} (g : Y → Z) (f : X → Y) (xs : List X) → map g (map f xs) ≡ map (λ x. g (f x)) xs
map-map g f [] = refl
map-map g f (x ∷ xs) = ap (λ ys. g (f x) ∷ ys) (map-map g f xs)
