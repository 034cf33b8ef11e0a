-- A list that is made of another one, and made again by a loop, one element after another.
use Rattle.cdc_commands.proofs.Terms.{List, Some, [], ap, append-nil, ap₂, arith, drop, drop_all, length, map, refl, slice_set, suc, take, take_all, zero, ℕ, ◌++◌, ◌+◌, ◌∙◌, ◌∷◌, ◌≡◌, ◌≤◌}
use Rattle.std.specs.Prelude.{slice_get}

-- the first elements are made as they will be, the others as they were
abbrev pub halfway : {X Y : Type 0} → ℕ → (X → Y) → (X → Y) → List X → List Y
halfway k new old xs = map new (take k xs) ++ map old (drop k xs)

-- the next element is as it was
pub halfway-get : {X Y : Type 0} (k : ℕ) (new old : X → Y) (xs : List X) (x : X) → slice_get xs k ≡ Some x
    → slice_get (halfway k new old xs) k ≡ Some (old x)
halfway-get k new old [] x found = cc
halfway-get zero new old (y ∷ ys) x found = let same : y ≡ x = cc in ap (λ z. Some (old z)) same
halfway-get (suc k) new old (y ∷ ys) x found = halfway-get k new old ys x found

-- it is made as it will be
pub halfway-set : {X Y : Type 0} (k : ℕ) (new old : X → Y) (xs : List X) (x : X) → slice_get xs k ≡ Some x
    → slice_set (halfway k new old xs) k (new x) ≡ halfway (k + 1) new old xs
halfway-set k new old [] x found = cc
halfway-set zero new old (y ∷ ys) x found =
    let same : x ≡ y = cc in ap (λ z. new z ∷ map old ys) same
halfway-set (suc k) new old (y ∷ ys) x found =
    ap (λ zs. new y ∷ zs) (halfway-set k new old ys x found)
    ∙ ap (λ n. halfway n new old (y ∷ ys)) (let e : suc (k + 1) ≡ suc k + 1 = omega arith in e)

-- all are made
pub halfway-all : {X Y : Type 0} (k : ℕ) (new old : X → Y) (xs : List X) → length xs ≤ k
    → halfway k new old xs ≡ map new xs
halfway-all k new old xs past =
    ap₂ (λ ys zs. map new ys ++ map old zs) (take_all k xs past) (drop_all k xs past) ∙ append-nil (map new xs)

-- there are as many as in the other list
pub halfway-length : {X Y : Type 0} (k : ℕ) (new old : X → Y) (xs : List X)
    → length (halfway k new old xs) ≡ length xs
halfway-length zero new old [] = refl
halfway-length zero new old (y ∷ ys) = ap suc (halfway-length zero new old ys)
halfway-length (suc k) new old [] = refl
halfway-length (suc k) new old (y ∷ ys) = ap suc (halfway-length k new old ys)
