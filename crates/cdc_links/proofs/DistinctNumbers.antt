-- Numbers that are all different and all below some bound, as many as the bound: each number below it is one of them.
use Rattle.std.proofs.Common.{◌≡◌, ◌≢◌, ◌==◌, ◌+◌, ◌<◌, ◌≤◌, ◌⊎◌, inl, inr, ⊎_elim, ℕ, zero, suc, Bool, true, false, cond, List, [], ◌∷◌, length, sym, refl, ap, ◌∙◌, subst, Contains, eq-eqb, ne_eqb, arith}
use mathlib.Core.Logic.{dite}
use native.Mathlib.Decide.{ℕ_discrete}

-- a number is among the numbers
abbrev pub In : ℕ → List ℕ → Type 0
In j [] = ⊥
In j (x ∷ xs) = (x ≡ j) ⊎ In j xs

-- a number is none of them
abbrev pub Away : ℕ → List ℕ → Type 0
Away j [] = Unit {0}
Away j (x ∷ xs) = (x ≢ j) × Away j xs

-- no number occurs twice
abbrev pub Distinct : List ℕ → Type 0
Distinct [] = Unit {0}
Distinct (x ∷ xs) = Away x xs × Distinct xs

-- all are below n
abbrev pub Below : ℕ → List ℕ → Type 0
Below n [] = Unit {0}
Below n (x ∷ xs) = (x < n) × Below n xs

-- how often a number occurs
abbrev pub hits : ℕ → List ℕ → ℕ
hits j [] = 0
hits j (x ∷ xs) = cond (j == x) 1 0 + hits j xs

-- the numbers but one
without : ℕ → List ℕ → List ℕ
without j [] = []
without j (x ∷ xs) = cond (x == j) (without j xs) (x ∷ without j xs)

-- two numbers are equal or not
pub by_equal : (x j : ℕ) (P : Bool → Type 0) → (x ≡ j → P true) → (x ≢ j → P false) → P (x == j)
by_equal x j P same other =
    dite (ℕ_discrete x j) (λ e. subst P (sym (eq-eqb x j e)) (same e)) (λ ne. subst P (sym (ne_eqb x j ne)) (other ne))

-- a number is among them, or none of them
pub in_or_away : (j : ℕ) (xs : List ℕ) → In j xs ⊎ Away j xs
in_or_away j [] = inr tt
in_or_away j (x ∷ xs) =
    dite (ℕ_discrete x j) (λ e. inl (inl e)) (λ ne. ⊎_elim (λ h. inl (inr h)) (λ h. inr (ne, h)) (in_or_away j xs))

-- a number among them is at some place
pub in-contains : (j : ℕ) (xs : List ℕ) → In j xs → Contains xs j
in-contains j [] h = absurd h
in-contains j (x ∷ xs) (inl e) = (0, omega arith, e)
in-contains j (x ∷ xs) (inr h) =
    let rest = in-contains j xs h in
    let below : rest.0 < length xs = rest.1 in
    (suc rest.0, omega arith, rest.2)

away-without : (k j : ℕ) (xs : List ℕ) → Away k xs → Away k (without j xs)
unfolding without
away-without k j [] h = tt
away-without k j (x ∷ xs) h =
    let rest = away-without k j xs h.1 in
    by_equal x j (λ b. Away k (cond b (without j xs) (x ∷ without j xs))) (λ _. rest) (λ _. (h.0, rest))

distinct-without : (j : ℕ) (xs : List ℕ) → Distinct xs → Distinct (without j xs)
unfolding without
distinct-without j [] h = tt
distinct-without j (x ∷ xs) h =
    let rest = distinct-without j xs h.1 in
    by_equal x j (λ b. Distinct (cond b (without j xs) (x ∷ without j xs))) (λ _. rest)
    (λ _. (away-without x j xs h.0, rest))

below-without : (n : ℕ) (xs : List ℕ) → Below (suc n) xs → Below n (without n xs)
unfolding without
below-without n [] h = tt
below-without n (x ∷ xs) h =
    let rest = below-without n xs h.1 in
    let at_most : x < suc n = h.0 in
    by_equal x n (λ b. Below n (cond b (without n xs) (x ∷ without n xs))) (λ _. rest) (λ ne. (omega arith, rest))

without-away : (j : ℕ) (xs : List ℕ) → Away j xs → without j xs ≡ xs
unfolding without
without-away j [] h = refl
without-away j (x ∷ xs) h =
    by_equal x j (λ b. cond b (without j xs) (x ∷ without j xs) ≡ x ∷ xs) (λ e. absurd (h.0 e))
    (λ _. ap (λ l. x ∷ l) (without-away j xs h.1))

length-without : (j : ℕ) (xs : List ℕ) → Distinct xs → length xs ≤ suc (length (without j xs))
unfolding without
length-without j [] h = omega arith
length-without j (x ∷ xs) h =
    let rest : length xs ≤ suc (length (without j xs)) = length-without j xs h.1 in
    by_equal x j (λ b. suc (length xs) ≤ suc (length (cond b (without j xs) (x ∷ without j xs))))
    (λ e. let n : length (without j xs) ≡ length xs = ap length (without-away j xs (subst (λ k. Away k xs) e h.0)) in
    omega arith)
    (λ _. omega arith)

-- there are no more different numbers below n than n
pub at_most : (n : ℕ) (xs : List ℕ) → Distinct xs → Below n xs → length xs ≤ n
at_most zero [] h below = omega arith
at_most zero (x ∷ xs) h below = let none : x < 0 = below.0 in absurd (omega arith)
at_most (suc n) xs h below =
    let rest : length (without n xs) ≤ n =
    at_most n (without n xs) (distinct-without n xs h) (below-without n xs below) in
    let one = length-without n xs h in
    omega arith

-- n different numbers below n are all of them
pub all_there : (n : ℕ) (xs : List ℕ) → Distinct xs → Below n xs → length xs ≡ n → (j : ℕ) → j < n → In j xs
all_there n xs h below many j less =
    ⊎_elim (λ i. i)
    (λ away. let more : suc (length xs) ≤ n = at_most n (j ∷ xs) (away, h) (less, below) in absurd (omega arith))
    (in_or_away j xs)

-- a number isn't among those that it is none of
not_both : (j x : ℕ) (xs : List ℕ) → x ≡ j → Away x xs → In j xs → ⊥
not_both j x [] e h i = i
not_both j x (y ∷ ys) e h (inl is) = h.0 (is ∙ sym e)
not_both j x (y ∷ ys) e h (inr i) = not_both j x ys e h.1 i

-- a number that isn't there occurs 0 times
hits-away : (j : ℕ) (xs : List ℕ) → Away j xs → hits j xs ≡ 0
hits-away j [] h = refl
hits-away j (x ∷ xs) h =
    let rest = hits-away j xs h.1 in
    by_equal j x (λ b. cond b 1 0 + hits j xs ≡ 0) (λ e. absurd (h.0 (sym e))) (λ _. omega arith)

-- one of distinct numbers occurs once
pub hits-once : (j : ℕ) (xs : List ℕ) → Distinct xs → In j xs → hits j xs ≡ 1
hits-once j [] h i = absurd i
hits-once j (x ∷ xs) h (inl e) =
    let rest = hits-away j xs (subst (λ k. Away k xs) e h.0) in
    by_equal j x (λ b. cond b 1 0 + hits j xs ≡ 1) (λ _. omega arith) (λ ne. absurd (ne (sym e)))
hits-once j (x ∷ xs) h (inr i) =
    by_equal j x (λ b. cond b 1 0 + hits j xs ≡ 1) (λ e. absurd (not_both j x xs (sym e) h.0 i))
    (λ _. let rest = hits-once j xs h.1 i in omega arith)
