-- Transfers in the order of their expiry times: the soonest of all is first, and the rest are ordered as without it.
use Rattle.cdc_ledger.proofs.Words.{[], ◌&&◌, ◌++◌, ◌==◌, ◌||◌, ◌∙◌, ◌∷◌, ◌≡◌, AllByRecursion, Bool, List, Transfer, ap, arith, expires_at, false, if◌then◌else◌, in_order_of_end, insert_by_end, is_sooner, length, nat_lt, refl, suc, true, ℕ}
use Rattle.std.proofs.lemmas.Bool.Decides.{nat_tests}

-- if one pair of timestamp and number is before another, the other isn't before it
sooner_once : (a b s t : ℕ) → (nat_lt a b || ((a == b) && nat_lt s t)) ≡ true
    → (nat_lt b a || ((b == a) && nat_lt t s)) ≡ false
sooner_once a b s t sooner = grind (arith, nat_tests)

-- of two transfers at most one expires sooner than the other
pub is_sooner-once : (p q : Transfer) → is_sooner p q ≡ true → is_sooner q p ≡ false
is_sooner-once p q = sooner_once (expires_at p) (expires_at q) p.timestamp q.timestamp

-- what holds of two lists holds of either
either : (P : List Transfer → Type 0) (b : Bool) (xs ys : List Transfer) → P xs → P ys → P (if b then xs else ys)
either P true xs ys here there = here
either P false xs ys here there = there

-- what holds of each stays so in the order
module _ (P : Transfer → Type 0) where
  -- a property of a transfer and of each of a list's transfers still holds of each after the insert
  pub All-insert_by_end : (p : Transfer) (qs : List Transfer) → P p → AllByRecursion P qs
      → AllByRecursion P (insert_by_end p qs)
  All-insert_by_end p [] here all = (here, tt)
  All-insert_by_end p (q ∷ qs) here all =
      either (AllByRecursion P) (is_sooner q p) (q ∷ insert_by_end p qs) (p ∷ q ∷ qs)
      (all.0, All-insert_by_end p qs here all.1) (here, all)

  -- so what holds of all transfers holds of them in order
  pub All-in_order : (ps : List Transfer) → AllByRecursion P ps → AllByRecursion P (in_order_of_end ps)
  All-in_order [] all = tt
  All-in_order (p ∷ ps) all = All-insert_by_end p (in_order_of_end ps) all.0 (All-in_order ps all.1)

-- a transfer put in its place among others makes one more
length-insert_by_end : (p : Transfer) (qs : List Transfer) → length (insert_by_end p qs) ≡ suc (length qs)
length-insert_by_end p [] = refl
length-insert_by_end p (q ∷ qs) =
    either (λ xs. length xs ≡ suc (suc (length qs))) (is_sooner q p) (q ∷ insert_by_end p qs) (p ∷ q ∷ qs)
    (ap suc (length-insert_by_end p qs)) refl

-- the order takes none away
pub length-in_order : (ps : List Transfer) → length (in_order_of_end ps) ≡ length ps
length-in_order [] = refl
length-in_order (p ∷ ps) = length-insert_by_end p (in_order_of_end ps) ∙ ap suc (length-in_order ps)

-- p comes before all of these
abbrev pub IsSoonest : Transfer → List Transfer → Type 0
IsSoonest p = AllByRecursion (λ q. is_sooner p q ≡ true)

-- a transfer that expires sooner than all others is inserted before them
insert_by_end-first : (p : Transfer) (qs : List Transfer) → IsSoonest p qs → insert_by_end p qs ≡ p ∷ qs
insert_by_end-first p [] all = refl
insert_by_end-first p (q ∷ qs) all =
    ap (λ b. if b then q ∷ insert_by_end p qs else p ∷ q ∷ qs) (is_sooner-once p q all.0)

-- the order puts the soonest transfer first, wherever it was
pub in_order-soonest : (p : Transfer) (front back : List Transfer) → IsSoonest p front → IsSoonest p back
    → in_order_of_end (front ++ p ∷ back) ≡ p ∷ in_order_of_end (front ++ back)
in_order-soonest p [] back before after =
    insert_by_end-first p (in_order_of_end back) (All-in_order (λ q. is_sooner p q ≡ true) back after)
in_order-soonest p (q ∷ front) back before after =
    ap (insert_by_end q) (in_order-soonest p front back before.1 after)
    ∙ ap (λ b. if b then p ∷ insert_by_end q (in_order_of_end (front ++ back))
    else q ∷ p ∷ in_order_of_end (front ++ back))
    before.0
