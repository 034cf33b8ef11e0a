-- Accounts that are found among those that the ledger keeps.
use Rattle.cdc_ledger.proofs.Words.{[], ◌==◌, ◌∙◌, ◌∷◌, ◌≡◌, Account, Bool, History, List, Option, Some, account_now, accounts_now, ap, cond, false, find, map, opened, option_map, refl, true, ℕ}

module _ {A B : Type 0} (p : B → Bool) (f : A → B) where
  -- the first element passes and is found, or the search goes on, before the change as after it
  found : (b : Bool) (x : A) (o : Option A) (q : Option B) → q ≡ option_map f o
      → cond b (Some (f x)) q ≡ option_map f (cond b (Some x) o)
  found true x o q e = refl
  found false x o q e = e

  -- so an account is found under its id, whether balances are shown with it or not
  pub find-map : (xs : List A) → find p (map f xs) ≡ option_map f (find (λ x. p (f x)) xs)
  find-map [] = refl
  find-map (x ∷ xs) = found (p (f x)) x (find (λ y. p (f y)) xs) (find p (map f xs)) (find-map xs)

-- an id that is looked up among the accounts gives the opened account with its balances now
pub find-accounts_now : (h : History) (id : ℕ)
    → find (λ a. a.id == id) (accounts_now h) ≡ option_map (account_now h) (opened h id)
find-accounts_now h id = find-map (λ (a : Account). a.id == id) (account_now h) h.accounts

-- the same among the accounts that the tables keep, which are these
pub find-same : (h : History) (xs : List Account) (id : ℕ) → xs ≡ accounts_now h
    → find (λ a. a.id == id) xs ≡ option_map (account_now h) (opened h id)
find-same h xs id same = ap (λ (ys : List Account). find (λ a. a.id == id) ys) same ∙ find-accounts_now h id
