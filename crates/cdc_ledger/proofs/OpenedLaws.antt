-- Which account is opened once there is one more.
use Rattle.cdc_ledger.proofs.Words.{[], ◌++◌, ◌==◌, ◌∙◌, ◌∷◌, ◌≡◌, ◌≢◌, AllByRecursion, AreApart, Entry, HasAccounts, History, IsSome, List, None, Opened, Option, Some, ap, find, if◌then◌else◌, is_some, map, opened, option_or, refl, subst, sym, ℕ}
use Rattle.std.proofs.lemmas.List.Folds.{find-append}
use Rattle.std.proofs.lemmas.Bool.{eqb-true, eqb-false}
use Rattle.std.proofs.lemmas.List.{map_push}
use Rattle.cdc_ledger.proofs.Changes.{with_account}
use Rattle.cdc_ledger.proofs.Elements.{AllByRecursion_push, AllByRecursion-every, find_all, not_found_from}

-- an id is looked up among the accounts that were there, and then it may be the new one's
pub opened-with_account : (h : History) (o : Opened) (id : ℕ)
    → opened (with_account h o) id ≡ option_or (opened h id) (if o.request.id == id then Some o else None)
opened-with_account h o id = find-append (λ x. x.request.id == id) h.accounts (o ∷ [])

-- what is found among those that were there is the answer
some_stays : (p q : Option Opened) → IsSome p → option_or p q ≡ p
some_stays None q h = cc
some_stays (Some x) q h = refl

-- an account that was there is found as before, so that events still show it
pub opened-with_account_same : (h : History) (o : Opened) (id : ℕ) → IsSome (opened h id)
    → opened (with_account h o) id ≡ opened h id
opened-with_account_same h o id there = opened-with_account h o id ∙ some_stays (opened h id) _ there

-- the account that is found has the id
pub opened_id : (h : History) (o : Opened) (id : ℕ) → opened h id ≡ Some o → o.request.id ≡ id
opened_id h o id e =
    eqb-true o.request.id id (find_all (λ x. x.request.id == id) (λ x. Unit {0}) h.accounts o
    (AllByRecursion-every (λ x. Unit {0}) (λ x. tt) h.accounts) e).0

-- what holds of the accounts of every entry stays
pub HasAccounts-with_account : (h : History) (o : Opened) (e : Entry) → HasAccounts h e
    → HasAccounts (with_account h o) e
HasAccounts-with_account h o e has = (
  ap is_some (opened-with_account_same h o e.transfer.debit_account_id has.0) ∙ has.0,
  ap is_some (opened-with_account_same h o e.transfer.credit_account_id has.1) ∙ has.1,
)

-- ids that don't occur twice

-- ids stay apart with one more that is unlike all before it
pub AreApart_push : (ns : List ℕ) (n : ℕ) → AreApart ns → AllByRecursion (λ m. m ≢ n) ns → AreApart (ns ++ n ∷ [])
AreApart_push [] n apart new = (tt, tt)
AreApart_push (m ∷ ns) n apart new =
    (AllByRecursion_push (λ k. m ≢ k) ns n apart.0 new.0, AreApart_push ns n apart.1 new.1)

-- a free id is unlike the ids of all accounts
free_ids : (id : ℕ) (xs : List Opened) → find (λ x. x.request.id == id) xs ≡ None
    → AllByRecursion (λ m. m ≢ id) (map (λ x. x.request.id) xs)
free_ids id [] e = tt
free_ids id (x ∷ xs) e =
    let both = not_found_from (λ y. y.request.id == id) (x.request.id == id) x (find (λ y. y.request.id == id) xs)
    refl e in
    (eqb-false x.request.id id both.0, free_ids id xs both.1)

-- one more account, of a free id, is apart from the others
pub AreApart-with_account : (h : History) (o : Opened) → AreApart (map (λ x. x.request.id) h.accounts)
    → opened h o.request.id ≡ None
    → AreApart (map (λ x. x.request.id) (with_account h o).accounts)
AreApart-with_account h o apart free =
    subst AreApart (sym (map_push (λ x. x.request.id) h.accounts o))
    (AreApart_push (map (λ x. x.request.id) h.accounts) o.request.id apart (free_ids o.request.id h.accounts free))
