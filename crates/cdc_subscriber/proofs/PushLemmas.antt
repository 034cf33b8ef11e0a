-- Accounts that join a book at its end, and that a book has each account once.
use Rattle.std.proofs.Common.{◌≡◌, ℕ, true, false, List, [], ◌∷◌, ◌++◌, refl, ap, inl, inr, is_some}
use Rattle.std.specs.Prelude.{nat_eq, ◌==◌}
use Rattle.std.specs.List.{AllByRecursion, IsDistinct}
use Rattle.std.specs.Map.{keys_of, lookup}
use Rattle.std.proofs.lemmas.Bool.Decides.{eqb_tells}
use Rattle.std.proofs.lemmas.Map.Keys.{IsDistinct-head, IsDistinct-tail}
use Rattle.cdc_types.specs.declared.accounts.Balances.{Balances}
use Rattle.cdc_subscriber.specs.declared.book.BookEntry.{BookEntry}
use Rattle.cdc_subscriber.specs.Book.{are_distinct, entries_of, ids_of, is_among, put}
use Rattle.cdc_subscriber.proofs.BookLemmas.{eqb_same, eqb_swap, neither}

-- a number is found among accounts exactly if it is the number of one of them
pub lookup-is_among : (accounts : List (ℕ × Balances)) (id : ℕ)
    → is_some (lookup (nat_eq id) accounts) ≡ is_among id (ids_of (entries_of accounts))
lookup-is_among [] id = refl
lookup-is_among (account ∷ rest) id =
    elim (eqb_tells account.0 id) [
      | inl same ↦ rw (same.0, same.1, eqb_same id) refl
      | inr other ↦ rw (other.0, eqb_swap account.0 id other.0) (lookup-is_among rest id)
    ]

-- an account with a number that the book doesn't have comes last
pub put-absent : (entry : BookEntry) (book : List BookEntry) → is_among entry.id (ids_of book) ≡ false
    → put entry book ≡ book ++ entry ∷ []
put-absent entry [] absent = refl
put-absent entry (other ∷ rest) absent =
    let both = neither (other.id == entry.id) (is_among entry.id (ids_of rest)) absent in
    rw both.0 (ap (λ (es : List BookEntry). other ∷ es) (put-absent entry rest both.1))

-- a number that differs from all keys isn't among the accounts
apart : (id : ℕ) (accounts : List (ℕ × Balances)) → AllByRecursion (λ key. nat_eq id key ≡ false) (keys_of accounts)
    → is_among id (ids_of (entries_of accounts)) ≡ false
apart id [] all = refl
apart id (account ∷ rest) all = rw (eqb_swap id account.0 all.0) (apart id rest all.1)

-- keys that are distinct are numbers of which none stands twice
pub are_distinct-keys : (accounts : List (ℕ × Balances)) → IsDistinct nat_eq (keys_of accounts)
    → are_distinct (ids_of (entries_of accounts)) ≡ true
are_distinct-keys [] distinct = refl
are_distinct-keys (account ∷ rest) distinct =
    let first = apart account.0 rest (IsDistinct-head nat_eq account.0 (keys_of rest) distinct) in
    rw first (are_distinct-keys rest (IsDistinct-tail nat_eq account.0 (keys_of rest) distinct))

-- an account of the book is still there after another is put
pub is_among-put : (id : ℕ) (entry : BookEntry) (book : List BookEntry) → is_among id (ids_of book) ≡ true
    → is_among id (ids_of (put entry book)) ≡ true
is_among-put id entry [] here = cc
is_among-put id entry (other ∷ rest) here =
    elim (eqb_tells other.id entry.id) [
      | inl same ↦ rw (same.0, ← same.1) here
      | inr apart ↦ elim (eqb_tells other.id id) [
        | inl first ↦ rw (apart.0, first.0) refl
        | inr later ↦ rw (apart.0, later.0) (is_among-put id entry rest (rw later.0 at here))
      ]
    ]
