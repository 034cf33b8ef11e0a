-- A map from ids to places answers what a search of the list would, also once the list has one more element.
use Rattle.cdc_ledger.proofs.Words.{[], ◌&&◌, ◌++◌, ◌+◌, ◌==◌, ◌∙◌, ◌∷◌, ◌≡◌, ◌≤◌, Account, Bool, Entry, History, List, None, Option, PlacesById, Some, account_now, account_place, accounts_now, ap, ap₂, arith, cond, false, find, get_or, if◌then◌else◌, length, nat_lt, opened, option_map, place_of, position, position_from, position_or_len, refl, stored, stored_place, stores, suc, sym, true, ℕ}
use Rattle.std.specs.List.{slice_get}
use Rattle.std.proofs.lemmas.Bool.{eqb-true, and_parts, false≢true, ltb-false}
use Rattle.std.proofs.lemmas.Iterator.Adapters.{position_from-zero}
use Rattle.std.proofs.lemmas.List.Folds.{find_at}
use Rattle.std.proofs.lemmas.List.Quantifiers.{position-Some}
use Rattle.std.proofs.lemmas.Option.{slice_get-get_or, slice_get_past}
use Rattle.cdc_ledger.proofs.Found.{find-same}

-- the index that a search returns is the one at which it stopped
place_from : (b : Bool) (n k : ℕ) → cond b (Some n) None ≡ Some k → n ≡ k
place_from true n k e = cc
place_from false n k e = cc

-- a search that returns no index went past the end
no_place : (b : Bool) (n : ℕ) → cond b (Some n) None ≡ None → b ≡ false
no_place true n e = cc
no_place false n e = refl

module _ {X : Type 0} (test : X → Bool) where
  -- the element at the index that a search returns is the one that it finds
  pub find-place : (xs : List X) (place : ℕ) (d : X) → position test xs ≡ Some place
      → find test xs ≡ Some (get_or xs place d)
  find-place xs place d at =
      let same : position_or_len test xs ≡ place =
      place_from (nat_lt (position_or_len test xs) (length xs)) _ place at in
      find_at test xs ∙ ap (slice_get xs) same ∙ slice_get-get_or xs place d (position-Some test xs place d at).0

  -- if a search returns no index, no element passes
  pub find-no_place : (xs : List X) → position test xs ≡ None → find test xs ≡ None
  find-no_place xs at =
      let past : length xs ≤ position_or_len test xs =
      ltb-false (position_or_len test xs) (length xs)
      (no_place (nat_lt (position_or_len test xs) (length xs)) _ at) in
      find_at test xs ∙ slice_get_past xs _ past

  -- a first element, by whether it passes and whether the last one does
  first_of : (b c : Bool) (i n : ℕ) (y : X) (found : Option X) (later now : Option ℕ)
      → (c ≡ true → cond b (Some y) found ≡ None)
      → ((c ≡ true → found ≡ None) → later ≡ (if c then Some (i + 1 + n) else now))
      → cond b (Some i) later ≡ (if c then Some (i + suc n) else cond b (Some i) now)
  first_of true true i n y found later now new rest = let wrong : Some y ≡ None = new refl in cc
  first_of true false i n y found later now new rest = refl
  first_of false true i n y found later now new rest = rest (λ q. new refl) ∙ ap Some (omega arith)
  first_of false false i n y found later now new rest = rest (λ q. absurd (false≢true q))

  -- the last element is found if it passes and no element before it does
  from_pushed : (i : ℕ) (xs : List X) (x : X) → (test x ≡ true → find test xs ≡ None)
      → position_from test i (xs ++ x ∷ [])
      ≡ (if test x then Some (i + length xs) else position_from test i xs)
  from_pushed i [] x new = ap (λ n. if test x then Some n else None) (omega arith)
  from_pushed i (y ∷ ys) x new =
      first_of (test y) (test x) i (length ys) y (find test ys) (position_from test (i + 1) (ys ++ x ∷ []))
      (position_from test (i + 1) ys) new (from_pushed (i + 1) ys x)

  -- so an element that is found nowhere goes last
  pub position-pushed : (xs : List X) (x : X) → (test x ≡ true → find test xs ≡ None)
      → position test (xs ++ x ∷ []) ≡ (if test x then Some (length xs) else position test xs)
  position-pushed xs x new =
      let from_zero : 0 + length xs ≡ length xs = omega arith in
      position_from-zero test (xs ++ x ∷ []) ∙ from_pushed 0 xs x new
      ∙ ap₂ (λ n o. if test x then Some n else o) from_zero (sym (position_from-zero test xs))

-- the places of accounts with one more, of an id that none has
pub accounts_placed-opened : (h : History) (ids ids' : PlacesById) (xs : List Account) (a : Account)
    → xs ≡ accounts_now h → opened h a.id ≡ None
    → ((id : ℕ) → place_of ids id ≡ account_place xs id)
    → ((id : ℕ) → place_of ids' id ≡ (if a.id == id then Some (length xs) else place_of ids id))
    → (id : ℕ) → place_of ids' id ≡ account_place (xs ++ a ∷ []) id
accounts_placed-opened h ids ids' xs a same free placed added id =
    added id ∙ ap (λ o. if a.id == id then Some (length xs) else o) (placed id)
    ∙ sym (position-pushed (λ b. b.id == id) xs a
    (λ is. find-same h xs id same
    ∙ ap (option_map (account_now h)) (ap (opened h) (sym (eqb-true a.id id is)) ∙ free)))

-- the places of stored transfers with one more entry, which stores one of a new id or none
pub transfers_placed-pushed : (h : History) (ids ids' : PlacesById) (e : Entry)
    → (stores e.kind ≡ true → stored h e.transfer.id ≡ None)
    → ((id : ℕ) → place_of ids id ≡ stored_place h.entries id)
    → ((id : ℕ) → place_of ids' id
    ≡ (if stores e.kind && (e.transfer.id == id) then Some (length h.entries) else place_of ids id))
    → (id : ℕ) → place_of ids' id ≡ stored_place (h.entries ++ e ∷ []) id
transfers_placed-pushed h ids ids' e fresh placed added id =
    added id ∙ ap (λ o. if stores e.kind && (e.transfer.id == id) then Some (length h.entries) else o) (placed id)
    ∙ sym (position-pushed (λ x. stores x.kind && (x.transfer.id == id)) h.entries e
    (λ is. let both = and_parts (stores e.kind) (e.transfer.id == id) is in
    ap (stored h) (sym (eqb-true e.transfer.id id both.1)) ∙ fresh both.0))
