-- What the ledger's tables are once their last entry or their last account was taken out again.
use Rattle.cdc_ledger.proofs.Words.{[], ◌&&◌, ◌++◌, ◌+◌, ◌-◌, ◌<◌, ◌==◌, ◌∙◌, ◌∷◌, ◌≡◌, ◌≢◌, Account, AreApart, AreRecorded, Bool, Effect, Ending, Entry, History, IfSome, Inside, IsKept, IsLastOpened, IsLastRecorded, IsRecorded, IsStoredAt, List, Movement, None, Open, Opened, Option, Pending, Recorded, Some, Vec, account_after, account_ids, account_now, account_place, account_with, accounts_after, accounts_now, ap, ap₂, arith, credited_account, debited_account, effect_of_movement, ending_by, endings_after, endings_before, endings_of, false, find, get_or, grown, history_of, if◌then◌else◌, length, length-append, map, no_balances, nobody, opened, opened_as, opened_by, option_map, place_of, position, pushed, refl, set, settled_by, stored, stored_place, stores, subst, sym, take, true, with_account, with_items, without_account, without_entry, ℕ}
use Rattle.std.specs.List.{slice_get}
use Rattle.std.proofs.Math.Seq.{take-append_seam}
use Rattle.std.proofs.lemmas.Bool.{and_parts, eqb-true}
use Rattle.std.proofs.lemmas.List.{set-set, set_comm, set-get_or, length-map, length-set, with_items_is}
use Rattle.std.proofs.lemmas.Option.{get_or_from_slice_get}
use Rattle.cdc_ledger.proofs.AccountLaws.{accounts_now-pushed, accounts_now-with_account}
use Rattle.cdc_ledger.proofs.EndingLaws.{endings_of-pushed, open_before, settled_within}
use Rattle.cdc_ledger.proofs.Found.{find-same}
use Rattle.cdc_ledger.proofs.Kept.{IsKept-from}
use Rattle.cdc_ledger.proofs.PlaceLaws.{find-place, position-pushed}
use Rattle.cdc_ledger.proofs.AccountPlaces.{both-changed, place-inside, places_apart}
use Rattle.cdc_ledger.proofs.Recorded.{account_place-changed, effect-movement, ids_opened}

-- a list without its last element
pub take_front : {X : Type 0} (xs : List X) (x : X) → take (length (xs ++ x ∷ []) - 1) (xs ++ x ∷ []) ≡ xs
take_front xs x =
    let long = length-append xs (x ∷ []) in
    let n : length (xs ++ x ∷ []) - 1 ≡ length xs = omega (arith, long) in
    ap (λ k. take k (xs ++ x ∷ [])) n ∙ take-append_seam xs (x ∷ [])

-- two elements that were changed and are put back
set_back : {X : Type 0} (xs : List X) (i j : ℕ) (a b d : X) → i ≢ j
    → set (set (set (set xs i a) j b) i (get_or xs i d)) j (get_or xs j d) ≡ xs
set_back xs i j a b d apart =
    ap (λ ys. set ys j (get_or xs j d))
    (set_comm (set xs i a) j i b (get_or xs i d) (λ e. apart (sym e))
    ∙ ap (λ ys. set ys j b) (set-set xs i a (get_or xs i d) ∙ set-get_or xs i d))
    ∙ set-set xs j b (get_or xs j d) ∙ set-get_or xs j d

-- an element that was changed and is put back
set_same : {X : Type 0} (xs : List X) (i : ℕ) (x y : X) → slice_get xs i ≡ Some x → set (set xs i y) i x ≡ xs
set_same xs i x y at =
    set-set xs i y x
    ∙ ap (set xs i) (sym (get_or_from_slice_get xs i x x at)) ∙ set-get_or xs i x

-- a place that was found nowhere
no_position : {X : Type 0} (test : X → Bool) (xs : List X) (d : X) → find test xs ≡ None → position test xs ≡ None
no_position test xs d none = by (position test xs) refl
  where
    by : (o : Option ℕ) → position test xs ≡ o → position test xs ≡ None
    by None is = is
    by (Some place) is = let found = find-place test xs place d is in cc

-- a search without the last element, if that element is the only one that can pass
position_back : {X : Type 0} (test : X → Bool) (xs : List X) (x : X) → (test x ≡ true → find test xs ≡ None)
    → (if test x then None else position test (xs ++ x ∷ [])) ≡ position test xs
position_back test xs x new = by (test x) refl
  where
    by : (b : Bool) → test x ≡ b → (if b then None else position test (xs ++ x ∷ [])) ≡ position test xs
    by true is = sym (no_position test xs x (new is))
    by false is = position-pushed test xs x new ∙ ap (λ b. if b then Some (length xs) else position test xs) is

-- the vector after two of its elements were written
pub items-with_sets : {X Z : Type 0} (v : Vec X Z) (ws xs : List X) (i j : ℕ) (a b : X) → ws ≡ set (set xs i a) j b
    → xs ≡ v.items → (with_items v ws).items ≡ set (set v.items i a) j b
items-with_sets v ws xs i j a b written same =
    let now : ws ≡ set (set v.items i a) j b = written ∙ ap (λ ys. set (set ys i a) j b) same in
    with_items_is v ws
    (ap length now ∙ length-set (set v.items i a) j b ∙ length-set v.items i a ∙ sym v.ok.0)
    ∙ now

-- accounts are opened as they were, whatever their balances
opened_now : (h : History) (os : List Opened) → map opened_as (map (account_now h) os) ≡ os
opened_now h [] = refl
opened_now h (o ∷ os) = ap (λ rest. o ∷ rest) (opened_now h os)

-- the history before its last entry
pub without_entry-pushed : (h : History) (e : Entry) (last : ℕ) → last ≡ h.last → without_entry (pushed h e) last ≡ h
without_entry-pushed h e last same =
    ap₂ (λ es n. record h { entries = es; last = n }) (take_front h.entries e) same

-- the history before its last account
pub without_account-opened : (h : History) (o : Opened) (last : ℕ) → last ≡ h.last
    → without_account (with_account h o) last ≡ h
without_account-opened h o last same =
    ap₂ (λ os n. record h { accounts = os; last = n }) (take_front h.accounts o) same

-- an entry that was recorded is taken out again
module _ (g : History) (r : Recorded) (was : IsRecorded g r) where
  -- the accounts before and after it
  abbrev before : List Account
  before = accounts_now g

  -- the ids of the accounts are apart
  ids_apart : AreApart (account_ids before)
  ids_apart = subst AreApart (sym (ids_opened before ∙ ap (map (λ o. o.request.id)) (opened_now g g.accounts)))
      was.sound.unique

  -- the accounts after it
  changed : accounts_now (pushed g r.movement.entry) ≡ accounts_after r.movement before
  changed =
      accounts_now-pushed g r.movement.entry was.sound was.follows was.later
      ∙ ap (λ (f : Effect). map (account_after f r.movement.entry.transfer.debit_account_id
      r.movement.entry.transfer.credit_account_id) before)
      (sym (effect-movement g r.movement was.movement.settled))

  -- both of its accounts are put back
  pub accounts_back : set (set (accounts_now (pushed g r.movement.entry)) r.movement.debit r.debit)
      r.movement.credit r.credit ≡ before
  accounts_back =
      let m : Movement = r.movement in
      let d : Account = account_with nobody no_balances in
      let f : Effect = effect_of_movement m in
      let a : Account = debited_account f (get_or before m.debit d) in
      let b : Account = credited_account f (get_or before m.credit d) in
      let two = both-changed before m was.movement.placed was.follows.apart d a b ids_apart refl refl in
      let first : get_or before m.debit d ≡ r.debit = get_or_from_slice_get before m.debit r.debit d was.debit in
      let second = get_or_from_slice_get before m.credit r.credit d was.credit in
      ap (λ xs. set (set xs m.debit r.debit) m.credit r.credit) (changed ∙ sym two)
      ∙ ap₂ (λ x y. set (set (set (set before m.debit a) m.credit b) m.debit x) m.credit y) (sym first) (sym second)
      ∙ set_back before m.debit m.credit a b d (places_apart before m was.movement.placed was.follows.apart d)

  -- the notes of endings are put back
  endings_after_back : (settled : Option Pending)
      → option_map (λ p. p.transfer) settled ≡ settled_by g r.movement.entry
      → IfSome settled (λ p. IsStoredAt g p.transfer.id p.place)
      → endings_before settled (endings_after settled r.movement.entry.kind (endings_of g.entries))
      ≡ endings_of g.entries
  endings_after_back None is found = take_front (endings_of g.entries) Open
  endings_after_back (Some p) is found =
      ap (λ xs. set xs p.place Open)
      (take_front (set (endings_of g.entries) p.place (ending_by r.movement.entry.kind)) Open)
      ∙ set_same (endings_of g.entries) p.place Open (ending_by r.movement.entry.kind)
      (open_before g r.movement.entry was.sound was.follows p is found)

  -- from what they are after the entry
  pub endings_back : endings_before r.movement.settled (endings_of (g.entries ++ r.movement.entry ∷ []))
      ≡ endings_of g.entries
  endings_back =
      ap (endings_before r.movement.settled)
      (endings_of-pushed g r.movement.entry was.sound was.follows r.movement.settled was.movement.settled
      was.movement.found)
      ∙ endings_after_back r.movement.settled was.movement.settled was.movement.found

  -- the pending transfer that it settled is before it
  pub settled_inside : (endings : List Ending) → endings ≡ endings_of (g.entries ++ r.movement.entry ∷ [])
      → IfSome r.movement.settled (λ p. p.place + 1 < length endings)
  settled_inside endings same =
      let long : length endings ≡ length g.entries + 1 =
      ap length same ∙ length-map (g.entries ++ r.movement.entry ∷ []) _
      ∙ length-append g.entries (r.movement.entry ∷ []) in
      further r.movement.settled (settled_within g r.movement.settled (endings_of g.entries) refl
      was.movement.found) long
    where
      further : (o : Option Pending) → IfSome o (λ p. p.place < length (endings_of g.entries))
          → length endings ≡ length g.entries + 1 → IfSome o (λ p. p.place + 1 < length endings)
      further None within long = tt
      further (Some p) within long = let own = length-map g.entries (λ e. Open) in
          let same_long : length (endings_of g.entries) ≡ length g.entries = length-map g.entries _ in
          omega (arith, within, long, same_long)

  -- and so do its accounts
  pub debit_inside : r.movement.debit < length (accounts_now (pushed g r.movement.entry))
  debit_inside =
      let d : Account = account_with nobody no_balances in
      let within = place-inside before r.movement.entry.transfer.debit_account_id r.movement.debit d
      was.movement.placed.debit in
      let long : length (accounts_now (pushed g r.movement.entry)) ≡ length before =
      length-map g.accounts _ ∙ sym (length-map g.accounts (account_now g)) in
      omega (arith, within, long)

  -- likewise
  pub credit_inside : r.movement.credit < length (accounts_now (pushed g r.movement.entry))
  credit_inside =
      let d : Account = account_with nobody no_balances in
      let within = place-inside before r.movement.entry.transfer.credit_account_id r.movement.credit d
      was.movement.placed.credit in
      let long : length (accounts_now (pushed g r.movement.entry)) ≡ length before =
      length-map g.accounts _ ∙ sym (length-map g.accounts (account_now g)) in
      omega (arith, within, long)

  -- the places of stored transfers are what they were
  pub stored_back : (id : ℕ)
      → (if stores r.movement.entry.kind && (r.movement.entry.transfer.id == id) then None
      else stored_place (g.entries ++ r.movement.entry ∷ []) id) ≡ stored_place g.entries id
  stored_back id =
      position_back (λ x. stores x.kind && (x.transfer.id == id)) g.entries r.movement.entry
      (λ is. let both = and_parts (stores r.movement.entry.kind) (r.movement.entry.transfer.id == id) is in
      ap (stored g) (sym (eqb-true r.movement.entry.transfer.id id both.1)) ∙ was.follows.fresh both.0)

-- a history is known by its four parts
history_is : (h : History) (accounts : List Opened) (entries : List Entry) (last : ℕ) (closed : Bool)
    → accounts ≡ h.accounts → entries ≡ h.entries → last ≡ h.last → closed ≡ h.closed
    → ◌≡◌ {A = History} (record { accounts = accounts; entries = entries; last = last; closed = closed }) h
history_is h accounts entries last closed p q r s =
    let first : List Opened → List Entry → History =
    λ os es. record { accounts = os; entries = es; last = last; closed = closed } in
    let second : ℕ → Bool → History =
    λ n b. record { accounts = h.accounts; entries = h.entries; last = n; closed = b } in
    ap₂ first p q ∙ ap₂ second r s

-- the tables without their last entry hold the history before it, and what is kept of them stays kept
pub IsKept-back : (t t' : Inside) (r : Recorded) (last : IsLastRecorded (history_of t) r) → IsKept t
    → t'.accounts.items ≡ set (set t.accounts.items r.movement.debit r.debit) r.movement.credit r.credit
    → t'.entries.items ≡ take (length t.entries.items - 1) t.entries.items
    → t'.endings.items ≡ endings_before r.movement.settled t.endings.items
    → t'.account_places ≡ t.account_places
    → ((id : ℕ) → place_of t'.transfer_places id
    ≡ (if stores r.movement.entry.kind && (r.movement.entry.transfer.id == id) then None
    else place_of t.transfer_places id))
    → t'.last ≡ r.last → t'.closed ≡ t.closed
    → IsKept t' × (history_of t' ≡ last.before)
IsKept-back t t' r last kept accounts entries endings same_places places dated shut =
    let g : History = last.before in
    let was : IsRecorded g r = last.recorded in
    let e : Entry = r.movement.entry in
    let made : history_of t ≡ pushed g e = last.made in
    let old_entries : t.entries.items ≡ g.entries ++ e ∷ [] = ap (λ (h : History). h.entries) made in
    let now : t'.accounts.items ≡ accounts_now g =
    accounts ∙ ap (λ xs. set (set xs r.movement.debit r.debit) r.movement.credit r.credit)
    (kept.balanced ∙ ap accounts_now made) ∙ accounts_back g r was in
    let front : t'.entries.items ≡ g.entries =
    entries ∙ ap (λ (es : List Entry). take (length es - 1) es) old_entries ∙ take_front g.entries e in
    let os : map opened_as t'.accounts.items ≡ g.accounts =
    ap (map opened_as) now ∙ opened_now g g.accounts in
    let no_change : t'.closed ≡ g.closed = shut ∙ ap (λ (h : History). h.closed) made in
    let at : t'.last ≡ g.last = dated ∙ was.last in
    let same : history_of t' ≡ g = history_is g _ _ _ _ os front at no_change in (
      IsKept-from t' g same now
          (λ id. ap (λ ids. place_of ids id) same_places ∙ kept.accounts_placed id
          ∙ ap (λ xs. account_place xs id) (kept.balanced ∙ ap accounts_now made ∙ changed g r was)
          ∙ account_place-changed r.movement id (accounts_now g)
          ∙ ap (λ xs. account_place xs id) (sym now))
          (λ id. places id
          ∙ ap (λ o. if stores e.kind && (e.transfer.id == id) then None else o)
          (kept.transfers_placed id ∙ ap (λ es. stored_place es id) old_entries)
          ∙ stored_back g r was id ∙ ap (λ es. stored_place es id) (sym front))
          (endings ∙ ap (endings_before r.movement.settled) (kept.ended ∙ ap endings_of old_entries)
          ∙ endings_back g r was ∙ ap endings_of (sym front))
          was.sound,
      same,
    )

-- the tables without their last account hold the history before it
pub IsKept-shut : (t t' : Inside) (a : Account) (n : ℕ) (last : IsLastOpened (history_of t) n) → IsKept t
    → t.accounts.items ≡ t'.accounts.items ++ a ∷ []
    → ((id : ℕ) → place_of t'.account_places id ≡ (if a.id == id then None else place_of t.account_places id))
    → t'.entries.items ≡ t.entries.items → t'.endings.items ≡ t.endings.items
    → t'.transfer_places ≡ t.transfer_places → t'.last ≡ n → t'.closed ≡ t.closed
    → IsKept t' × (history_of t' ≡ last.before)
IsKept-shut t t' a n last kept popped places entries endings same_places dated shut =
    let g : History = last.before in
    let o : Opened = opened_by last.request last.time in
    let made : history_of t ≡ with_account g o = last.made in
    let fresh : Account = account_with o no_balances in
    let all : t.accounts.items ≡ accounts_now g ++ fresh ∷ [] =
    kept.balanced ∙ ap accounts_now made
    ∙ accounts_now-with_account g o last.sound.past last.sound.known last.free last.later in
    let parts : t'.accounts.items ++ a ∷ [] ≡ accounts_now g ++ fresh ∷ [] = sym popped ∙ all in
    let now : t'.accounts.items ≡ accounts_now g =
    sym (take_front t'.accounts.items a)
    ∙ ap (λ (xs : List Account). take (length xs - 1) xs) parts ∙ take_front (accounts_now g) fresh in
    let own : a ≡ fresh = last_same t'.accounts.items (accounts_now g) a fresh now parts in
    let os : map opened_as t'.accounts.items ≡ g.accounts =
    ap (map opened_as) now ∙ opened_now g g.accounts in
    let es : t'.entries.items ≡ g.entries = entries ∙ ap (λ (h : History). h.entries) made in
    let no_change : t'.closed ≡ g.closed = shut ∙ ap (λ (h : History). h.closed) made in
    let at : t'.last ≡ g.last = dated ∙ last.dated in
    let same : history_of t' ≡ g = history_is g _ _ _ _ os es at no_change in (
      IsKept-from t' g same now
          (λ id. places id
          ∙ ap₂ (λ (x : Account) p. if x.id == id then None else p) own
          (kept.accounts_placed id ∙ ap (λ xs. account_place xs id) all)
          ∙ position_back (λ b. b.id == id) (accounts_now g) fresh
          (λ is. find-same g (accounts_now g) id refl
          ∙ ap (option_map (account_now g)) (ap (opened g) (sym (eqb-true fresh.id id is)) ∙ last.free))
          ∙ ap (λ xs. account_place xs id) (sym now))
          (λ id. ap (λ ids. place_of ids id) same_places ∙ kept.transfers_placed id
          ∙ ap (λ xs. stored_place xs id) (sym entries))
          (endings ∙ kept.ended ∙ ap endings_of (sym entries))
          last.sound,
      same,
    )
  where
    last_same : (xs ys : List Account) (x y : Account) → xs ≡ ys → xs ++ x ∷ [] ≡ ys ++ y ∷ [] → x ≡ y
    last_same [] [] x y front whole = cc
    last_same [] (v ∷ ys) x y front whole = cc
    last_same (u ∷ xs) [] x y front whole = cc
    last_same (u ∷ xs) (v ∷ ys) x y front whole = last_same xs ys x y (cc) (cc)

-- one more entry after those that were recorded
pub grown_push : (h : History) (rs : List Recorded) (r : Recorded)
    → grown h (rs ++ r ∷ []) ≡ pushed (grown h rs) r.movement.entry
grown_push h [] r = refl
grown_push h (x ∷ rs) r = grown_push (pushed h x.movement.entry) rs r

-- which was recorded too
pub AreRecorded_push : (h : History) (rs : List Recorded) (r : Recorded) → AreRecorded h rs → IsRecorded (grown h rs) r
    → AreRecorded h (rs ++ r ∷ [])
AreRecorded_push h [] r all one = (one, tt)
AreRecorded_push h (x ∷ rs) r all one = (all.0, AreRecorded_push (pushed h x.movement.entry) rs r all.1 one)

-- and back
pub AreRecorded_pop : (h : History) (rs : List Recorded) (r : Recorded) → AreRecorded h (rs ++ r ∷ [])
    → AreRecorded h rs × IsRecorded (grown h rs) r
AreRecorded_pop h [] r all = (tt, all.0)
AreRecorded_pop h (x ∷ rs) r all =
    let rest = AreRecorded_pop (pushed h x.movement.entry) rs r all.1 in ((all.0, rest.0), rest.1)
