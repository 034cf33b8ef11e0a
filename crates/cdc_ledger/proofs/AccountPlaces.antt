-- Places of accounts, and what a change of the two accounts at two places makes of the list.
use Rattle.cdc_ledger.proofs.Words.{[], ◌<◌, ◌==◌, ◌∙◌, ◌∷◌, ◌≡◌, ◌≢◌, ◌≤◌, Account, All, AllByRecursion, AllPairs, AreApart, Balances, Effect, IsPlace, IsPlaced, List, Movement, Some, account_after, account_ids, accounts_after, ap, arith, credited_account, debited_account, effect_of_movement, false, find, get_or, if◌then◌else◌, length, map, nat_lt, no_balances, nobody, option_map, part, refl, set, shown_account, shown_as, shown_in, sym, true, unwrap_or, ℕ}
use Rattle.std.proofs.lemmas.Bool.{ltb-true, ltb-false, eqb-true, eq-eqb, ne_eqb, eqb-false, false≢true}
use Rattle.std.proofs.lemmas.List.{ext_get_or, length-set, length-map, get_or-map, get_or-set_same, get_or-set_other}
use Rattle.std.proofs.lemmas.List.Elements.{All-nil, All-cons}
use Rattle.std.proofs.lemmas.List.Kept.{AllPairs-cons}
use Rattle.std.proofs.lemmas.List.Quantifiers.{position-Some}
use Rattle.cdc_ledger.proofs.PlaceLaws.{find-place}

-- the account at its place
module _ (accounts : List Account) (id place : ℕ) (d : Account) (at : IsPlace accounts id place) where
  -- it is one of the accounts, so that reading it is in bounds
  pub place-inside : place < length accounts
  place-inside = (position-Some (λ a. a.id == id) accounts place d at).0

  -- it has the id that was looked for
  pub place-id : (get_or accounts place d).id ≡ id
  place-id = eqb-true (get_or accounts place d).id id (position-Some (λ a. a.id == id) accounts place d at).1

  -- it is the account that a search for the id gives
  pub place-find : find (λ a. a.id == id) accounts ≡ Some (get_or accounts place d)
  place-find = find-place (λ a. a.id == id) accounts place d at

  -- what an event shows of the account
  pub place-shown : shown_in accounts id ≡ shown_as (get_or accounts place d)
  place-shown = ap (λ o. unwrap_or (option_map shown_as o) (shown_account nobody no_balances)) place-find

-- what holds of each element holds at each place
AllByRecursion-All : {X : Type 0} (P : X → Type 0) (xs : List X) → AllByRecursion P xs → All P xs
AllByRecursion-All P [] h = All-nil P
AllByRecursion-All P (x ∷ xs) h = All-cons P x xs h.0 (AllByRecursion-All P xs h.1)

-- accounts at two places have two ids, so that an id has one place alone
apart_pairs : (ns : List ℕ) → AreApart ns → AllPairs (λ m n. m ≢ n) ns
apart_pairs [] h = λ i j d before inside. omega arith
apart_pairs (n ∷ ns) h = AllPairs-cons (λ k m. k ≢ m) n ns (AllByRecursion-All (λ m. n ≢ m) ns h.0) (apart_pairs ns h.1)

-- no other place has the account's id
pub place-only : (accounts : List Account) (id place k : ℕ) (d : Account) → AreApart (account_ids accounts)
    → IsPlace accounts id place
    → k < length accounts → k ≢ place → (get_or accounts k d).id ≢ id
place-only accounts id place k d unique at inside other =
    let before : k < place → (get_or accounts k d).id ≢ id = λ lt same. false≢true
    (sym ((position-Some (λ a. a.id == id) accounts place d at).2 k lt) ∙ eq-eqb (get_or accounts k d).id id same) in
    let after : place < k → (get_or accounts k d).id ≢ id = λ lt same.
    apart_pairs (account_ids accounts) unique place k 0 lt (rw length-map inside)
    (get_or-map (λ (a : Account). a.id) accounts place d 0 (place-inside accounts id place d at)
    ∙ place-id accounts id place d at ∙ sym same ∙ sym (get_or-map (λ (a : Account). a.id) accounts k d 0 inside)) in
    elim (nat_lt k place) as (λ b. nat_lt k place ≡ b → (get_or accounts k d).id ≢ id) [
      | true ↦ λ e. before (ltb-true k place e)
      | false ↦ λ e. after (let past : place ≤ k = ltb-false k place e in omega arith)
    ]
    refl

-- two elements are changed, and the change would leave every other element as it is
pub set_two : {X : Type 0} (g : X → X) (xs : List X) (i j : ℕ) (a b d : X) → i < length xs → j < length xs → i ≢ j
    → a ≡ g (get_or xs i d) → b ≡ g (get_or xs j d)
    → ((k : ℕ) → k < length xs → k ≢ i → k ≢ j → g (get_or xs k d) ≡ get_or xs k d)
    → set (set xs i a) j b ≡ map g xs
set_two g xs i j a b d in_i in_j apart first second rest =
    let lengths : length (set (set xs i a) j b) ≡ length xs = length-set (set xs i a) j b ∙ length-set xs i a in
    ext_get_or d (set (set xs i a) j b) (map g xs) (lengths ∙ sym (length-map xs g)) (λ k inside.
    let within : k < length xs = rw (← lengths) inside in
    let mapped : get_or (map g xs) k d ≡ g (get_or xs k d) = get_or-map g xs k d d within in
    elim (k == j) as (λ t. (k == j) ≡ t → get_or (set (set xs i a) j b) k d ≡ get_or (map g xs) k d) [
      | true ↦ λ e. let same : k ≡ j = eqb-true k j e in
          ap (λ n. get_or (set (set xs i a) j b) n d) same
          ∙ get_or-set_same (set xs i a) j b d (rw length-set in_j) ∙ second ∙ ap (λ n. g (get_or xs n d)) (sym same)
          ∙ sym mapped
      | false ↦ λ e. let other : k ≢ j = eqb-false k j e in
          get_or-set_other (set xs i a) j k b d other ∙
          elim (k == i) as (λ t. (k == i) ≡ t → get_or (set xs i a) k d ≡ get_or (map g xs) k d) [
            | true ↦ λ e'. let same : k ≡ i = eqb-true k i e' in
                ap (λ n. get_or (set xs i a) n d) same ∙ get_or-set_same xs i a d in_i ∙ first
                ∙ ap (λ n. g (get_or xs n d)) (sym same) ∙ sym mapped
            | false ↦ λ e'. let apart' : k ≢ i = eqb-false k i e' in
                get_or-set_other xs i k a d apart' ∙ sym (rest k within apart' other) ∙ sym mapped
          ]
          refl
    ]
    refl)

-- the account on this side of a movement takes its amount
part-same : (side account amount : ℕ) → account ≡ side → part side account amount ≡ amount
part-same side account amount e = ap (λ b. if b then amount else 0) (eq-eqb side account (sym e))

-- an account that isn't on this side takes nothing of it
part-other : (side account amount : ℕ) → account ≢ side → part side account amount ≡ 0
part-other side account amount e = ap (λ b. if b then amount else 0) (ne_eqb side account (λ same. e (sym same)))

-- balances are equal if their four sums are
pub same_sums : {x y z w x' y' z' w' : ℕ} → x ≡ x' → y ≡ y' → z ≡ z' → w ≡ w'
    → ◌≡◌ {A = Balances} (record { debits_pending = x; debits_posted = y; credits_pending = z; credits_posted = w })
    (record { debits_pending = x'; debits_posted = y'; credits_pending = z'; credits_posted = w' })
same_sums a b c d = cc

module _ (f : Effect) (debit credit : ℕ) (apart : debit ≢ credit) (a : Account) where
  -- the account that the code debits is the account after the effect
  pub changed-debited : a.id ≡ debit → debited_account f a ≡ account_after f debit credit a
  changed-debited at =
      let b : Balances = a.balances in
      let not_credit : a.id ≢ credit = λ same. apart (sym at ∙ same) in
      ap (λ (sums : Balances). record a { balances = sums }) (same_sums
      (let h = part-same debit a.id f.held at in let r = part-same debit a.id f.released at in rw (h, r) refl)
      (let m = part-same debit a.id f.moved at in rw m refl)
      (let h = part-other credit a.id f.held not_credit in let r = part-other credit a.id f.released not_credit in rw
      (h, r) (omega arith))
      (let m = part-other credit a.id f.moved not_credit in rw m (omega arith)))

  -- the same of the one that is credited
  pub changed-credited : a.id ≡ credit → credited_account f a ≡ account_after f debit credit a
  changed-credited at =
      let not_debit : a.id ≢ debit = λ same. apart (sym same ∙ at) in
      ap (λ (sums : Balances). record a { balances = sums }) (same_sums
      (let h = part-other debit a.id f.held not_debit in let r = part-other debit a.id f.released not_debit in rw (h, r)
      (omega arith))
      (let m = part-other debit a.id f.moved not_debit in rw m (omega arith))
      (let h = part-same credit a.id f.held at in let r = part-same credit a.id f.released at in rw (h, r) refl)
      (let m = part-same credit a.id f.moved at in rw m refl))

  -- any other account stays as it was
  pub changed-neither : a.id ≢ debit → a.id ≢ credit → account_after f debit credit a ≡ a
  changed-neither not_debit not_credit =
      ap (λ (sums : Balances). record a { balances = sums }) (same_sums
      (let h = part-other debit a.id f.held not_debit in let r = part-other debit a.id f.released not_debit in rw (h, r)
      (omega arith))
      (let m = part-other debit a.id f.moved not_debit in rw m (omega arith))
      (let h = part-other credit a.id f.held not_credit in let r = part-other credit a.id f.released not_credit in rw
      (h, r) (omega arith))
      (let m = part-other credit a.id f.moved not_credit in rw m (omega arith)))

module _ (accounts : List Account) (m : Movement) (placed : IsPlaced accounts m)
    (apart : m.entry.transfer.debit_account_id ≢ m.entry.transfer.credit_account_id) (d : Account) where
  -- the two accounts have different indices, since their ids differ
  pub places_apart : m.debit ≢ m.credit
  places_apart same =
      apart (sym (place-id accounts m.entry.transfer.debit_account_id m.debit d placed.debit)
      ∙ ap (λ k. (get_or accounts k d).id) same
      ∙ place-id accounts m.entry.transfer.credit_account_id m.credit d placed.credit)

  -- the account that is credited is still as it was when the other one was debited
  pub credit-unchanged : (a : Account) → get_or (set accounts m.debit a) m.credit d ≡ get_or accounts m.credit d
  credit-unchanged a = get_or-set_other accounts m.debit m.credit a d (λ same. places_apart (sym same))

  -- one account debited and the other credited are the accounts after the movement
  pub both-changed : (a b : Account) → AreApart (account_ids accounts)
      → a ≡ debited_account (effect_of_movement m) (get_or accounts m.debit d)
      → b ≡ credited_account (effect_of_movement m) (get_or accounts m.credit d)
      → set (set accounts m.debit a) m.credit b ≡ accounts_after m accounts
  both-changed a b unique first second =
      let debit_id : ℕ = m.entry.transfer.debit_account_id in
      let credit_id : ℕ = m.entry.transfer.credit_account_id in
      let f : Effect = effect_of_movement m in
      set_two (account_after f debit_id credit_id) accounts m.debit m.credit a b d
      (place-inside accounts debit_id m.debit d placed.debit)
      (place-inside accounts credit_id m.credit d placed.credit) places_apart
      (first ∙ changed-debited f debit_id credit_id apart (get_or accounts m.debit d)
      (place-id accounts debit_id m.debit d placed.debit))
      (second ∙ changed-credited f debit_id credit_id apart (get_or accounts m.credit d)
      (place-id accounts credit_id m.credit d placed.credit))
      (λ k inside not_debit not_credit. changed-neither f debit_id credit_id apart (get_or accounts k d)
      (place-only accounts debit_id m.debit k d unique placed.debit inside not_debit)
      (place-only accounts credit_id m.credit k d unique placed.credit inside not_credit))
