-- An entry leaves the balances of every account that it doesn't name, even if it settles a pending transfer.
use Rattle.cdc_ledger.proofs.Words.{[], ◌&&◌, ◌++◌, ◌+◌, ◌<◌, ◌==◌, ◌||◌, ◌∙◌, ◌∷◌, ◌≡◌, ◌≢◌, ◌≤◌, AllByRecursion, Bool, Entry, History, IsSound, Option, Settles, Some, Stands, Transfer, add-zero, ap, ap₂, arith, balances, credit_side, debit_side, false, held_amount, holds, if◌then◌else◌, moved_amount, nat_le, not, refl, resolved, resolves, settled_id, settles, share, stored, stores, sum_by, sym, true, ℕ}
use Rattle.std.proofs.lemmas.Bool.{and_parts, and_right, eqb-true, ne_eqb, false≢true}
use Rattle.std.proofs.lemmas.List.Sums.{sum_by_push}
use Rattle.cdc_ledger.proofs.BalanceLaws.{same_balances, resolved_later, resolved-pushed, resolves_is, stores-holds, seen_alike, moved_agree, held_by}
use Rattle.cdc_ledger.proofs.Changes.{pushed, IsUpTo}
use Rattle.cdc_ledger.proofs.Elements.{AllByRecursion-weaker, AllByRecursion-both, sum_by_same, or_none}
use Rattle.cdc_ledger.proofs.StoredLaws.{stored_each}

-- if the entry e settles the entry x, both have the same accounts
pub record HasSidesOf (e x : Entry) : Type 0 where
  pub debit : holds x.kind ≡ true → resolves x.transfer e ≡ true
      → e.transfer.debit_account_id ≡ x.transfer.debit_account_id
  pub credit : holds x.kind ≡ true → resolves x.transfer e ≡ true
      → e.transfer.credit_account_id ≡ x.transfer.credit_account_id

-- so it is for each two entries of a history
module _ (h : History) (sound : IsSound h) where
  -- the entry that is settled is the one stored under the id that is named
  settled_entry : (e x y : Entry) → Settles h e y → stored h x.transfer.id ≡ Some x
      → (settled_id e.kind e.transfer == x.transfer.id) ≡ true → y ≡ x
  settled_entry e x y of found same =
      let ids = eqb-true (settled_id e.kind e.transfer) x.transfer.id same in
      let both : ◌≡◌ {A = Option Entry} (Some y) (Some x) = sym of.named ∙ (ap (stored h) ids ∙ found) in
      cc

  -- so an entry that settles a pending transfer has that transfer's accounts
  one_entry : (e x : Entry) → Stands h e → (stores x.kind ≡ true → stored h x.transfer.id ≡ Some x) → HasSidesOf e x
  one_entry e x stands found = record {
    debit = λ holding is. (settled holding is).0;
    credit = λ holding is. (settled holding is).1;
  }
    where
      settled : holds x.kind ≡ true → resolves x.transfer e ≡ true
          → (e.transfer.debit_account_id ≡ x.transfer.debit_account_id) ×
          (e.transfer.credit_account_id ≡ x.transfer.credit_account_id)
      settled holding is =
          let parts : (settles e.kind ≡ true) × ((settled_id e.kind e.transfer == x.transfer.id) ≡ true) =
          and_parts (settles e.kind) (settled_id e.kind e.transfer == x.transfer.id)
          (sym (resolves_is e x.transfer) ∙ is) in
          let named : (y : Entry) × Settles h e y = stands.settling parts.0 in
          let same : named.0 ≡ x = settled_entry e x named.0 named.1 (found (stores-holds x.kind holding)) parts.1 in (
            named.1.debit ∙ ap (λ (y : Entry). y.transfer.debit_account_id) same,
            named.1.credit
                ∙ ap (λ (y : Entry). y.transfer.credit_account_id) same,
          )

  -- of every two entries of a sound history
  pub sides_of_all : AllByRecursion (λ e. AllByRecursion (HasSidesOf e) h.entries) h.entries
  sides_of_all = AllByRecursion-weaker (Stands h) (λ e. AllByRecursion (HasSidesOf e) h.entries)
      (λ e stands. AllByRecursion-weaker (λ x. stores x.kind ≡ true → stored h x.transfer.id ≡ Some x) (HasSidesOf e)
      (λ x found. one_entry e x stands found) h.entries (stored_each h sound.once))
      h.entries sound.standing

module _ (h : History) (e : Entry) (a : ℕ) (within : IsUpTo h.last h) (after : h.last < e.timestamp) where
  -- what an entry adds to the pending sum before the new one
  abbrev before : (Transfer → ℕ) → Entry → ℕ
  before side x = share (held_amount h h.last) side a h.last x

  -- and right after it
  abbrev right_after : (Transfer → ℕ) → Entry → ℕ
  right_after side x = share (held_amount (pushed h e) e.timestamp) side a e.timestamp x

  -- the amount that an entry holds, if this one doesn't settle it
  kept : (x : Entry) → resolves x.transfer e ≡ false → held_amount (pushed h e) e.timestamp x ≡ held_amount h h.last x
  kept x unresolved =
      ap (λ b. held_by b x)
      (resolved-pushed h e x.transfer e.timestamp
      ∙ (ap₂ (λ b c. b || c) (resolved_later h x.transfer h.last e.timestamp within (omega arith))
      (and_right (nat_le e.timestamp e.timestamp) (resolves x.transfer e) unresolved)
      ∙ or_none (resolved h x.transfer h.last) false refl))

  -- an entry that holds nothing, or that this one doesn't settle, holds as much as before
  held_either : (x : Entry) (holding done : Bool) → holds x.kind ≡ holding → resolves x.transfer e ≡ done
      → (holding ≡ true → done ≡ true → false ≡ true) → held_amount (pushed h e) e.timestamp x ≡ held_amount h h.last x
  held_either x holding false is settled never = kept x settled
  held_either x true true is settled never = absurd (false≢true (never refl refl))
  held_either x false true is settled never =
      ap (λ b. if b && not (resolved (pushed h e) x.transfer e.timestamp) then x.transfer.amount else 0) is
      ∙ sym (ap (λ b. if b && not (resolved h x.transfer h.last) then x.transfer.amount else 0) is)

  -- the shares of the account in what was there
  one_share : (side : Transfer → ℕ) (x : Entry) (b : Bool) → (side x.transfer == a) ≡ b → side e.transfer ≢ a
      → (holds x.kind ≡ true → resolves x.transfer e ≡ true → side e.transfer ≡ side x.transfer)
      → x.timestamp ≤ h.last → right_after side x ≡ before side x
  one_share side x false is other sides at =
      ap (λ b. if b then held_amount (pushed h e) e.timestamp x else 0)
      (and_right (nat_le x.timestamp e.timestamp) (side x.transfer == a) is)
      ∙ sym (ap (λ b. if b then held_amount h h.last x else 0)
      (and_right (nat_le x.timestamp h.last) (side x.transfer == a) is))
  one_share side x true is other sides at =
      ap₂ (λ b n. if b && (side x.transfer == a) then n else 0) (seen_alike x h.last e.timestamp at (omega arith))
      (held_either x (holds x.kind) (resolves x.transfer e) refl refl
      (λ holding settled. absurd (other (sides holding settled ∙ eqb-true (side x.transfer) a is))))

  -- so the pending sum of an account on a side that the entry doesn't name stays
  all_shares : (side : Transfer → ℕ) → side e.transfer ≢ a
      → AllByRecursion (λ x. holds x.kind ≡ true → resolves x.transfer e ≡ true → side e.transfer ≡ side x.transfer)
      h.entries
      → sum_by (right_after side) (h.entries ++ e ∷ []) ≡ sum_by (before side) h.entries
  all_shares side other sides =
      sum_by_push (right_after side) h.entries e
      ∙ (ap₂ (λ m n. m + n)
      (sum_by_same (right_after side) (before side) h.entries
      (AllByRecursion-weaker
      (λ x. (holds x.kind ≡ true → resolves x.transfer e ≡ true → side e.transfer ≡ side x.transfer) ×
      (x.timestamp ≤ h.last)) (λ x. right_after side x ≡ before side x)
      (λ x both. one_share side x (side x.transfer == a) refl other both.0 both.1) h.entries
      (AllByRecursion-both (λ x. holds x.kind ≡ true → resolves x.transfer e ≡ true → side e.transfer ≡ side x.transfer)
      (λ x. x.timestamp ≤ h.last) h.entries sides within)))
      (ap (λ b. if b then held_amount (pushed h e) e.timestamp e else 0)
      (and_right (nat_le e.timestamp e.timestamp) (side e.transfer == a) (ne_eqb (side e.transfer) a other)))
      ∙ add-zero (sum_by (before side) h.entries))

  -- and so does the posted one
  all_moved : (side : Transfer → ℕ) → side e.transfer ≢ a
      → sum_by (share moved_amount side a e.timestamp) (h.entries ++ e ∷ [])
      ≡ sum_by (share moved_amount side a h.last) h.entries
  all_moved side other =
      sum_by_push (share moved_amount side a e.timestamp) h.entries e
      ∙ (ap₂ (λ m n. m + n) (moved_agree h a h.last e.timestamp within (omega arith) side)
      (ap (λ b. if b then moved_amount e else 0)
      (and_right (nat_le e.timestamp e.timestamp) (side e.transfer == a) (ne_eqb (side e.transfer) a other)))
      ∙ add-zero (sum_by (share moved_amount side a h.last) h.entries))

  -- an account that the entry doesn't name
  pub balances-pushed_other : AllByRecursion (HasSidesOf e) h.entries → e.transfer.debit_account_id ≢ a
      → e.transfer.credit_account_id ≢ a → balances (pushed h e) a e.timestamp ≡ balances h a h.last
  balances-pushed_other sides debit credit =
      same_balances _ _ _ _ _ _ _ _
      (all_shares debit_side debit
      (AllByRecursion-weaker (HasSidesOf e)
      (λ x. holds x.kind ≡ true → resolves x.transfer e ≡ true → e.transfer.debit_account_id
      ≡ x.transfer.debit_account_id) (λ x of. of.debit) h.entries sides))
      (all_moved debit_side debit)
      (all_shares credit_side credit
      (AllByRecursion-weaker (HasSidesOf e)
      (λ x. holds x.kind ≡ true → resolves x.transfer e ≡ true → e.transfer.credit_account_id
      ≡ x.transfer.credit_account_id) (λ x of. of.credit) h.entries sides))
      (all_moved credit_side credit)
