-- What holds of the accounts of every legal history, and of the ledger of its entries.
use Rattle.std.proofs.Common.{◌≡◌, ◌≢◌, ℕ, ◌+◌, ◌<◌, ◌≤◌, Bool, true, false, List, Option, Some, None, refl, sym, ap, ◌∙◌, subst, inl, inr, arith, ◌==◌, IsSome}
use Rattle.cdc_audit_laws.proofs.OfStd.{eq-eqb, unwrap_or, AllByRecursion, ne_eqb, eqb_tells}
use Rattle.cdc_audit_laws.proofs.OfTypes.{Balances, NewAccount, CREDITS_MUST_NOT_EXCEED_DEBITS, DEBITS_MUST_NOT_EXCEED_CREDITS, Entry, has_flag, account_refusal}
use Rattle.cdc_audit_laws.proofs.OfLedger.{balances, pushed, timed, with_account, balances_after_entry, effect_of, part, nobody, Follows, History, Opened, empty_history, opened, settles, HasAccounts, IsSound, opened_by, account_refused, accepted_account, balances-pushed, balances_later, balances_none, released_credit, released_debit, AllByRecursion-both, AllByRecursion-weaker, AllByRecursion_push, opened-with_account_same, find_all}
use Rattle.cdc_audit_laws.proofs.Created.{AreBy, AreOwn, own-account, own-closed, own-pushed, own-timed}
use Rattle.cdc_audit_laws.proofs.Requests.{Enters, HasLedger, account_of}

-- balances keep the limits that an account's flags set
pub record IsLimited (flags : ℕ) (b : Balances) : Type 0 where
  pub debits : has_flag flags DEBITS_MUST_NOT_EXCEED_CREDITS ≡ true
      → b.debits_pending + b.debits_posted ≤ b.credits_posted
  pub credits : has_flag flags CREDITS_MUST_NOT_EXCEED_DEBITS ≡ true
      → b.credits_pending + b.credits_posted ≤ b.debits_posted

-- an account has the fields of one that is accepted, and was created by this time, and not at 0
abbrev pub IsCreated : ℕ → Opened → Type 0
IsCreated t o = (account_refusal o.request ≡ None) × (o.timestamp ≤ t) × (0 < o.timestamp)

-- what holds of every legal history
pub record IsKept (h : History) : Type 0 where
  pub accounts : AllByRecursion (IsCreated h.last) h.accounts
  pub ledgers : AllByRecursion (HasLedger h) h.entries
  pub limits : (id : ℕ) → IsLimited (account_of h id).request.flags (balances h id h.last)
  pub own : AreOwn h

pub kept-empty : IsKept empty_history
kept-empty = grind arith

-- accounts that were created by one time were created by a later one
created_later : (s t : ℕ) (os : List Opened) → s ≤ t → AllByRecursion (IsCreated s) os
    → AllByRecursion (IsCreated t) os
created_later s t os later all =
    AllByRecursion-weaker _ _ (λ o is. (is.0, let before = is.1 in omega arith, is.2)) os all

-- each account was created by the last timestamp
created_by : (h : History) → IsKept h → AreBy h
created_by h kept i o is =
    let at = find_all (λ (x : Opened). x.request.id == i) (IsCreated h.last) h.accounts o kept.accounts is in at.1.1

pub kept-timed : (h : History) (t : ℕ) → IsSound h → h.last ≤ t → IsKept h → IsKept (timed h t)
kept-timed h t sound later kept = record {
  accounts = created_later h.last t h.accounts later kept.accounts;
  ledgers = AllByRecursion-weaker _ _
      (λ e has. record { debit = has.debit; credit = has.credit; code = has.code }) h.entries kept.ledgers;
  limits = λ id. subst (IsLimited (account_of h id).request.flags)
      (sym (balances_later h id h.last t sound.past later)) (kept.limits id);
  own = own-timed h t kept.own;
}

pub kept-closed : (h : History) (closed : Bool) → IsKept h → IsKept (record h { closed = closed })
kept-closed h closed kept = record {
  accounts = kept.accounts;
  ledgers = AllByRecursion-weaker _ _
      (λ e has. record { debit = has.debit; credit = has.credit; code = has.code }) h.entries kept.ledgers;
  limits = λ id. record { debits = (kept.limits id).debits; credits = (kept.limits id).credits };
  own = own-closed h closed kept.own;
}

-- ---- an account that is opened

module _ (h : History) (a : NewAccount) (t : ℕ) (sound : IsSound h) (later : h.last < t)
    (none : account_refused h a ≡ None) (kept : IsKept h) where
  abbrev after : History
  after = with_account h (opened_by a t)

  -- an account that was there is the same
  same_account : (id : ℕ) → IsSome (opened h id) → account_of after id ≡ account_of h id
  same_account id there = ap (λ o. unwrap_or o nobody) (opened-with_account_same h (opened_by a t) id there)

  ledger_still : (e : Entry) → HasAccounts h e × HasLedger h e → HasLedger after e
  ledger_still e has = record {
    debit = has.1.debit
        ∙ ap (λ (o : Opened). o.request.ledger) (sym (same_account e.transfer.debit_account_id has.0.0));
    credit = has.1.credit
        ∙ ap (λ (o : Opened). o.request.ledger) (sym (same_account e.transfer.credit_account_id has.0.1));
    code = has.1.code;
  }

  -- its sums are 0, so that it keeps its limits
  limited_still : (id : ℕ) → IsLimited (account_of after id).request.flags (balances h id h.last)
  limited_still id = by (opened h id) refl
    where
      by : (o : Option Opened) → opened h id ≡ o → IsLimited (account_of after id).request.flags (balances h id h.last)
      by None is =
          let zero_sums = balances_none h id h.last sound.known is in
          rw zero_sums (record { debits = λ flag. omega arith; credits = λ flag. omega arith })
      by (Some o) is =
          let there : IsSome (opened h id) = subst IsSome (sym is) refl in
          subst (λ (x : Opened). IsLimited x.request.flags (balances h id h.last)) (sym (same_account id there))
          (kept.limits id)

  pub kept-account : IsKept after
  kept-account = record {
    accounts = AllByRecursion_push _ h.accounts (opened_by a t)
        (created_later h.last t h.accounts (omega arith) kept.accounts)
        ((accepted_account h a none).0, omega arith, omega arith);
    ledgers = AllByRecursion-weaker _ _ ledger_still h.entries
        (AllByRecursion-both _ _ h.entries sound.known kept.ledgers);
    limits = λ id. subst (IsLimited (account_of after id).request.flags)
        (sym (balances_later h id h.last t sound.past (omega arith))) (limited_still id);
    own = own-account h (opened_by a t) (created_by h kept) sound.past later kept.own;
  }

-- ---- one more entry

-- an account's share of an amount, on its own side and on the other one
pub part_own : (a n : ℕ) → part a a n ≡ n
part_own a n = rw (eq-eqb a a refl) refl

pub part_other : (side a n : ℕ) → side ≢ a → part side a n ≡ 0
part_other side a n other = rw (ne_eqb side a other) refl

module _ (h : History) (e : Entry) (sound : IsSound h) (follows : Follows h e) (after : h.last < e.timestamp)
    (enters : Enters h e) (kept : IsKept h) where
  -- what it holds, releases and moves
  abbrev held : ℕ
  held = (effect_of h e).held

  abbrev released : ℕ
  released = (effect_of h e).released

  abbrev moved : ℕ
  moved = (effect_of h e).moved

  now : (a : ℕ) → balances (pushed h e) a e.timestamp ≡ balances_after_entry h e a (balances h a h.last)
  now a = balances-pushed h e a sound follows after

  -- a sum stays within its limit: the entry settles, or it is within the limit itself
  within : (sum limit : ℕ) → sum ≤ limit
      → (settles e.kind ≡ false → sum + e.transfer.amount ≤ limit) → sum + held + moved ≤ limit + released
  within sum limit before plain = grind arith

  -- the debited account
  limited_debit : IsLimited (account_of h e.transfer.debit_account_id).request.flags
      (balances (pushed h e) e.transfer.debit_account_id e.timestamp)
  limited_debit =
      let d = e.transfer.debit_account_id in
      let not : e.transfer.credit_account_id ≢ d = λ same. follows.apart (sym same) in
      let before = kept.limits d in
      let enough = released_debit h e sound follows after in
      subst (IsLimited (account_of h d).request.flags) (sym (now d)) (record {
        debits = λ flag.
            let most = within _ _ (before.debits flag) (λ is. (enters.limits is).debit flag) in
            omega (arith, part_own, part_other);
        credits = λ flag. let most = before.credits flag in omega (arith, part_own, part_other);
      })

  -- the credited account
  limited_credit : IsLimited (account_of h e.transfer.credit_account_id).request.flags
      (balances (pushed h e) e.transfer.credit_account_id e.timestamp)
  limited_credit =
      let c = e.transfer.credit_account_id in
      let not : e.transfer.debit_account_id ≢ c = follows.apart in
      let before = kept.limits c in
      let enough = released_credit h e sound follows after in
      subst (IsLimited (account_of h c).request.flags) (sym (now c)) (record {
        debits = λ flag. let most = before.debits flag in omega (arith, part_own, part_other);
        credits = λ flag.
            let most = within _ _ (before.credits flag) (λ is. (enters.limits is).credit flag) in
            omega (arith, part_own, part_other);
      })

  -- any other account
  limited_other : (a : ℕ) → e.transfer.debit_account_id ≢ a → e.transfer.credit_account_id ≢ a
      → IsLimited (account_of h a).request.flags (balances (pushed h e) a e.timestamp)
  limited_other a not_debited not_credited =
      let before = kept.limits a in
      subst (IsLimited (account_of h a).request.flags) (sym (now a)) (record {
        debits = λ flag. let most = before.debits flag in omega (arith, part_other);
        credits = λ flag. let most = before.credits flag in omega (arith, part_other);
      })

  limited_each : (a : ℕ) → IsLimited (account_of h a).request.flags (balances (pushed h e) a e.timestamp)
  limited_each a =
      elim (eqb_tells e.transfer.debit_account_id a) [
        | inl debit ↦
            subst (λ n. IsLimited (account_of h n).request.flags (balances (pushed h e) n e.timestamp)) debit.1
            limited_debit
        | inr debit ↦ elim (eqb_tells e.transfer.credit_account_id a) [
          | inl credit ↦
              subst (λ n. IsLimited (account_of h n).request.flags (balances (pushed h e) n e.timestamp)) credit.1
              limited_credit
          | inr credit ↦ limited_other a debit.1 credit.1
        ]
      ]

  pub kept-pushed : IsKept (pushed h e)
  kept-pushed = record {
    accounts = created_later h.last e.timestamp h.accounts (omega arith) kept.accounts;
    ledgers = AllByRecursion_push _ h.entries e (AllByRecursion-weaker _ _
        (λ x has. record { debit = has.debit; credit = has.credit; code = has.code }) h.entries kept.ledgers)
        (record { debit = enters.ledger.debit; credit = enters.ledger.credit; code = enters.ledger.code });
    limits = limited_each;
    own = own-pushed h e (created_by h kept) after kept.own;
  }
