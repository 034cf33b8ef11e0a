-- The balances that are shown last are the sums of what the events added and released.
use Rattle.std.proofs.Common.{◌≡◌, ◌≢◌, ℕ, ◌+◌, true, false, not, List, [], ◌∷◌, ◌++◌, Option, refl, sym, ap, ◌∙◌, subst, inl, inr, arith, append_assoc, append-nil}
use Rattle.std.specs.Prelude.{◌⊎◌, ◌==◌, Contains, if◌then◌else◌}
use Rattle.std.specs.List.{AllByRecursion}
use Rattle.std.proofs.lemmas.Bool.{eqb-true, not-false, or_cases}
use Rattle.std.proofs.lemmas.Bool.Decides.{eqb_tells}
use Rattle.std.proofs.lemmas.List.Sums.{sum_by_push}
use Rattle.cdc_types.specs.declared.accounts.Balances.{Balances}
use Rattle.cdc_types.specs.declared.events.Event.{Event}
use Rattle.cdc_ledger.proofs.Elements.{AllByRecursion_push}
use Rattle.cdc_audit.specs.Audits.{follows_on, is_accepted}
use Rattle.cdc_audit.specs.Known.{balances_after}
use Rattle.cdc_audit.specs.Checks.{account_lines, nothing}
use Rattle.cdc_audit.specs.Rules.{held, posted, released}
use Rattle.cdc_audit_laws.specs.Laws.{credits_posted_by, debits_posted_by}
use Rattle.cdc_audit_laws.proofs.Following.{CanFollow, IsCredited, IsDebited, NoneApplies, none_both}
use Rattle.cdc_audit_laws.proofs.Shown.{balances_after-credited, balances_after-debited, balances_after-other, balances_of}
use Rattle.cdc_audit_laws.proofs.Streams.{first_follows}
use Rattle.cdc_checked.specs.Checked.{amount_held, amounts_by, names}
use Rattle.cdc_checked_laws.specs.Laws.{credits_held_by, credits_released_by, debits_held_by, debits_released_by}
use Rattle.cdc_checked_laws.proofs.Released.{released_same}

-- the balances of an event follow from those after these events; what it releases is known by all events
pub record IsStep (all past : List Event) (e : Event) : Type 0 where
  pub apart : e.debit_account.id ≢ e.credit_account.id
  pub debited : IsDebited all e (balances_after past e.debit_account.id)
  pub credited : IsCredited all e (balances_after past e.credit_account.id)

-- what is known of the events applied is known of all
debited_by_all : (all past : List Event) (e : Event) (before : Balances) → released past e ≡ released all e
    → IsDebited past e before → IsDebited all e before
debited_by_all all past e before same is = record {
  debits_pending = ap (λ n. e.debit_account.debits_pending + n) (sym same) ∙ is.debits_pending;
  debits_posted = is.debits_posted;
  credits_pending = is.credits_pending;
  credits_posted = is.credits_posted;
}

credited_by_all : (all past : List Event) (e : Event) (before : Balances) → released past e ≡ released all e
    → IsCredited past e before → IsCredited all e before
credited_by_all all past e before same is = record {
  debits_pending = is.debits_pending;
  debits_posted = is.debits_posted;
  credits_pending = ap (λ n. e.credit_account.credits_pending + n) (sym same) ∙ is.credits_pending;
  credits_posted = is.credits_posted;
}

pub step_of : (all past : List Event) (e : Event) → e.debit_account.id ≢ e.credit_account.id
    → released past e ≡ released all e → IsDebited past e (balances_after past e.debit_account.id)
    → IsCredited past e (balances_after past e.credit_account.id) → IsStep all past e
step_of all past e apart same debited credited = record {
  apart = apart;
  debited = debited_by_all all past e _ same debited;
  credited = credited_by_all all past e _ same credited;
}

-- the balances of an account after these events are the sums of what these added, without what they released
pub record BalancesAdd (all es : List Event) (id : ℕ) : Type 0 where
  pub debits_posted : (balances_after es id).debits_posted ≡ debits_posted_by es id
  pub credits_posted : (balances_after es id).credits_posted ≡ credits_posted_by es id
  pub debits_pending : (balances_after es id).debits_pending + debits_released_by all es id ≡ debits_held_by es id
  pub credits_pending : (balances_after es id).credits_pending + credits_released_by all es id ≡ credits_held_by es id

-- one more event
module _ (all past : List Event) (e : Event) (id : ℕ) (step : IsStep all past e) (sums : BalancesAdd all past id) where
  abbrev on_debit : (Event → ℕ) → Event → ℕ
  on_debit w x = if x.debit_account.id == id then w x else 0

  abbrev on_credit : (Event → ℕ) → Event → ℕ
  on_credit w x = if x.credit_account.id == id then w x else 0

  -- from what the account has after it
  then_add : (before after : Balances) → balances_after past id ≡ before → balances_after (past ++ e ∷ []) id ≡ after
      → after.debits_posted ≡ before.debits_posted + on_debit posted e
      → after.credits_posted ≡ before.credits_posted + on_credit posted e
      → after.debits_pending + on_debit (released all) e ≡ before.debits_pending + on_debit held e
      → after.credits_pending + on_credit (released all) e ≡ before.credits_pending + on_credit held e
      → BalancesAdd all (past ++ e ∷ []) id
  then_add before after was now dp cp dh ch =
      let dp_was = ap (λ (b : Balances). b.debits_posted) (sym was) ∙ sums.debits_posted in
      let cp_was = ap (λ (b : Balances). b.credits_posted) (sym was) ∙ sums.credits_posted in
      let dh_was = ap (λ (b : Balances). b.debits_pending + debits_released_by all past id) (sym was)
      ∙ sums.debits_pending in
      let ch_was = ap (λ (b : Balances). b.credits_pending + credits_released_by all past id) (sym was)
      ∙ sums.credits_pending in
      let dp_push = sum_by_push (on_debit posted) past e in
      let cp_push = sum_by_push (on_credit posted) past e in
      let dr_push = sum_by_push (on_debit (released all)) past e in
      let cr_push = sum_by_push (on_credit (released all)) past e in
      let dh_push = sum_by_push (on_debit held) past e in
      let ch_push = sum_by_push (on_credit held) past e in
      record {
        debits_posted = rw now (omega (arith, dp, dp_was, dp_push));
        credits_posted = rw now (omega (arith, cp, cp_was, cp_push));
        debits_pending = rw now (omega (arith, dh, dh_was, dr_push, dh_push));
        credits_pending = rw now (omega (arith, ch, ch_was, cr_push, ch_push));
      }

  credited : (e.credit_account.id == id) ≡ true → (e.debit_account.id == id) ≡ false → e.credit_account.id ≡ id
      → BalancesAdd all (past ++ e ∷ []) id
  credited c d is =
      let follows = subst (λ (n : ℕ). IsCredited all e (balances_after past n)) is step.credited in
      then_add (balances_after past id) (balances_of e.credit_account) refl (balances_after-credited past e id is)
      (rw d (omega (arith, follows.debits_posted))) (rw c (omega (arith, follows.credits_posted)))
      (rw d (omega (arith, follows.debits_pending))) (rw c (omega (arith, follows.credits_pending)))

  debited : (e.credit_account.id == id) ≡ false → (e.debit_account.id == id) ≡ true → e.debit_account.id ≡ id
      → e.credit_account.id ≢ id → BalancesAdd all (past ++ e ∷ []) id
  debited c d is not =
      let follows = subst (λ (n : ℕ). IsDebited all e (balances_after past n)) is step.debited in
      then_add (balances_after past id) (balances_of e.debit_account) refl (balances_after-debited past e id is not)
      (rw d (omega (arith, follows.debits_posted))) (rw c (omega (arith, follows.credits_posted)))
      (rw d (omega (arith, follows.debits_pending))) (rw c (omega (arith, follows.credits_pending)))

  neither : (e.credit_account.id == id) ≡ false → (e.debit_account.id == id) ≡ false → e.debit_account.id ≢ id
      → e.credit_account.id ≢ id → BalancesAdd all (past ++ e ∷ []) id
  neither c d not_debited not_credited =
      then_add (balances_after past id) (balances_after past id) refl
      (balances_after-other past e id not_debited not_credited) (rw d (omega arith)) (rw c (omega arith))
      (rw d refl) (rw c refl)

  pub balances_add-push : BalancesAdd all (past ++ e ∷ []) id
  balances_add-push =
      elim (eqb_tells e.credit_account.id id) [
        | inl credit ↦ elim (eqb_tells e.debit_account.id id) [
          | inl debit ↦ absurd (step.apart (debit.1 ∙ sym credit.1))
          | inr debit ↦ credited credit.0 debit.0 credit.1
        ]
        | inr credit ↦ elim (eqb_tells e.debit_account.id id) [
          | inl debit ↦ debited credit.0 debit.0 debit.1 credit.1
          | inr debit ↦ neither credit.0 debit.0 debit.1 credit.1
        ]
      ]

-- so it is after each event of an accepted stream
pub follow_step : (all past : List Event) (e : Event) → is_accepted all ≡ true → AllByRecursion (Contains all) past
    → CanFollow past e → IsStep all past e
follow_step all past e accepted inside can =
    step_of all past e can.apart (released_same all past e accepted inside can.pending) can.debited can.credited

pub balances_add_on : (all past rest : List Event) (id : ℕ) → is_accepted all ≡ true
    → AllByRecursion (Contains all) past → AllByRecursion (Contains all) rest → BalancesAdd all past id
    → follows_on past rest ≡ true → BalancesAdd all (past ++ rest) id
balances_add_on all past [] id accepted before after sums follow = rw append-nil sums
balances_add_on all past (e ∷ rest) id accepted before after sums follow =
    let first = first_follows past e rest follow in
    rw append_assoc at (balances_add_on all (past ++ e ∷ []) rest id accepted
    (AllByRecursion_push (Contains all) past e before after.0) after.1
    (balances_add-push all past e id (follow_step all past e accepted before first.0) sums) first.1)

pub balances_add-nil : (all : List Event) (id : ℕ) → BalancesAdd all [] id
balances_add-nil all id = record {
  debits_posted = refl;
  credits_posted = refl;
  debits_pending = refl;
  credits_pending = refl;
}

-- ---- two lists that one event follows

-- an event has the account on one of its sides
pub names_side : (id : ℕ) (e : Event) → names id e ≡ true
    → (e.debit_account.id ≡ id) ⊎ (e.credit_account.id ≡ id)
names_side id e is =
    elim (or_cases (e.debit_account.id == id) (e.credit_account.id == id) is) [
      | inl debit ↦ inl (eqb-true e.debit_account.id id debit)
      | inr credit ↦ inr (eqb-true e.credit_account.id id credit)
    ]

-- the four balances are the same
pub record AreSame (one other : Balances) : Type 0 where
  pub debits_pending : one.debits_pending ≡ other.debits_pending
  pub debits_posted : one.debits_posted ≡ other.debits_posted
  pub credits_pending : one.credits_pending ≡ other.credits_pending
  pub credits_posted : one.credits_posted ≡ other.credits_posted

-- both show the same of an account of the event
pub same_before : (all one other : List Event) (e : Event) (id : ℕ) → IsStep all one e → IsStep all other e
    → names id e ≡ true → AreSame (balances_after one id) (balances_after other id)
same_before all one other e id first second named = elim (names_side id e named) [
  | inl is ↦
      let a = subst (λ (n : ℕ). IsDebited all e (balances_after one n)) is first.debited in
      let b = subst (λ (n : ℕ). IsDebited all e (balances_after other n)) is second.debited in
      record {
        debits_pending = omega (arith, a.debits_pending, b.debits_pending);
        debits_posted = omega (arith, a.debits_posted, b.debits_posted);
        credits_pending = omega (arith, a.credits_pending, b.credits_pending);
        credits_posted = omega (arith, a.credits_posted, b.credits_posted);
      }
  | inr is ↦
      let a = subst (λ (n : ℕ). IsCredited all e (balances_after one n)) is first.credited in
      let b = subst (λ (n : ℕ). IsCredited all e (balances_after other n)) is second.credited in
      record {
        debits_pending = omega (arith, a.debits_pending, b.debits_pending);
        debits_posted = omega (arith, a.debits_posted, b.debits_posted);
        credits_pending = omega (arith, a.credits_pending, b.credits_pending);
        credits_posted = omega (arith, a.credits_posted, b.credits_posted);
      }
]

-- ---- lines

-- a balance that follows: what is shown and what is released are what was before and what is added
not_balanced : (shown before added less : ℕ) → not (shown + less == before + added) ≡ false
    → shown + less ≡ before + added
not_balanced shown before added less line = eqb-true (shown + less) (before + added) (not-false _ line)

-- if none of the lines on balances applies, the balances follow
pub balances_follow : (all past : List Event) (pending : Option Event) (e : Event)
    → e.debit_account.id ≢ e.credit_account.id → amount_held pending ≡ released all e
    → NoneApplies (account_lines e.debit_account (balances_after past e.debit_account.id) (amounts_by pending e) nothing
    ++ account_lines e.credit_account (balances_after past e.credit_account.id) nothing (amounts_by pending e))
    → IsStep all past e
balances_follow all past pending e apart same none =
    let both = none_both
    (account_lines e.debit_account (balances_after past e.debit_account.id) (amounts_by pending e) nothing)
    (account_lines e.credit_account (balances_after past e.credit_account.id) nothing (amounts_by pending e)) none in
    let debit = both.0 in
    let credit = both.1 in
    record {
      apart = apart;
      debited = record {
        debits_pending = ap (λ n. e.debit_account.debits_pending + n) (sym same) ∙ not_balanced _ _ _ _ debit.0;
        debits_posted = not_balanced _ _ _ _ debit.1.0;
        credits_pending = not_balanced _ _ _ _ debit.1.1.0;
        credits_posted = not_balanced _ _ _ _ debit.1.1.1.0;
      };
      credited = record {
        debits_pending = not_balanced _ _ _ _ credit.0;
        debits_posted = not_balanced _ _ _ _ credit.1.0;
        credits_pending = ap (λ n. e.credit_account.credits_pending + n) (sym same)
            ∙ not_balanced _ _ _ _ credit.1.1.0;
        credits_posted = not_balanced _ _ _ _ credit.1.1.1.0;
      };
    }
