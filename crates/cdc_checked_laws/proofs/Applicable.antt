-- What an event has that is applied.
use Rattle.std.proofs.Common.{◌≡◌, ℕ, ◌<◌, Bool, true, false, List, [], ◌∷◌, ◌++◌, Option, Some, None, is_none, append-nil, refl, ap, ◌∙◌, subst, inl, inr}
use Rattle.std.specs.Prelude.{◌==◌, ◌&&◌, nat_lt, filter, if◌then◌else◌}
use Rattle.std.proofs.lemmas.Bool.{and_parts, eq-eqb, ltb-true, or_left}
use Rattle.std.proofs.lemmas.List.Elements.{filter-append}
use Rattle.cdc_types.specs.declared.events.Event.{Event}
use Rattle.cdc_types.specs.Lines.{first_line}
use Rattle.cdc_types.specs.Timestamps.{last_timestamp}
use Rattle.cdc_types.proofs.Rising.{last_timestamp_from-push}
use Rattle.cdc_ledger.specs.Kinds.{settles}
use Rattle.cdc_audit.specs.declared.refusals.Refusal.{Refusal}
use Rattle.cdc_audit.specs.declared.refusals.Refusal.TheVariants.{NotPending}
use Rattle.cdc_audit.specs.Checks.{account_lines, nothing}
use Rattle.cdc_audit.specs.Known.{balances_after, settled_id}
use Rattle.cdc_audit.specs.Settling.{settling_lines}
use Rattle.cdc_audit_laws.proofs.Following.{NoneApplies, none_applies, none_both}
use Rattle.cdc_checked.specs.Checked.{account_rules, amounts_by, is_applicable, is_new, last_of, names, open_one}
use Rattle.cdc_checked_laws.proofs.Steps.{names_side}

pub record Applicable (applied : List Event) (e : Event) : Type 0 where
  pub debit_new : last_of applied e.debit_account.id < e.timestamp
  pub credit_new : last_of applied e.credit_account.id < e.timestamp
  pub pending : (settles e.kind && is_none (open_one applied e)) ≡ false
  pub balances : NoneApplies (account_lines e.debit_account (balances_after applied e.debit_account.id)
      (amounts_by (open_one applied e) e) nothing
      ++ account_lines e.credit_account (balances_after applied e.credit_account.id) nothing
      (amounts_by (open_one applied e) e))

-- no refusal
pub none_is : {A : Type 0} (o : Option A) → is_none o ≡ true → o ≡ None
none_is None is = refl
none_is (Some x) is = cc

pub applicable : (applied : List Event) (e : Event) → is_applicable applied e ≡ true → Applicable applied e
unfolding is_applicable
applicable applied e is =
    let parts = and_parts (is_new applied e) (is_none (first_line (account_rules applied e))) is in
    let new = and_parts (nat_lt (last_of applied e.debit_account.id) e.timestamp)
    (nat_lt (last_of applied e.credit_account.id) e.timestamp) parts.0 in
    let line : Bool × Refusal = (settles e.kind && is_none (open_one applied e), NotPending (settled_id e)) in
    let none = none_both (line ∷ settling_lines (open_one applied e) e)
    (account_lines e.debit_account (balances_after applied e.debit_account.id) (amounts_by (open_one applied e) e)
    nothing
    ++ account_lines e.credit_account (balances_after applied e.credit_account.id) nothing
    (amounts_by (open_one applied e) e))
    (none_applies (account_rules applied e) (none_is (first_line (account_rules applied e)) parts.1)) in
    record {
      debit_new = ltb-true (last_of applied e.debit_account.id) e.timestamp new.0;
      credit_new = ltb-true (last_of applied e.credit_account.id) e.timestamp new.1;
      pending = none.0.0;
      balances = none.1;
    }

-- it is later than what was applied of each of its accounts
pub newer : (applied : List Event) (e : Event) (id : ℕ) → Applicable applied e → names id e ≡ true
    → last_of applied id < e.timestamp
newer applied e id can named =
    elim (names_side id e named) [
      | inl is ↦ subst (λ (n : ℕ). last_of applied n < e.timestamp) is can.debit_new
      | inr is ↦ subst (λ (n : ℕ). last_of applied n < e.timestamp) is can.credit_new
    ]

-- an event has its own accounts
pub names_debit : (e : Event) → names e.debit_account.id e ≡ true
names_debit e =
    or_left (e.debit_account.id == e.debit_account.id) (e.credit_account.id == e.debit_account.id)
    (eq-eqb e.debit_account.id e.debit_account.id refl)

-- one more event
pub last_of-named : (es : List Event) (e : Event) (id : ℕ) → names id e ≡ true
    → last_of (es ++ e ∷ []) id ≡ e.timestamp
last_of-named es e id is =
    ap last_timestamp (filter-append (names id) es (e ∷ [])
    ∙ ap (λ b. filter (names id) es ++ (if b then e ∷ [] else [])) is)
    ∙ last_timestamp_from-push 0 (filter (names id) es) e

pub last_of-other : (es : List Event) (e : Event) (id : ℕ) → names id e ≡ false
    → last_of (es ++ e ∷ []) id ≡ last_of es id
last_of-other es e id is =
    ap last_timestamp (filter-append (names id) es (e ∷ [])
    ∙ ap (λ b. filter (names id) es ++ (if b then e ∷ [] else [])) is
    ∙ append-nil (filter (names id) es))
