-- Accepted events show accounts that were opened alone: no event and no other account has the timestamp of one.
use Rattle.std.proofs.Common.{◌≡◌, ◌≢◌, ◌⊎◌, inl, inr, ℕ, ◌<◌, Bool, true, false, List, [], ◌∷◌, ◌++◌, Option, Some, None, is_some, if◌then◌else◌, refl, sym, ap, ◌∙◌, subst, append_assoc, arith, ◌==◌, nat_eq, option_map, find, append-nil}
use Rattle.cdc_audit_laws.proofs.OfStd.{AllByRecursion, lookup, option_or, eqb-false, eqb-true, or_parts}
use Rattle.cdc_audit_laws.proofs.OfTypes.{Event, EventAccount, last_timestamp, last_timestamp_from-push}
use Rattle.cdc_audit_laws.proofs.OfLedger.{AllByRecursion_push}
use Rattle.cdc_audit_laws.proofs.OfAudit.{FixedFields, account_at, accounts_before, has_time, times_before, times_known, times_lines, times_of, follows_on, fields_before, fixed_fields, accounts_before-fields}
use Rattle.cdc_audit_laws.proofs.Following.{CanFollow, FixedParts, NoneApplies, fixed_parts}
use Rattle.cdc_audit_laws.proofs.Known.{then_known}
use Rattle.cdc_audit_laws.proofs.Openings.{AreCreated, are_created}
use Rattle.cdc_audit_laws.proofs.Streams.{first_follows}

-- the timestamp of each account that these events show is its own, and past
pub record AreAlone (past : List Event) : Type 0 where
  pub before : (i : ℕ) (f : FixedFields) → fields_before past i ≡ Some f → f.timestamp < last_timestamp past
  pub no_event : (i : ℕ) (f : FixedFields) → fields_before past i ≡ Some f
      → AllByRecursion (λ (e : Event). e.timestamp ≢ f.timestamp) past
  pub no_other : (i j : ℕ) (f g : FixedFields) → fields_before past i ≡ Some f → fields_before past j ≡ Some g
      → f.timestamp ≡ g.timestamp → i ≡ j

-- no event shows one yet
pub alone-nil : AreAlone []
alone-nil = record { before = λ i f is. cc; no_event = λ i f is. tt; no_other = λ i j f g is other same. cc }

-- no event has a timestamp that isn't among theirs
pub none_at : (t : ℕ) (es : List Event) → has_time (times_of es) t ≡ false
    → AllByRecursion (λ (e : Event). e.timestamp ≢ t) es
none_at t [] none = tt
none_at t (e ∷ es) none =
    let parts = or_parts (e.timestamp == t) (has_time (times_of es) t) none in
    (eqb-false e.timestamp t parts.0, none_at t es parts.1)

-- an account that is there is found by its timestamp
found_at : (j : ℕ) (g : FixedFields) (fs : List (ℕ × FixedFields)) → lookup (nat_eq j) fs ≡ Some g
    → is_some (account_at fs g.timestamp) ≡ false → ⊥
found_at j g [] found none = cc
found_at j g (a ∷ fs) found none =
    by (nat_eq j a.0) (a.1.timestamp == g.timestamp) refl found none (found_at j g fs)
  where
    by : (same there : Bool) → (a.1.timestamp == g.timestamp) ≡ there
        → (if same then Some a.1 else lookup (nat_eq j) fs) ≡ Some g
        → is_some (option_map (λ (x : ℕ × FixedFields). x.0)
        (if there then Some a else find (λ x. x.1.timestamp == g.timestamp) fs)) ≡ false
        → (lookup (nat_eq j) fs ≡ Some g → is_some (account_at fs g.timestamp) ≡ false → ⊥) → ⊥
    by same there is found none rest = grind arith

-- ---- one more event
module _ (past : List Event) (e : Event) (can : CanFollow past e) where
  parts : FixedParts past e
  parts = fixed_parts past e can.fixed

  created : AreCreated e
  created = are_created past e can

  -- an account that the event shows first has a timestamp that no earlier event and no account before it has
  record IsNew (f : FixedFields) : Type 0 where
    no_event : AllByRecursion (λ (x : Event). x.timestamp ≢ f.timestamp) past
    no_account : is_some (account_at (accounts_before past) f.timestamp) ≡ false
    before : f.timestamp < e.timestamp

  new_one : (a : EventAccount) → fields_before past a.id ≡ None
      → NoneApplies (times_lines (times_before past a) a) → a.timestamp < e.timestamp → IsNew (fixed_fields e.ledger a)
  new_one a unknown none earlier =
      let lines : NoneApplies (times_lines (times_known false (times_of past) (accounts_before past) a.timestamp) a) =
      subst
      (λ o. NoneApplies (times_lines (times_known (is_some o) (times_of past) (accounts_before past) a.timestamp) a))
      unknown none in
      record {
        no_event = none_at a.timestamp past lines.0;
        no_account = lines.1.0;
        before = earlier;
      }

  -- the two accounts of the event
  abbrev d_fields : FixedFields
  d_fields = fixed_fields e.ledger e.debit_account

  abbrev c_fields : FixedFields
  c_fields = fixed_fields e.ledger e.credit_account

  -- these fields are those of one of them
  abbrev IsOneOf : ℕ → FixedFields → Type 0
  IsOneOf i f =
      ((i ≡ e.debit_account.id) × (f ≡ d_fields)) ⊎ ((i ≡ e.credit_account.id) × (f ≡ c_fields))

  -- an account was shown before, or the event shows it first
  come_from : (i : ℕ) (f : FixedFields) → fields_before (past ++ e ∷ []) i ≡ Some f
      → (fields_before past i ≡ Some f) ⊎ (IsNew f × IsOneOf i f)
  come_from i f found =
      by (fields_before past i) refl (nat_eq i e.debit_account.id) refl (nat_eq i e.credit_account.id) refl
      (sym (then_known past e can i) ∙ found)
    where
      by : (o : Option FixedFields) → fields_before past i ≡ o → (one : Bool) → nat_eq i e.debit_account.id ≡ one
          → (other : Bool) → nat_eq i e.credit_account.id ≡ other
          → option_or o (if one then Some d_fields else if other then Some c_fields else None) ≡ Some f
          → (fields_before past i ≡ Some f) ⊎ (IsNew f × IsOneOf i f)
      by (Some x) known one one_is other other_is found = inl (known ∙ found)
      by None unknown true one_is other other_is found =
          let id = eqb-true i e.debit_account.id one_is in
          let is : f ≡ d_fields = cc in (
          inr (
            subst IsNew (sym is) (new_one e.debit_account (ap (fields_before past) (sym id) ∙ unknown)
                parts.debit_times created.debit),
            inl (id, is),
          )
          )
      by None unknown false one_is true other_is found =
          let id = eqb-true i e.credit_account.id other_is in
          let is : f ≡ c_fields = cc in (
          inr (
            subst IsNew (sym is) (new_one e.credit_account (ap (fields_before past) (sym id) ∙ unknown)
                parts.credit_times created.credit),
            inr (id, is),
          )
          )
      by None unknown false one_is false other_is found = cc

  module _ (alone : AreAlone past) where
    before_then : (i : ℕ) (f : FixedFields) → fields_before (past ++ e ∷ []) i ≡ Some f → f.timestamp < e.timestamp
    before_then i f is = elim (come_from i f is) [
      | inl old ↦
          let earlier = alone.before i f old in
          let later = can.later in omega (arith, earlier, later)
      | inr new ↦ new.0.before
    ]

    no_event_then : (i : ℕ) (f : FixedFields) → fields_before (past ++ e ∷ []) i ≡ Some f
        → AllByRecursion (λ (x : Event). x.timestamp ≢ f.timestamp) past
    no_event_then i f is = elim (come_from i f is) [
      | inl old ↦ alone.no_event i f old
      | inr new ↦ new.0.no_event
    ]

    -- an account that was shown before hasn't the timestamp of a new one
    not_new : (j : ℕ) (f g : FixedFields) → fields_before past j ≡ Some g → IsNew f → g.timestamp ≡ f.timestamp → ⊥
    not_new j f g old new same =
        found_at j g (accounts_before past) (accounts_before-fields past j ∙ old)
        (ap (λ t. is_some (account_at (accounts_before past) t)) same ∙ new.no_account)

    -- of the two accounts of the event neither has the timestamp of the other one
    not_both : (f g : FixedFields) → f ≡ d_fields → g ≡ c_fields → f.timestamp ≡ g.timestamp → ⊥
    not_both f g f_is g_is same =
        eqb-false e.debit_account.timestamp e.credit_account.timestamp parts.together.0
        (sym (ap (λ (x : FixedFields). x.timestamp) f_is) ∙ same ∙ ap (λ (x : FixedFields). x.timestamp) g_is)

    both_new : (i j : ℕ) (f g : FixedFields) → IsOneOf i f → IsOneOf j g → f.timestamp ≡ g.timestamp → i ≡ j
    both_new i j f g (inl one) (inl other) same = one.0 ∙ sym other.0
    both_new i j f g (inl one) (inr other) same = absurd (not_both f g one.1 other.1 same)
    both_new i j f g (inr one) (inl other) same = absurd (not_both g f other.1 one.1 (sym same))
    both_new i j f g (inr one) (inr other) same = one.0 ∙ sym other.0

    no_other_then : (i j : ℕ) (f g : FixedFields) → fields_before (past ++ e ∷ []) i ≡ Some f
        → fields_before (past ++ e ∷ []) j ≡ Some g → f.timestamp ≡ g.timestamp → i ≡ j
    no_other_then i j f g is other same = elim (come_from i f is) [
      | inl old ↦ elim (come_from j g other) [
        | inl known ↦ alone.no_other i j f g old known same
        | inr new ↦ absurd (not_new i g f old new.0 same)
      ]
      | inr new ↦ elim (come_from j g other) [
        | inl known ↦ absurd (not_new j f g known new.0 (sym same))
        | inr newer ↦ both_new i j f g new.1 newer.1 same
      ]
    ]

    alone_then : AreAlone (past ++ e ∷ [])
    alone_then = record {
      before = λ i f is.
          subst (λ t. f.timestamp < t) (sym (last_timestamp_from-push 0 past e)) (before_then i f is);
      no_event = λ i f is. AllByRecursion_push _ past e (no_event_then i f is)
          (λ same. let earlier = before_then i f is in omega (arith, same, earlier));
      no_other = no_other_then;
    }

-- so it is after all that follow
pub all_alone : (past rest : List Event) → follows_on past rest ≡ true → AreAlone past → AreAlone (past ++ rest)
all_alone past [] follow alone = subst AreAlone (sym (append-nil past)) alone
all_alone past (e ∷ rest) follow alone =
    let first = first_follows past e rest follow in
    subst AreAlone (append_assoc past (e ∷ []) rest)
    (all_alone (past ++ e ∷ []) rest first.1 (alone_then past e first.0 alone))
