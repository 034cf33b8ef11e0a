-- Each account has the same fields wherever accepted events show it.
use Rattle.std.proofs.Common.{◌≡◌, ℕ, Bool, true, false, List, [], ◌∷◌, ◌++◌, Option, Some, None, if◌then◌else◌, refl, sym, ap, ap₂, ◌∙◌, subst, append_assoc, ◌==◌, nat_eq, append-nil, arith}
use Rattle.cdc_audit_laws.proofs.OfStd.{AllByRecursion, lookup, option_or, eq-eqb, eqb-true, ne_eqb, flat_map-append}
use Rattle.cdc_audit_laws.proofs.OfTypes.{Event, EventAccount}
use Rattle.cdc_audit_laws.proofs.OfLedger.{AllByRecursion-weaker}
use Rattle.cdc_audit_laws.proofs.OfAudit.{FixedFields, follows_on, accounts_of, fields_before, fields_lines, fixed_fields, same_lines}
use Rattle.cdc_audit_laws.proofs.Premises.{accounts_in}
use Rattle.cdc_audit_laws.proofs.Following.{CanFollow, FixedParts, NoneApplies, fixed_parts}
use Rattle.cdc_audit_laws.proofs.Streams.{first_follows}

pub none_differs : (id : ℕ) (one other : FixedFields) → NoneApplies (same_lines id one other) → one ≡ other
none_differs id one other none = grind arith

-- the events show these fields of the account first
abbrev pub IsKnown : List Event → ℕ × FixedFields → Type 0
IsKnown es a = fields_before es a.0 ≡ Some a.1

-- an account is looked up in two parts
pub lookup_parts : (id : ℕ) (first second : List (ℕ × FixedFields))
    → lookup (nat_eq id) (first ++ second) ≡ option_or (lookup (nat_eq id) first) (lookup (nat_eq id) second)
lookup_parts id [] second = refl
lookup_parts id (a ∷ first) second = by (id == a.0) (lookup_parts id first second)
  where
    by : (b : Bool) → lookup (nat_eq id) (first ++ second)
        ≡ option_or (lookup (nat_eq id) first) (lookup (nat_eq id) second)
        → (if b then Some a.1 else lookup (nat_eq id) (first ++ second))
        ≡ option_or (if b then Some a.1 else lookup (nat_eq id) first) (lookup (nat_eq id) second)
    by true later = refl
    by false later = later

pub all_parts : (P : ℕ × FixedFields → Type 0) (first second : List (ℕ × FixedFields)) → AllByRecursion P first
    → AllByRecursion P second → AllByRecursion P (first ++ second)
all_parts P [] second all others = others
all_parts P (a ∷ first) second all others = (all.0, all_parts P first second all.1 others)

-- what holds of all accounts holds of one that is found
pub found_has : (P : ℕ × FixedFields → Type 0) (those : List (ℕ × FixedFields)) (a : ℕ × FixedFields)
    → AllByRecursion P those → lookup (nat_eq a.0) those ≡ Some a.1 → P a
found_has P [] a all found = cc
found_has P (b ∷ those) a all found =
    by (nat_eq a.0 b.0) refl found (found_has P those a all.1)
  where
    by : (same : Bool) → nat_eq a.0 b.0 ≡ same → (if same then Some b.1 else lookup (nat_eq a.0) those) ≡ Some a.1
        → (lookup (nat_eq a.0) those ≡ Some a.1 → P a) → P a
    by true is found more =
        let id = eqb-true a.0 b.0 is in
        let fields : b.1 ≡ a.1 = cc in
        let same : b ≡ a = ap₂ (λ n f. let x : ℕ × FixedFields = (n, f) in x) (sym id) fields in
        subst P same all.0
    by false is found more = more found

-- the parts of what holds of all accounts
in_parts : (P : ℕ × FixedFields → Type 0) (first second : List (ℕ × FixedFields))
    → AllByRecursion P (first ++ second) → AllByRecursion P first × AllByRecursion P second
in_parts P [] second all = (tt, all)
in_parts P (a ∷ first) second all =
    let rest = in_parts P first second all.1 in ((all.0, rest.0), rest.1)

-- an event among others, with the accounts of all of them
pub accounts_parts : (P : ℕ × FixedFields → Type 0) (past : List Event) (e : Event) (rest : List Event)
    → AllByRecursion P (accounts_in (past ++ e ∷ rest))
    → AllByRecursion P (accounts_in past) × P (e.debit_account.id, fixed_fields e.ledger e.debit_account)
    × P (e.credit_account.id, fixed_fields e.ledger e.credit_account)
accounts_parts P past e rest all =
    let parts = in_parts P (accounts_in past) (accounts_in (e ∷ rest))
    (subst (AllByRecursion P) (flat_map-append accounts_of past (e ∷ rest)) all) in
    (parts.0, parts.1.0, parts.1.1.0)

-- one more event
module _ (past : List Event) (e : Event) (can : CanFollow past e) where
  pub then_known : (id : ℕ)
      → fields_before (past ++ e ∷ []) id ≡ option_or (fields_before past id) (lookup (nat_eq id) (accounts_of e))
  then_known id =
      ap (lookup (nat_eq id)) (flat_map-append accounts_of past (e ∷ []))
      ∙ lookup_parts id (accounts_in past) (accounts_of e)

  -- an account that was known stays so
  still_known : (a : ℕ × FixedFields) → IsKnown past a → IsKnown (past ++ e ∷ []) a
  still_known a known = then_known a.0 ∙ ap (λ o. option_or o (lookup (nat_eq a.0) (accounts_of e))) known

  -- an account of the event has the fields that it had before, if it had any
  now_known : (a : EventAccount) → NoneApplies (fields_lines (fields_before past a.id) e.ledger a)
      → lookup (nat_eq a.id) (accounts_of e) ≡ Some (fixed_fields e.ledger a)
      → IsKnown (past ++ e ∷ []) (a.id, fixed_fields e.ledger a)
  now_known a none found = then_known a.id ∙ by (fields_before past a.id) none
    where
      by : (o : Option FixedFields) → NoneApplies (fields_lines o e.ledger a)
          → option_or o (lookup (nat_eq a.id) (accounts_of e)) ≡ Some (fixed_fields e.ledger a)
      by None none = found
      by (Some x) none = ap Some (sym (none_differs a.id (fixed_fields e.ledger a) x none))

  known_then : AllByRecursion (IsKnown past) (accounts_in past)
      → AllByRecursion (IsKnown (past ++ e ∷ [])) (accounts_in (past ++ e ∷ []))
  known_then known =
      let d = e.debit_account in
      let c = e.credit_account in
      let d_fields = fixed_fields e.ledger d in
      let c_fields = fixed_fields e.ledger c in
      let lines : FixedParts past e = fixed_parts past e can.fixed in
      let d_found : lookup (nat_eq d.id) (accounts_of e) ≡ Some d_fields =
      ap (λ b. if b then Some d_fields else if d.id == c.id then Some c_fields else None) (eq-eqb d.id d.id refl) in
      let c_found : lookup (nat_eq c.id) (accounts_of e) ≡ Some c_fields =
      ap₂ (λ a b. if a then Some d_fields else if b then Some c_fields else None)
      (ne_eqb c.id d.id (λ same. can.apart (sym same))) (eq-eqb c.id c.id refl) in
      subst (AllByRecursion (IsKnown (past ++ e ∷ []))) (sym (flat_map-append accounts_of past (e ∷ [])))
      (all_parts _ _ _ (AllByRecursion-weaker _ _ still_known (accounts_in past) known)
      (now_known d lines.debit d_found, (now_known c lines.credit c_found, tt)))

pub all_known : (past rest : List Event) → follows_on past rest ≡ true
    → AllByRecursion (IsKnown past) (accounts_in past)
    → AllByRecursion (IsKnown (past ++ rest)) (accounts_in (past ++ rest))
all_known past [] follow known =
    subst (λ es. AllByRecursion (IsKnown es) (accounts_in es)) (sym (append-nil past)) known
all_known past (e ∷ rest) follow known =
    let first = first_follows past e rest follow in
    subst (λ es. AllByRecursion (IsKnown es) (accounts_in es)) (append_assoc past (e ∷ []) rest)
    (all_known (past ++ e ∷ []) rest first.1 (known_then past e first.0 known))
