-- A part of a ledger's events that has each account whole, or not at all.
use Rattle.std.proofs.Common.{◌≡◌, ℕ, ◌+◌, ◌<◌, ◌≤◌, Bool, true, false, not, List, [], ◌∷◌, ◌++◌, Option, Some, None, is_none, take, drop, append_assoc, append-nil, refl, sym, ap, ap₂, ◌∙◌, subst, inl, inr, arith}
use Rattle.std.specs.Prelude.{◌==◌, ◌&&◌, ◌||◌, nat_lt, Contains, filter, find, fold, sum_by, if◌then◌else◌, option_map, unwrap_or}
use Rattle.std.specs.List.{AllByRecursion, list_all, list_any}
use Rattle.std.proofs.lemmas.Bool.{and_parts, eq-eqb, false_from_ne_true, false≢true, ltb-true, not-true, or_right}
use Rattle.std.proofs.lemmas.List.{take-append-drop}
use Rattle.std.proofs.lemmas.List.Elements.{Contains-append_cases, Contains-append_left, Contains-append_right}
use Rattle.std.proofs.lemmas.List.Sums.{sum_by-cons}
use Rattle.cdc_types.specs.declared.events.Event.{Event}
use Rattle.cdc_types.specs.declared.events.Headers.{Headers}
use Rattle.cdc_types.specs.Timestamps.{RiseFrom, last_timestamp_from}
use Rattle.cdc_types.proofs.Rising.{RiseFrom-filter}
use Rattle.cdc_ledger.specs.Events.{events}
use Rattle.cdc_ledger.specs.History.{History}
use Rattle.cdc_ledger.specs.Kinds.{settles}
use Rattle.cdc_ledger.specs.Submit.{IsLegal}
use Rattle.cdc_ledger.proofs.Elements.{AllByRecursion_push}
use Rattle.cdc_ledger.proofs.StoredLaws.{find_all}
use Rattle.cdc_message.specs.Headers.{headers_of_event}
use Rattle.cdc_message.specs.Replays.{IsPrefix}
use Rattle.cdc_match.specs.declared.pairs.Mode.{Mode}
use Rattle.cdc_match.specs.declared.pairs.Mode.TheVariants.{All, Any}
use Rattle.cdc_match.specs.declared.pairs.Pair.{Pair}
use Rattle.cdc_match.specs.declared.pairs.Pair.TheVariants.{EventType, Ledger, TransferCode, DebitAccountCode, CreditAccountCode}
use Rattle.cdc_match.specs.Arguments.{Arguments}
use Rattle.cdc_match.specs.Matching.{equals_header, matches, pass}
use Rattle.cdc_audit.specs.declared.fields.FixedFields.{FixedFields}
use Rattle.cdc_audit.specs.Audits.{is_accepted}
use Rattle.cdc_audit.specs.Fields.{fields_before, fixed_fields}
use Rattle.cdc_audit.specs.Known.{pending_amount, pending_event, settled_id}
use Rattle.cdc_audit.specs.Rules.{posted, released}
use Rattle.cdc_audit_laws.proofs.Following.{CanFollow}
use Rattle.cdc_audit_laws.proofs.Known.{IsKnown, all_known}
use Rattle.cdc_audit_laws.proofs.Premises.{accounts_in}
use Rattle.cdc_audit_laws.proofs.Streams.{accepted_events_rise}
use Rattle.cdc_checked.specs.Checked.{checked, is_applicable, names, next_checked}
use Rattle.cdc_checked_laws.specs.Laws.{CheckedPartsAreAPrefix, CheckedPartsMissNothing, IsClosed, IsNextOf, LedgerBindingsAreClosed, MovedNothing, WholePartsAreApplied, has_event_at, is_missed, is_on_ledger, missed, moves_of}
use Rattle.cdc_checked_laws.proofs.Applicable.{names_debit}
use Rattle.cdc_checked_laws.proofs.Members.{Parts, above, cons_cases, each_from, each_has, first_there, has_own, none_there, parts_at}
use Rattle.cdc_checked_laws.proofs.Missed.{accepted_events, checked_accounts_miss_nothing}
use Rattle.cdc_checked_laws.proofs.Prefix.{checked_movements_are_a_prefix, is_left, passes, was_there}
use Rattle.cdc_checked_laws.proofs.Redelivered.{settles_own, the_next_event_is_applied}
use Rattle.cdc_checked_laws.proofs.Released.{event_follows, is_pending, released_same}
use Rattle.cdc_checked_laws.proofs.Steps.{names_side}

-- ---- filters and sums

-- if each element that passes the second test passes the first one, the first one takes nothing away
filter_within : {X : Type 0} (p q : X → Bool) (xs : List X) → AllByRecursion (λ x. q x ≡ true → p x ≡ true) xs
    → filter q (filter p xs) ≡ filter q xs
filter_within p q [] all = refl
filter_within {X} p q (x ∷ xs) all = by (p x) refl (filter_within p q xs all.1)
  where
    by : (b : Bool) → p x ≡ b → filter q (filter p xs) ≡ filter q xs
        → filter q (if b then x ∷ filter p xs else filter p xs) ≡ (if q x then x ∷ filter q xs else filter q xs)
    by true is rest = ap (λ (ys : List X). if q x then x ∷ ys else ys) rest
    by false is rest =
        rest
        ∙ sym (ap (λ (b : Bool). if b then x ∷ filter q xs else filter q xs)
        (false_from_ne_true (q x) (λ pass. false≢true (sym is ∙ all.0 pass))))

-- a test that nothing passes leaves nothing
none_left : {X : Type 0} (p : X → Bool) (xs : List X) → AllByRecursion (λ x. p x ≡ false) xs → filter p xs ≡ []
none_left p [] all = refl
none_left {X} p (x ∷ xs) all =
    ap₂ (λ (b : Bool) (ys : List X). if b then x ∷ ys else ys) all.0 (none_left p xs all.1)

-- weights that agree on each element have the same sum
same_sum : {X : Type 0} (v w : X → ℕ) (xs : List X) → AllByRecursion (λ x. v x ≡ w x) xs → sum_by v xs ≡ sum_by w xs
same_sum v w [] all = refl
same_sum v w (x ∷ xs) all =
    sum_by-cons v x xs ∙ ap₂ (λ a b. a + b) all.0 (same_sum v w xs all.1) ∙ sym (sum_by-cons w x xs)

-- an element that passes is found, or one before it
finds_one : {X : Type 0} (p : X → Bool) (xs : List X) (x : X) → Contains xs x → p x ≡ true
    → is_none (find p xs) ≡ false
finds_one p [] x there is = absurd (none_there x there)
finds_one {X} p (y ∷ xs) x there is =
    elim (cons_cases y xs x there) [
      | inl same ↦
          ap (λ (b : Bool). is_none (if b then Some y else find p xs)) (ap p same ∙ is)
      | inr later ↦ by (p y) (finds_one p xs x later is)
    ]
  where
    by : (b : Bool) → is_none (find p xs) ≡ false → is_none (if b then Some y else find p xs) ≡ false
    by true rest = refl
    by false rest = rest

-- ---- rising events

-- what comes after an event of a rising list is later
rise_after : (t : ℕ) (front : List Event) (e : Event) (back : List Event) → RiseFrom t (front ++ e ∷ back)
    → RiseFrom e.timestamp back
rise_after t [] e back rise = rise.1
rise_after t (x ∷ front) e back rise = rise_after x.timestamp front e back rise.1

-- of what comes before it, the last event that passes a test is earlier
last_less : (p : Event → Bool) (s t : ℕ) (front : List Event) (e : Event) (back : List Event) → s ≤ t
    → RiseFrom t (front ++ e ∷ back) → last_timestamp_from s (filter p front) < e.timestamp
last_less p s t [] e back less rise = let more = rise.0 in omega (arith, less, more)
last_less p s t (x ∷ front) e back less rise =
    by (p x) (last_less p x.timestamp x.timestamp front e back (omega arith) rise.1)
    (last_less p s x.timestamp front e back (let more = rise.0 in omega (arith, less, more)) rise.1)
  where
    by : (b : Bool) → last_timestamp_from x.timestamp (filter p front) < e.timestamp
        → last_timestamp_from s (filter p front) < e.timestamp
        → last_timestamp_from s (if b then x ∷ filter p front else filter p front) < e.timestamp
    by true kept left = kept
    by false kept left = left

-- ---- a part of an accepted stream

module _ (all : List Event) (takes : Event → Bool) (accepted : is_accepted all ≡ true)
    (closed : IsClosed takes all) where
  -- what an event of the part releases is known in the part
  released_in : (x : Event) → Contains all x → takes x ≡ true → released (filter takes all) x ≡ released all x
  released_in x there taken =
      released_same all (filter takes all) x accepted
      (each_from (Contains all) (filter takes all) (λ y y_there. was_there takes all y y_there))
      (by (settles x.kind) refl (pending_event parts.front (settled_id x)) refl)
    where
      parts : Parts all x
      parts = parts_at all x there

      follows : (is_accepted parts.front ≡ true) × CanFollow parts.front x
      follows =
          event_follows parts.front x parts.back
          (subst (λ (es : List Event). is_accepted es ≡ true) parts.whole accepted)

      by : (b : Bool) → settles x.kind ≡ b → (o : Option Event) → pending_event parts.front (settled_id x) ≡ o
          → (settles x.kind && is_none (pending_amount (filter takes all) (settled_id x))) ≡ false
      by false is o o_is = ap (λ b. b && is_none (pending_amount (filter takes all) (settled_id x))) is
      by true is None o_is =
          absurd (false≢true (sym follows.1.pending
          ∙ ap₂ (λ b (o : Option Event). b && is_none (option_map (λ (y : Event). y.transfer.amount) o)) is o_is))
      by true is (Some y) o_is =
          let in_front = find_all (is_pending (settled_id x)) (Contains parts.front) parts.front y
          (each_from (Contains parts.front) parts.front (λ z z_there. z_there)) o_is in
          let y_there : Contains all y =
          subst (λ (es : List Event). Contains es y) (sym parts.whole)
          (Contains-append_left parts.front (x ∷ parts.back) y in_front.1) in
          let y_taken : takes y ≡ true =
          closed x.debit_account.id y x y_there there (settles_own parts.front x y follows.1 is o_is)
          (names_debit x)
          ∙ taken in
          let found = finds_one (is_pending (settled_id x)) (filter takes all) y
          (is_left takes all y y_there y_taken) in_front.0 in
          ap (λ b. b && is_none (pending_amount (filter takes all) (settled_id x))) is
          ∙ known (pending_event (filter takes all) (settled_id x)) found
        where
          known : (o : Option Event) → is_none o ≡ false
              → is_none (option_map (λ (z : Event). z.transfer.amount) o) ≡ false
          known None found = found
          known (Some z) found = refl

  module _ (id : ℕ) (e : Event) (there : Contains all e) (named : names id e ≡ true) (taken : takes e ≡ true) where
    -- the part has every event of the account
    same_taken : (x : Event) → Contains all x → names id x ≡ true → takes x ≡ true
    same_taken x x_there x_named = closed id x e x_there there x_named named ∙ taken

    same_missed : (applied : List Event) (t : ℕ) → missed (filter takes all) applied id t ≡ missed all applied id t
    same_missed applied t =
        filter_within takes (is_missed applied id t) all
        (each_from (λ x. is_missed applied id t x ≡ true → takes x ≡ true) all (λ x x_there is.
        same_taken x x_there
        (and_parts (names id x) (nat_lt x.timestamp t && not (has_event_at applied x.timestamp)) is).0))

    same_moves : filter (moves_of id) (filter takes all) ≡ filter (moves_of id) all
    same_moves =
        filter_within takes (moves_of id) all
        (each_from (λ x. moves_of id x ≡ true → takes x ≡ true) all (λ x x_there is.
        same_taken x x_there (and_parts (names id x) _ is).0))

    -- so what moved nothing moved nothing of the part
    moved_nothing : (applied : List Event) (t : ℕ) → MovedNothing all (missed all applied id t) id
        → MovedNothing (filter takes all) (missed (filter takes all) applied id t) id
    moved_nothing applied t nothing =
        subst (λ (es : List Event). MovedNothing (filter takes all) es id) (sym (same_missed applied t)) (record {
          debits = nothing.debits;
          credits = nothing.credits;
          debits_held = nothing.debits_held
              ∙ sym (same_sum _ _ (missed all applied id t)
              (each_from (λ x. (if x.debit_account.id == id then released (filter takes all) x else 0)
              ≡ (if x.debit_account.id == id then released all x else 0)) (missed all applied id t) (λ x x_there.
              ap (λ n. if x.debit_account.id == id then n else 0) (same_released x x_there))));
          credits_held = nothing.credits_held
              ∙ sym (same_sum _ _ (missed all applied id t)
              (each_from (λ x. (if x.credit_account.id == id then released (filter takes all) x else 0)
              ≡ (if x.credit_account.id == id then released all x else 0)) (missed all applied id t) (λ x x_there.
              ap (λ n. if x.credit_account.id == id then n else 0) (same_released x x_there))));
        })
      where
        same_released : (x : Event) → Contains (missed all applied id t) x
            → released (filter takes all) x ≡ released all x
        same_released x x_there =
            let x_known = was_there (is_missed applied id t) all x x_there in
            let is = passes (is_missed applied id t) all x x_there in
            released_in x x_known (same_taken x x_known
            (and_parts (names id x) (nat_lt x.timestamp t && not (has_event_at applied x.timestamp)) is).0)

-- what is received of a part is received of all
part_of_all : (takes : Event → Bool) (all received : List Event)
    → AllByRecursion (Contains (filter takes all)) received → AllByRecursion (Contains all) received
part_of_all takes all received inside =
    each_from (Contains all) received (λ x there.
    was_there takes all x (each_has (Contains (filter takes all)) received x inside there))

-- ---- what is applied of a part

-- what holds of each received event holds of each applied one
applied_all : (P : Event → Type 0) (applied received : List Event) → AllByRecursion P received
    → AllByRecursion P applied → AllByRecursion P (fold next_checked applied received)
applied_all P applied [] all kept = kept
applied_all P applied (e ∷ received) all kept =
    applied_all P (next_checked applied e) received all.1 (by (is_applicable applied e))
  where
    by : (b : Bool) → AllByRecursion P (if b then applied ++ e ∷ [] else applied)
    by true = AllByRecursion_push P applied e kept all.0
    by false = kept

-- an applied event of a part is in it
in_part : (part received : List Event) (e : Event) → AllByRecursion (Contains part) received
    → Contains (checked received) e → Contains part e
in_part part received e inside there =
    each_has (Contains part) (checked received) e (applied_all (Contains part) [] received inside tt) there

pub checked_parts_miss_nothing : CheckedPartsMissNothing
checked_parts_miss_nothing h takes received id e legal closed inside there named =
    let e_in = in_part (filter takes (events h)) received e inside there in
    moved_nothing (events h) takes (accepted_events h legal) closed id e (was_there takes (events h) e e_in) named
    (passes takes (events h) e e_in) (checked received) e.timestamp
    (checked_accounts_miss_nothing h received id e legal (part_of_all takes (events h) received inside) there named)

pub checked_parts_are_a_prefix : CheckedPartsAreAPrefix
checked_parts_are_a_prefix h takes received id legal closed inside =
    by (filter (moves_of id) (checked received)) refl
  where
    by : (xs : List Event) → filter (moves_of id) (checked received) ≡ xs
        → IsPrefix (filter (moves_of id) (checked received)) (filter (moves_of id) (filter takes (events h)))
    by [] none =
        subst (λ (ys : List Event). IsPrefix ys (filter (moves_of id) (filter takes (events h)))) (sym none)
        (record { rest = filter (moves_of id) (filter takes (events h)); whole = refl })
    by (x ∷ xs) is =
        let x_there = subst (λ (ys : List Event). Contains ys x) (sym is) (first_there x xs) in
        let x_in = in_part (filter takes (events h)) received x inside
        (was_there (moves_of id) (checked received) x x_there) in
        let named = (and_parts (names id x) (not (posted x == 0))
        (passes (moves_of id) (checked received) x x_there)).0 in
        subst (λ (ys : List Event). IsPrefix (filter (moves_of id) (checked received)) ys)
        (sym (same_moves (events h) takes (accepted_events h legal) closed id x (was_there takes (events h) x x_in)
        named (passes takes (events h) x x_in)))
        (checked_movements_are_a_prefix h received id legal (part_of_all takes (events h) received inside))

-- ---- a whole part

module _ (h : History) (takes : Event → Bool) (legal : IsLegal h) (closed : IsClosed takes (events h)) where
  abbrev part : List Event
  part = filter takes (events h)

  part_rises : RiseFrom 0 part
  part_rises = RiseFrom-filter takes 0 (events h) (accepted_events_rise (events h) (accepted_events h legal))

  module _ (applied : List Event) (e : Event) (rest : List Event) (whole : part ≡ applied ++ e ∷ rest) where
    e_there : Contains part e
    e_there =
        subst (λ (es : List Event). Contains es e) (sym whole)
        (Contains-append_right applied (e ∷ rest) e (first_there e rest))

    -- what comes before the event in the part was applied
    not_missed : (id : ℕ) → names id e ≡ true → (f : Event) → Contains (events h) f
        → is_missed applied id e.timestamp f ≡ true → ⊥
    not_missed id named f f_there is =
        let both = and_parts (names id f) (nat_lt f.timestamp e.timestamp && not (has_event_at applied f.timestamp)) is
        in
        let late = and_parts (nat_lt f.timestamp e.timestamp) (not (has_event_at applied f.timestamp)) both.1 in
        let less = ltb-true f.timestamp e.timestamp late.0 in
        let missing = not-true (has_event_at applied f.timestamp) late.1 in
        let f_in = is_left takes (events h) f f_there
        (closed id f e f_there (was_there takes (events h) e e_there) both.0 named
        ∙ passes takes (events h) e e_there) in
        elim (Contains-append_cases applied (e ∷ rest) f (subst (λ (es : List Event). Contains es f) whole f_in)) [
          | inl before ↦ false≢true (sym missing ∙ has_own applied f before)
          | inr after ↦ elim (cons_cases e rest f after) [
            | inl same ↦ let equal = ap (λ (x : Event). x.timestamp) same in omega (arith, less, equal)
            | inr later ↦
                let more = above e.timestamp rest f
                (rise_after 0 applied e rest (subst (RiseFrom 0) whole part_rises)) later in
                omega (arith, less, more)
          ]
        ]

    next_of : (id : ℕ) → names id e ≡ true → IsNextOf (events h) applied id e.timestamp
    next_of id named = record {
      later = last_less (names id) 0 0 applied e rest (omega arith) (subst (RiseFrom 0) whole part_rises);
      whole = none_left (is_missed applied id e.timestamp) (events h)
          (each_from (λ f. is_missed applied id e.timestamp f ≡ false) (events h) (λ f f_there.
          false_from_ne_true (is_missed applied id e.timestamp f) (not_missed id named f f_there)));
    }

    applied_inside : AllByRecursion (Contains (events h)) applied
    applied_inside =
        each_from (Contains (events h)) applied (λ x x_there.
        was_there takes (events h) x (subst (λ (es : List Event). Contains es x) (sym whole)
        (Contains-append_left applied (e ∷ rest) x x_there)))

    one_applied : checked applied ≡ applied → checked (applied ++ e ∷ []) ≡ applied ++ e ∷ []
    one_applied is =
        the_next_event_is_applied h applied e legal applied_inside (was_there takes (events h) e e_there)
        (subst (λ (es : List Event). IsNextOf (events h) es e.debit_account.id e.timestamp) (sym is)
        (next_of e.debit_account.id (names_debit e)))
        (subst (λ (es : List Event). IsNextOf (events h) es e.credit_account.id e.timestamp) (sym is)
        (next_of e.credit_account.id (or_right (e.debit_account.id == e.credit_account.id)
        (e.credit_account.id == e.credit_account.id) (eq-eqb e.credit_account.id e.credit_account.id refl))))
        ∙ ap (λ (es : List Event). es ++ e ∷ []) is

  in_order : (applied rest later : List Event) → part ≡ applied ++ (rest ++ later) → checked applied ≡ applied
      → checked (applied ++ rest) ≡ applied ++ rest
  in_order applied [] later whole is = subst (λ (es : List Event). checked es ≡ es) (sym (append-nil applied)) is
  in_order applied (e ∷ rest) later whole is =
      subst (λ (es : List Event). checked es ≡ es) (append_assoc applied (e ∷ []) rest)
      (in_order (applied ++ e ∷ []) rest later (whole ∙ sym (append_assoc applied (e ∷ []) (rest ++ later)))
      (one_applied applied e (rest ++ later) whole is))

pub whole_parts_are_applied : WholePartsAreApplied
whole_parts_are_applied h takes count legal closed =
    in_order h takes legal closed [] (take count (filter takes (events h))) (drop count (filter takes (events h)))
    (sym (take-append-drop count (filter takes (events h)))) refl

-- ---- bindings on ledgers alone

-- what holds of the accounts that events show holds of both accounts of one
shown : (P : ℕ × FixedFields → Type 0) (es : List Event) (e : Event) → AllByRecursion P (accounts_in es)
    → Contains es e
    → P (e.debit_account.id, fixed_fields e.ledger e.debit_account)
    × P (e.credit_account.id, fixed_fields e.ledger e.credit_account)
shown P [] e all there = absurd (none_there e there)
shown P (x ∷ es) e all there =
    elim (cons_cases x es e there) [
      | inl is ↦
          subst (λ (y : Event). P (y.debit_account.id, fixed_fields y.ledger y.debit_account)
          × P (y.credit_account.id, fixed_fields y.ledger y.credit_account)) is (all.0, all.1.0)
      | inr later ↦ shown P es e all.1.1 later
    ]

-- the ledger on which these events show the account
abbrev ledger_shown : List Event → ℕ → ℕ
ledger_shown es id = unwrap_or (option_map (λ (f : FixedFields). f.ledger) (fields_before es id)) 0

named_ledger : (es : List Event) (e : Event) (id : ℕ) → AllByRecursion (IsKnown es) (accounts_in es) → Contains es e
    → names id e ≡ true → ledger_shown es id ≡ e.ledger
named_ledger es e id known there named =
    let both = shown (IsKnown es) es e known there in
    let ledger_in : Option FixedFields → ℕ =
    λ o. unwrap_or (option_map (λ (f : FixedFields). f.ledger) o) 0 in
    elim (names_side id e named) [
      | inl is ↦ subst (λ (n : ℕ). ledger_shown es n ≡ e.ledger) is (ap ledger_in both.0)
      | inr is ↦ subst (λ (n : ℕ). ledger_shown es n ≡ e.ledger) is (ap ledger_in both.1)
    ]

-- headers of one ledger pass the same pairs on ledgers
one_same : (a b : Headers) (p : Pair) → is_on_ledger p ≡ true → a.ledger ≡ b.ledger
    → equals_header a p ≡ equals_header b p
one_same a b (Ledger number) is same = ap (λ n. n == number) same
one_same a b (EventType kind) is same = cc
one_same a b (TransferCode code) is same = cc
one_same a b (DebitAccountCode code) is same = cc
one_same a b (CreditAccountCode code) is same = cc

all_same : (a b : Headers) (pairs : List Pair) → list_all is_on_ledger pairs ≡ true → a.ledger ≡ b.ledger
    → list_all (equals_header a) pairs ≡ list_all (equals_header b) pairs
all_same a b [] on same = refl
all_same a b (p ∷ pairs) on same =
    let both = and_parts (is_on_ledger p) (list_all is_on_ledger pairs) on in
    ap₂ (λ x y. x && y) (one_same a b p both.0 same) (all_same a b pairs both.1 same)

any_same : (a b : Headers) (pairs : List Pair) → list_all is_on_ledger pairs ≡ true → a.ledger ≡ b.ledger
    → list_any (equals_header a) pairs ≡ list_any (equals_header b) pairs
any_same a b [] on same = refl
any_same a b (p ∷ pairs) on same =
    let both = and_parts (is_on_ledger p) (list_all is_on_ledger pairs) on in
    ap₂ (λ x y. x || y) (one_same a b p both.0 same) (any_same a b pairs both.1 same)

pass_same : (mode : Mode) (a b : Headers) (pairs : List Pair) → list_all is_on_ledger pairs ≡ true
    → a.ledger ≡ b.ledger → pass mode (equals_header a) pairs ≡ pass mode (equals_header b) pairs
pass_same All a b pairs on same = all_same a b pairs on same
pass_same Any a b pairs on same = any_same a b pairs on same

pub ledger_bindings_are_closed : LedgerBindingsAreClosed
ledger_bindings_are_closed h binding legal on id e f e_there f_there e_named f_named =
    let known = all_known [] (events h) (accepted_events h legal) tt in
    pass_same binding.mode (headers_of_event e) (headers_of_event f) binding.pairs on
    (sym (named_ledger (events h) e id known e_there e_named) ∙ named_ledger (events h) f id known f_there f_named)
