-- The index of the open pending transfers: which expiries it has, and which comes first.
use Rattle.cdc_audit.proofs.Words.{BTreeSet, Bool, Due, Event, IsFirst, IsIndexOf, IsLowerBound, IsSome, IsTrue, List, None, Option, Some, [], and_parts, ap, ap₂, arith, btree_set_len, cond, contains, due_cmp, due_of, eq-eqb, eqb-true, eqb_tells, expires_at, false, false≢true, inl, inr, insert_entry, is_due, is_eq, is_gt, is_some, length, lookup, nat_cmp, nat_eq, nat_lt, nat_tests, ne_eqb, not, not-true, open_under, option_or, ordering_then, refl, suc, sym, true, zero, ℕ, ◌&&◌, ◌++◌, ◌<◌, ◌==◌, ◌↔◌, ◌∙◌, ◌∷◌, ◌≡◌}
use Rattle.std.specs.declared.cmp.Ordering.{Ordering}
use Rattle.std.specs.declared.cmp.Ordering.TheVariants.{Less, Equal, Greater}

-- ---- the order of expiries

-- two numbers are equal if they compare so
then_eq : (a b : ℕ) (o : Ordering) → is_eq (ordering_then (nat_cmp a b) o) ≡ ((a == b) && is_eq o)
then_eq a b o = by (nat_lt a b) refl (a == b) refl
  where
    apart : nat_lt a b ≡ true → (a == b) ≡ true → false ≡ true
    apart p q = grind (arith, nat_tests)

    by : (less : Bool) → nat_lt a b ≡ less → (same : Bool) → (a == b) ≡ same
        → is_eq (ordering_then (cond less Less (cond same Equal Greater)) o) ≡ (same && is_eq o)
    by true p true q = absurd (false≢true (apart p q))
    by true p false q = refl
    by false p true q = refl
    by false p false q = refl

last_eq : (a b : ℕ) → is_eq (nat_cmp a b) ≡ (a == b)
last_eq a b = by (nat_lt a b) refl (a == b) refl
  where
    apart : nat_lt a b ≡ true → (a == b) ≡ true → false ≡ true
    apart p q = grind (arith, nat_tests)

    by : (less : Bool) → nat_lt a b ≡ less → (same : Bool) → (a == b) ≡ same
        → is_eq (cond less Less (cond same Equal Greater)) ≡ same
    by true p true q = absurd (false≢true (apart p q))
    by true p false q = refl
    by false p true q = refl
    by false p false q = refl

-- two expiries compare as equal if all their numbers are
due_eq : (x y : Due)
    → is_eq (due_cmp x y) ≡ ((x.expires_at == y.expires_at) && ((x.timestamp == y.timestamp) && (x.id == y.id)))
due_eq x y =
    then_eq x.expires_at y.expires_at _
    ∙ ap (λ b. (x.expires_at == y.expires_at) && b)
    (then_eq x.timestamp y.timestamp _ ∙ ap (λ b. (x.timestamp == y.timestamp) && b) (last_eq x.id y.id))

-- ---- what is kept

-- a key in two lists of entries, one after the other
pub lookup-append : {V : Type 0} (id : ℕ) (xs ys : List (ℕ × V))
    → lookup (nat_eq id) (xs ++ ys) ≡ option_or (lookup (nat_eq id) xs) (lookup (nat_eq id) ys)
lookup-append id [] ys = refl
lookup-append id (x ∷ xs) ys = by (id == x.0) (lookup-append id xs ys)
  where
    by : (b : Bool)
        → lookup (nat_eq id) (xs ++ ys) ≡ option_or (lookup (nat_eq id) xs) (lookup (nat_eq id) ys)
        → cond b (Some x.1) (lookup (nat_eq id) (xs ++ ys))
        ≡ option_or (cond b (Some x.1) (lookup (nat_eq id) xs)) (lookup (nat_eq id) ys)
    by true rest = refl
    by false rest = rest

-- a new key goes last
pub insert-new : (events : List (ℕ × Event)) (id : ℕ) (e : Event) → open_under events id ≡ None
    → insert_entry nat_eq events id e ≡ events ++ (id, e) ∷ []
insert-new [] id e none = refl
insert-new (first ∷ rest) id e none = by (id == first.0) refl (insert-new rest id e)
  where
    by : (b : Bool) → (id == first.0) ≡ b
        → (open_under rest id ≡ None → insert_entry nat_eq rest id e ≡ rest ++ (id, e) ∷ [])
        → insert_entry nat_eq (first ∷ rest) id e ≡ first ∷ (rest ++ (id, e) ∷ [])
    by true is more =
        let no : Some first.1 ≡ None = sym (ap (λ b. cond b (Some first.1) (open_under rest id)) is) ∙ none in
        cc
    by false is more =
        ap (λ b. cond b ((first.0, e) ∷ rest) (first ∷ insert_entry nat_eq rest id e)) is
        ∙ ap (λ es. first ∷ es) (more (sym (ap (λ b. cond b (Some first.1) (open_under rest id)) is) ∙ none))

-- the event under an id after one more was added
pub open_under-added : (events : List (ℕ × Event)) (e : Event) (key id : ℕ) → open_under events key ≡ None
    → open_under (events ++ (key, e) ∷ []) id ≡ cond (key == id) (Some e) (open_under events id)
open_under-added events e key id none =
    lookup-append id events ((key, e) ∷ [])
    ∙ elim (eqb_tells key id) [
      | inl same ↦
          rw (same.0, ap (open_under events) (sym same.1) ∙ none, eq-eqb id key (sym same.1)) refl
      | inr other ↦
          rw (other.0, ne_eqb id key (λ is. other.1 (sym is))) (or_none (open_under events id))
    ]
  where
    or_none : (o : Option Event) → option_or o None ≡ o
    or_none None = refl
    or_none (Some x) = refl

-- ---- the index

-- an index of nothing
pub index_none : (index : BTreeSet Due) → index.keys ≡ [] → IsIndexOf index []
index_none index none due = ap (λ keys. contains due_cmp (record { keys = keys }) due) none

-- an index after one more event under a new id
pub index-added : (index after : BTreeSet Due) (events new : List (ℕ × Event)) (id : ℕ) (e : Event) (timed : Bool)
    → not (e.transfer.timeout == 0) ≡ timed → open_under events id ≡ None
    → ((other : ℕ) → open_under new other ≡ cond (id == other) (Some e) (open_under events other))
    → ((due : Due) → contains due_cmp after due
    ≡ cond (timed && is_eq (due_cmp (due_of id e) due)) true (contains due_cmp index due))
    → IsIndexOf index events → IsIndexOf after new
index-added index after events new id e timed timed_is none news added indexes due =
    added due ∙ elim (eqb_tells id due.id) [
      | inl same ↦
          ap₂ (λ b c. cond (timed && b) true c) (due_eq (due_of id e) due)
          (indexes due ∙ ap (λ o. is_due o due) (ap (open_under events) (sym same.1) ∙ none))
          ∙ here (expires_at e.transfer == due.expires_at) (e.transfer.timestamp == due.timestamp) (id == due.id)
          timed same.0
          ∙ sym (ap (λ o. is_due o due) (news due.id ∙ ap (λ b. cond b (Some e) (open_under events due.id)) same.0)
          ∙ ap (λ b. b && (expires_at e.transfer == due.expires_at) && (e.transfer.timestamp == due.timestamp))
          timed_is)
      | inr other ↦
          ap (λ b. cond (timed && b) true (contains due_cmp index due)) (due_eq (due_of id e) due)
          ∙ away (expires_at e.transfer == due.expires_at) (e.transfer.timestamp == due.timestamp) (id == due.id)
          timed (contains due_cmp index due) other.0
          ∙ indexes due
          ∙ sym (ap (λ o. is_due o due) (news due.id ∙ ap (λ b. cond b (Some e) (open_under events due.id)) other.0))
    ]
  where
    here : (p q r t : Bool) → r ≡ true → cond (t && (p && (q && r))) true false ≡ (t && p && q)
    here true true true true is = refl
    here true true true false is = refl
    here true false true true is = refl
    here true false true false is = refl
    here false true true true is = refl
    here false true true false is = refl
    here false false true true is = refl
    here false false true false is = refl
    here p q false t is = cc

    away : (p q r t c : Bool) → r ≡ false → cond (t && (p && (q && r))) true c ≡ c
    away p q true t c is = cc
    away true true false true c is = refl
    away true true false false c is = refl
    away true false false true c is = refl
    away true false false false c is = refl
    away false q false true c is = refl
    away false q false false c is = refl

-- an index after the event under an id was removed
pub index-removed : (index after : BTreeSet Due) (events new : List (ℕ × Event)) (id : ℕ) (e : Event)
    → open_under events id ≡ Some e
    → ((other : ℕ) → open_under new other ≡ cond (id == other) None (open_under events other))
    → ((due : Due) → contains due_cmp after due
    ≡ cond (is_eq (due_cmp (due_of id e) due)) false (contains due_cmp index due))
    → IsIndexOf index events → IsIndexOf after new
index-removed index after events new id e there news removed indexes due =
    removed due ∙ elim (eqb_tells id due.id) [
      | inl same ↦
          ap₂ (λ b c. cond b false c) (due_eq (due_of id e) due)
          (indexes due ∙ ap (λ o. is_due o due) (ap (open_under events) (sym same.1) ∙ there))
          ∙ here (expires_at e.transfer == due.expires_at) (e.transfer.timestamp == due.timestamp) (id == due.id)
          (not (e.transfer.timeout == 0)) same.0
          ∙ sym (ap (λ o. is_due o due) (news due.id ∙ ap (λ b. cond b None (open_under events due.id)) same.0))
      | inr other ↦
          ap (λ b. cond b false (contains due_cmp index due)) (due_eq (due_of id e) due)
          ∙ away (expires_at e.transfer == due.expires_at) (e.transfer.timestamp == due.timestamp) (id == due.id)
          (contains due_cmp index due) other.0
          ∙ indexes due
          ∙ sym (ap (λ o. is_due o due) (news due.id ∙ ap (λ b. cond b None (open_under events due.id)) other.0))
    ]
  where
    here : (p q r t : Bool) → r ≡ true → cond (p && (q && r)) false (t && p && q) ≡ false
    here true true true t is = refl
    here true false true true is = refl
    here true false true false is = refl
    here false q true true is = refl
    here false q true false is = refl
    here p q false t is = cc

    away : (p q r c : Bool) → r ≡ false → cond (p && (q && r)) false c ≡ c
    away p q true c is = cc
    away true true false c is = refl
    away true false false c is = refl
    away false q false c is = refl

-- ---- what comes first

-- if the index is empty, nothing expires
pub first-none : (index : BTreeSet Due) (events : List (ℕ × Event)) → IsIndexOf index events
    → btree_set_len index ≡ 0 → IsFirst (open_under events) None
first-none index events indexes empty id e there =
    by (e.transfer.timeout == 0) refl
  where
    keys_none : (keys : List Due) → length keys ≡ 0 → (due : Due)
        → contains due_cmp (record { keys = keys }) due ≡ false
    keys_none [] none due = refl
    keys_none (x ∷ xs) none due = cc

    whole : (a b : ℕ) → (true && (a == a) && (b == b)) ≡ true
    whole a b = ap₂ (λ p q. true && p && q) (eq-eqb a a refl) (eq-eqb b b refl)

    by : (b : Bool) → (e.transfer.timeout == 0) ≡ b → b ≡ true
    by true is = refl
    by false is =
        absurd (false≢true (sym (keys_none index.keys empty (due_of id e)) ∙ indexes (due_of id e)
        ∙ ap (λ o. is_due o (due_of id e)) there
        ∙ ap (λ b. not b && (expires_at e.transfer == expires_at e.transfer)
        && (e.transfer.timestamp == e.transfer.timestamp)) is
        ∙ whole (expires_at e.transfer) e.transfer.timestamp))

-- what isn't there is none
pub none_there : (o : Option Event) → is_some o ≡ false → o ≡ None
none_there None is = refl
none_there (Some e) is = cc

-- an index that has no first expiry is empty
pub no_first : {T : Type 0} (found : Option T) (n : ℕ) → (IsSome found ↔ (0 < n)) → found ≡ None → n ≡ 0
no_first found zero is none = refl
no_first found (suc n) is none =
    let more : 0 < suc n = omega arith in
    absurd (false≢true (sym (ap is_some none) ∙ is.1 more))

-- and what the index has first expires first
pub first-some : (index : BTreeSet Due) (events : List (ℕ × Event)) (due : Due) → IsIndexOf index events
    → IsTrue (contains due_cmp index due) → IsLowerBound due_cmp index due
    → IsFirst (open_under events) (open_under events due.id)
first-some index events due indexes there least = by (open_under events due.id) refl
  where
    by : (o : Option Event) → open_under events due.id ≡ o → IsFirst (open_under events) o
    by None none =
        absurd (false≢true (sym (ap (λ o. is_due o due) none) ∙ sym (indexes due) ∙ there))
    by (Some first) is =
        let all = sym (ap (λ o. is_due o due) is) ∙ sym (indexes due) ∙ there in
        let front = and_parts (not (first.transfer.timeout == 0) && (expires_at first.transfer == due.expires_at))
        (first.transfer.timestamp == due.timestamp) all in
        let two = and_parts (not (first.transfer.timeout == 0)) (expires_at first.transfer == due.expires_at) front.0 in
        let same : due_of due.id first ≡ due = λ i. record {
          expires_at = eqb-true (expires_at first.transfer) due.expires_at two.1 i;
          timestamp = eqb-true first.transfer.timestamp due.timestamp front.1 i;
          id = due.id;
        } in
        record {
          id = due.id;
          there = is;
          timed = not-true _ two.0;
          least = λ other e kept timed.
              ap (λ d. is_gt (due_cmp d (due_of other e))) same
              ∙ least (due_of other e)
              (indexes (due_of other e) ∙ ap (λ o. is_due o (due_of other e)) kept
              ∙ ap (λ b. not b && (expires_at e.transfer == expires_at e.transfer)
              && (e.transfer.timestamp == e.transfer.timestamp)) timed
              ∙ ap₂ (λ p q. true && p && q) (eq-eqb (expires_at e.transfer) (expires_at e.transfer) refl)
              (eq-eqb e.transfer.timestamp e.transfer.timestamp refl));
        }
