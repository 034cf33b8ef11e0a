-- What the events show of a transfer after one more event, and what an auditor knows of it then.
use Rattle.cdc_audit.proofs.Words.{AllByRecursion, AllByRecursion-weaker, AllByRecursion_push, Bool, RiseFrom, arith, chain_length, chain_length_from, ends_in_chain, last_timestamp, lt-ltb, max_64, min, nat_lt, next_chain, ◌+◌, ◌<◌, ◌≤◌, Event, EventKind, IsKnownOf, IsOnce, List, None, Option, Some, Stored, [], amount_in, ap, ap₂, cond, eqb_tells, expiry_or, false, find, find-append, holds, inl, inr, insert_entry, is_linked, is_none, is_settled, is_some, is_stored, last_expiry_from, linked_from, list_any-append, nat_eq, ne_eqb, open_event, open_under, option_map, option_or, pending_amount, pending_event, refl, settled_id, settles, stored_by, stored_under, stores, sym, true, unwrap_or, was_settled, with_held, with_open, with_own, with_settled, without_settled, ℕ, ◌&&◌, ◌++◌, ◌==◌, ◌||◌, ◌∙◌, ◌∷◌, ◌≡◌}
use Rattle.cdc_types.specs.declared.bounds.TheConstants.Limits.{TIMESTAMP}
use Rattle.cdc_types.specs.Timestamps.{last_timestamp_from}
use Rattle.cdc_types.specs.declared.events.EventKind.TheVariants as kind
use Rattle.cdc_audit.specs.declared.checks.Stored.TheVariants.{Plain, Pending, Settled}
use Rattle.cdc_audit.proofs.OpenLemmas.{open_under-added}

or_false : (b : Bool) → (b || false) ≡ b
or_false true = refl
or_false false = refl

-- what is stored after one more event
is_stored-push : (past : List Event) (e : Event) (id : ℕ)
    → is_stored (past ++ e ∷ []) id ≡ (is_stored past id || (stores e.kind && (e.transfer.id == id)))
is_stored-push past e id =
    list_any-append (λ (f : Event). stores f.kind && (f.transfer.id == id)) past (e ∷ [])
    ∙ ap (λ b. is_stored past id || b) (or_false (stores e.kind && (e.transfer.id == id)))

-- what is settled after one more event
is_settled-push : (past : List Event) (e : Event) (id : ℕ)
    → is_settled (past ++ e ∷ []) id ≡ (is_settled past id || (settles e.kind && (settled_id e == id)))
is_settled-push past e id =
    list_any-append (λ (f : Event). settles f.kind && (settled_id f == id)) past (e ∷ [])
    ∙ ap (λ b. is_settled past id || b) (or_false (settles e.kind && (settled_id e == id)))

-- the event that stored a pending transfer, after one more event
pending_event-push : (past : List Event) (e : Event) (id : ℕ)
    → pending_event (past ++ e ∷ []) id
    ≡ option_or (pending_event past id) (cond (holds e.kind && (e.transfer.id == id)) (Some e) None)
pending_event-push past e id = find-append (λ (f : Event). holds f.kind && (f.transfer.id == id)) past (e ∷ [])

amount-or : (one other : Option Event)
    → option_map (λ (e : Event). e.transfer.amount) (option_or one other)
    ≡ option_or (option_map (λ (e : Event). e.transfer.amount) one)
    (option_map (λ (e : Event). e.transfer.amount) other)
amount-or None other = refl
amount-or (Some e) other = refl

amount-one : (e : Event) (t : Bool)
    → option_map (λ (f : Event). f.transfer.amount) (cond t (Some e) None) ≡ cond t (Some e.transfer.amount) None
amount-one e true = refl
amount-one e false = refl

-- a kind of event that holds its amount stores its transfer
holds_stores : (k : EventKind) (t : Bool) → (holds k && t) ≡ (holds k && (stores k && t))
holds_stores kind.SinglePhase t = refl
holds_stores kind.TwoPhasePending t = refl
holds_stores kind.TwoPhasePosted t = refl
holds_stores kind.TwoPhaseVoided t = refl
holds_stores kind.TwoPhaseExpired t = refl

-- the amount that is or was pending, after one more event
pending_amount-push : (past : List Event) (e : Event) (id : ℕ)
    → pending_amount (past ++ e ∷ []) id
    ≡ option_or (pending_amount past id)
    (cond (holds e.kind && (stores e.kind && (e.transfer.id == id))) (Some e.transfer.amount) None)
pending_amount-push past e id =
    let test : Event → Bool = λ f. holds f.kind && (f.transfer.id == id) in
    ap (option_map (λ (f : Event). f.transfer.amount)) (find-append test past (e ∷ []))
    ∙ amount-or (find test past) (find test (e ∷ []))
    ∙ ap (option_or (pending_amount past id)) (amount-one e (test e))
    ∙ ap (λ t. option_or (pending_amount past id) (cond t (Some e.transfer.amount) None))
    (holds_stores e.kind (e.transfer.id == id))

eqb_same : (n : ℕ) → (n == n) ≡ true
eqb_same n = elim (eqb_tells n n) [
  | inl same ↦ same.0
  | inr other ↦ absurd (other.1 refl)
]

-- what is known under an id after an insertion
stored_under-insert : (transfers : List (ℕ × Stored)) (key : ℕ) (stored : Stored) (id : ℕ)
    → stored_under (insert_entry nat_eq transfers key stored) id
    ≡ cond (key == id) (Some stored) (stored_under transfers id)
stored_under-insert [] key stored id =
    elim (eqb_tells key id) [
      | inl same ↦ rw (same.0, ← same.1, eqb_same key) refl
      | inr other ↦ rw (other.0, ne_eqb id key (λ is. other.1 (sym is))) refl
    ]
stored_under-insert (first ∷ rest) key stored id =
    elim (eqb_tells key first.0) [
      | inl here ↦ elim (eqb_tells key id) [
        | inl same ↦ rw (here.0, same.0, ← same.1, here.0) refl
        | inr other ↦
            let away : (id == first.0) ≡ false = ne_eqb id first.0 (λ is. other.1 (here.1 ∙ sym is)) in
            rw (here.0, other.0, away) refl
      ]
      | inr apart ↦ elim (eqb_tells id first.0) [
        | inl there ↦
            let away : (key == id) ≡ false = ne_eqb key id (λ is. apart.1 (is ∙ there.1)) in
            rw (apart.0, there.0, away) refl
        | inr away ↦ rw (apart.0, away.0) (stored_under-insert rest key stored id)
      ]
    ]

stored_under-if : (counts : Bool) (transfers : List (ℕ × Stored)) (key : ℕ) (stored : Stored) (id : ℕ)
    → stored_under (cond counts (insert_entry nat_eq transfers key stored) transfers) id
    ≡ cond (counts && (key == id)) (Some stored) (stored_under transfers id)
stored_under-if true transfers key stored id = stored_under-insert transfers key stored id
stored_under-if false transfers key stored id = refl

-- what is known under an id after an event
stored_under-step : (transfers : List (ℕ × Stored)) (e : Event) (amount id : ℕ)
    → stored_under (with_settled (with_own transfers e) e amount) id
    ≡ cond (settles e.kind && (settled_id e == id)) (Some (Settled amount))
    (cond (stores e.kind && (e.transfer.id == id)) (Some (stored_by e)) (stored_under transfers id))
stored_under-step transfers e amount id =
    stored_under-if (settles e.kind) (with_own transfers e) (settled_id e) (Settled amount) id
    ∙ ap (cond (settles e.kind && (settled_id e == id)) (Some (Settled amount)))
    (stored_under-if (stores e.kind) transfers e.transfer.id (stored_by e) id)

-- this is known of a transfer of which the events show so much
record Knows (known : Option Stored) (is_there : Bool) (held : Option ℕ) (was : Bool) : Type 0 where
  pub stored : is_there ≡ is_some known
  pub amount : held ≡ amount_in known
  pub settled : was ≡ was_settled known

-- one step: the transfer is the pending one that the event settles, or the one that it stores, or another one
knows-step : (settled own holding : Bool) (amount less : ℕ) (known : Option Stored) (is_there : Bool) (held : Option ℕ)
    (was : Bool) → Knows known is_there held was → (settled ≡ true → known ≡ Some (Pending less))
    → (own ≡ true → known ≡ None)
    → Knows (cond settled (Some (Settled less)) (cond own (Some (cond holding (Pending amount) Plain)) known))
    (is_there || own) (option_or held (cond (holding && own) (Some amount) None)) (was || settled)
knows-step true own holding amount less known is_there held was knows pending new =
    let is = pending refl in
    let there : is_there ≡ true = knows.stored ∙ ap is_some is in
    let amount_is : held ≡ Some less = knows.amount ∙ ap amount_in is in
    record {
      stored = rw there refl;
      amount = rw amount_is refl;
      settled = true_last was;
    }
  where
    true_last : (b : Bool) → (b || true) ≡ true
    true_last true = refl
    true_last false = refl
knows-step false true holding amount less known is_there held was knows pending new =
    let is = new refl in
    let none : held ≡ None = knows.amount ∙ ap amount_in is in
    let open_yet : was ≡ false = knows.settled ∙ ap was_settled is in
    record {
      stored = true_last is_there;
      amount = rw none (by_holding holding);
      settled = rw open_yet (is_open holding);
    }
  where
    true_last : (b : Bool) → (b || true) ≡ true
    true_last true = refl
    true_last false = refl

    by_holding : (b : Bool)
        → cond (b && true) (Some amount) None ≡ amount_in (Some (cond b (Pending amount) Plain))
    by_holding true = refl
    by_holding false = refl

    is_open : (b : Bool) → false ≡ was_settled (Some (cond b (Pending amount) Plain))
    is_open true = refl
    is_open false = refl
knows-step false false holding amount less known is_there held was knows pending new = record {
  stored = or_false is_there ∙ knows.stored;
  amount = no_more holding held ∙ knows.amount;
  settled = or_false was ∙ knows.settled;
}
  where
    no_more : (b : Bool) (held : Option ℕ) → option_or held (cond (b && false) (Some amount) None) ≡ held
    no_more true None = refl
    no_more true (Some n) = refl
    no_more false None = refl
    no_more false (Some n) = refl

both_true : (a b : Bool) → (a && b) ≡ true → (a ≡ true) × (b ≡ true)
both_true true b is = (refl, is)
both_true false b is = cc

same_id : (a b : ℕ) → (a == b) ≡ true → a ≡ b
same_id a b is = elim (eqb_tells a b) [
  | inl same ↦ same.1
  | inr other ↦ cc
]

-- nothing is stored under an id that isn't known
unknown : (counts : Bool) (known : Option Stored) → (counts && is_some (cond counts known None)) ≡ false
    → counts ≡ true → known ≡ None
unknown true None free is = refl
unknown true (Some stored) free is = cc
unknown false known free is = cc

-- a transfer that may be settled is pending, with the amount that is released
pending_one : (counts : Bool) (known : Option Stored)
    → (counts && is_none (amount_in (cond counts known None))) ≡ false
    → (counts && was_settled (cond counts known None)) ≡ false → counts ≡ true
    → known ≡ Some (Pending (cond counts (unwrap_or (amount_in (cond counts known None)) 0) 0))
pending_one true None there open_yet is = cc
pending_one true (Some Plain) there open_yet is = cc
pending_one true (Some (Pending amount)) there open_yet is = refl
pending_one true (Some (Settled amount)) there open_yet is = cc
pending_one false known there open_yet is = cc

-- what an auditor knows of each transfer after an event that it accepts
pub known-step : (transfers : List (ℕ × Stored)) (past : List Event) (e : Event)
    → ((id : ℕ) → IsKnownOf (stored_under transfers id) past id)
    → (stores e.kind && is_some (cond (stores e.kind) (stored_under transfers e.transfer.id) None)) ≡ false
    → (settles e.kind && is_none (amount_in (cond (settles e.kind) (stored_under transfers (settled_id e)) None)))
    ≡ false
    → (settles e.kind && was_settled (cond (settles e.kind) (stored_under transfers (settled_id e)) None)) ≡ false
    → (id : ℕ) → IsKnownOf (stored_under (with_settled (with_own transfers e) e (cond (settles e.kind)
    (unwrap_or (amount_in (cond (settles e.kind) (stored_under transfers (settled_id e)) None)) 0) 0)) id)
    (past ++ e ∷ []) id
known-step transfers past e knows new there open_yet id =
    let less : ℕ = cond (settles e.kind)
    (unwrap_or (amount_in (cond (settles e.kind) (stored_under transfers (settled_id e)) None)) 0) 0 in
    let was = knows id in
    let step = knows-step (settles e.kind && (settled_id e == id)) (stores e.kind && (e.transfer.id == id))
    (holds e.kind) e.transfer.amount less (stored_under transfers id) (is_stored past id) (pending_amount past id)
    (is_settled past id) (record { stored = was.stored; amount = was.amount; settled = was.settled })
    (λ is. let both = both_true (settles e.kind) (settled_id e == id) is in
    sym (ap (stored_under transfers) (same_id (settled_id e) id both.1))
    ∙ pending_one (settles e.kind) (stored_under transfers (settled_id e)) there open_yet both.0)
    (λ is. let both = both_true (stores e.kind) (e.transfer.id == id) is in
    sym (ap (stored_under transfers) (same_id e.transfer.id id both.1))
    ∙ unknown (stores e.kind) (stored_under transfers e.transfer.id) new both.0) in
    let found = stored_under-step transfers e less id in
    record {
      stored = is_stored-push past e id ∙ step.stored ∙ sym (ap is_some found);
      amount = pending_amount-push past e id ∙ step.amount ∙ sym (ap amount_in found);
      settled = is_settled-push past e id ∙ step.settled ∙ sym (ap was_settled found);
    }

-- ---- the open pending transfers

-- no event stored a pending transfer of which no amount is known
no_event : (found : Option Event) → option_map (λ (e : Event). e.transfer.amount) found ≡ None → found ≡ None
no_event None none = refl
no_event (Some e) none = cc

-- one step: the transfer is the pending one that the event settles, or a pending one that it stores, or another one
open-step : (settled held was : Bool) (before : Option Event) (e : Event)
    → (held ≡ true → (was ≡ false) × (before ≡ None))
    → cond (was || settled) None (option_or before (cond held (Some e) None))
    ≡ cond settled None (cond held (Some e) (cond was None before))
open-step true held true before e new = refl
open-step true held false before e new = refl
open-step false true was before e new =
    let is = new refl in
    rw (is.0, is.1) refl
open-step false false true before e new = refl
open-step false false false None e new = refl
open-step false false false (Some x) e new = refl

-- a kind of event that holds its amount stores a transfer
stores_if : (k : EventKind) → holds k ≡ true → stores k ≡ true
stores_if kind.SinglePhase is = cc
stores_if kind.TwoPhasePending is = refl
stores_if kind.TwoPhasePosted is = cc
stores_if kind.TwoPhaseVoided is = cc
stores_if kind.TwoPhaseExpired is = cc

-- no pending transfer was stored under the id of one that an accepted event stores, and none was settled
pub none_held : (transfers : List (ℕ × Stored)) (past : List Event) (e : Event)
    → ((id : ℕ) → IsKnownOf (stored_under transfers id) past id)
    → (stores e.kind && is_some (cond (stores e.kind) (stored_under transfers e.transfer.id) None)) ≡ false
    → holds e.kind ≡ true
    → (is_settled past e.transfer.id ≡ false) × (pending_event past e.transfer.id ≡ None)
none_held transfers past e knows new is =
    let none = unknown (stores e.kind) (stored_under transfers e.transfer.id) new (stores_if e.kind is) in
    let was = knows e.transfer.id in
    (was.settled ∙ ap was_settled none, no_event (pending_event past e.transfer.id) (was.amount ∙ ap amount_in none))

-- what is kept under an id after an event that an auditor accepts
open_under-held : (events : List (ℕ × Event)) (e : Event) (id : ℕ)
    → (holds e.kind ≡ true → open_under events e.transfer.id ≡ None)
    → open_under (with_held events e) id
    ≡ cond (holds e.kind && (e.transfer.id == id)) (Some e) (open_under events id)
open_under-held events e id new = by (holds e.kind) new
  where
    by : (b : Bool) → (b ≡ true → open_under events e.transfer.id ≡ None)
        → open_under (cond b (with_open events e) events) id
        ≡ cond (b && (e.transfer.id == id)) (Some e) (open_under events id)
    by false new = refl
    by true new =
        let none = new refl in
        ap (λ o. open_under (cond (is_some o) events (events ++ (e.transfer.id, e) ∷ [])) id) none
        ∙ open_under-added events e e.transfer.id id none

-- the open pending transfer of an id after an event that an auditor accepts
pub open_one-step : (transfers : List (ℕ × Stored)) (events : List (ℕ × Event)) (past : List Event) (e : Event)
    → ((id : ℕ) → IsKnownOf (stored_under transfers id) past id)
    → ((id : ℕ) → open_under events id ≡ open_event past id)
    → (stores e.kind && is_some (cond (stores e.kind) (stored_under transfers e.transfer.id) None)) ≡ false
    → (id : ℕ) → without_settled (with_held events e) e id ≡ open_event (past ++ e ∷ []) id
open_one-step transfers events past e knows opened new id =
    let held : Bool = holds e.kind && (e.transfer.id == id) in
    let settled : Bool = settles e.kind && (settled_id e == id) in
    ap (cond settled None)
    (open_under-held events e id (λ is.
    let none = none_held transfers past e knows new is in
    opened e.transfer.id ∙ ap₂ (λ b o. cond b None o) none.0 none.1))
    ∙ ap (λ o. cond settled None (cond held (Some e) o)) (opened id)
    ∙ sym (open-step settled held (is_settled past id) (pending_event past id) e (λ is.
    let both = both_true (holds e.kind) (e.transfer.id == id) is in
    let none = none_held transfers past e knows new both.0 in
    let same = same_id e.transfer.id id both.1 in
    (sym (ap (is_settled past) same) ∙ none.0, sym (ap (pending_event past) same) ∙ none.1)))
    ∙ sym (ap (λ b. cond b None (pending_event (past ++ e ∷ []) id)) (is_settled-push past e id)
    ∙ ap (λ o. cond (is_settled past id || settled) None o) (pending_event-push past e id))

-- each pending transfer is the first one of its id after an event that an auditor accepts
pub once-step : (transfers : List (ℕ × Stored)) (past : List Event) (e : Event)
    → ((id : ℕ) → IsKnownOf (stored_under transfers id) past id)
    → (stores e.kind && is_some (cond (stores e.kind) (stored_under transfers e.transfer.id) None)) ≡ false
    → AllByRecursion (IsOnce past) past → AllByRecursion (IsOnce (past ++ e ∷ [])) (past ++ e ∷ [])
once-step transfers past e knows new once =
    AllByRecursion_push (IsOnce (past ++ e ∷ [])) past e
    (AllByRecursion-weaker (IsOnce past) (IsOnce (past ++ e ∷ []))
    (λ p is holding. pending_event-push past e p.transfer.id
    ∙ ap (λ o. option_or o (cond (holds e.kind && (e.transfer.id == p.transfer.id)) (Some e) None)) (is holding))
    past once)
    (λ holding. pending_event-push past e e.transfer.id
    ∙ ap₂ (λ o b. option_or o (cond (b && (e.transfer.id == e.transfer.id)) (Some e) None))
    (none_held transfers past e knows new holding).1 holding
    ∙ ap (λ b. cond b (Some e) None) (eqb_same e.transfer.id))

-- the last expiry is the last event, or the one before
pub last_expiry_from-push : (last : Option Event) (past : List Event) (e : Event)
    → last_expiry_from last (past ++ e ∷ []) ≡ expiry_or (last_expiry_from last past) e
last_expiry_from-push last [] e = refl
last_expiry_from-push last (x ∷ past) e = last_expiry_from-push (expiry_or last x) past e

-- ---- how many linked transfers events end with

chain_length_from-push : (n : ℕ) (past : List Event) (e : Event)
    → chain_length_from n (past ++ e ∷ []) ≡ cond (is_linked e) (chain_length_from n past + 1) 0
chain_length_from-push n [] e = refl
chain_length_from-push n (x ∷ past) e = chain_length_from-push (cond (is_linked x) (n + 1) 0) past e

pub chain_length-push : (past : List Event) (e : Event)
    → chain_length (past ++ e ∷ []) ≡ cond (is_linked e) (chain_length past + 1) 0
chain_length-push past e = chain_length_from-push 0 past e

-- events end within a chain if they end with linked transfers
chain_length_from-some : (n : ℕ) (past : List Event)
    → linked_from (nat_lt 0 n) past ≡ nat_lt 0 (chain_length_from n past)
chain_length_from-some n [] = refl
chain_length_from-some n (e ∷ past) =
    ap (λ b. linked_from b past) (by (is_linked e)) ∙ chain_length_from-some (cond (is_linked e) (n + 1) 0) past
  where
    by : (b : Bool) → b ≡ nat_lt 0 (cond b (n + 1) 0)
    by true = sym (lt-ltb 0 (n + 1) (omega arith))
    by false = refl

pub chain_length-some : (past : List Event) → ends_in_chain past ≡ nat_lt 0 (chain_length past)
chain_length-some past = chain_length_from-some 0 past

-- they are no more than the timestamps up to the last one
chain_length_from-late : (n t : ℕ) (past : List Event) → n ≤ t → RiseFrom t past
    → chain_length_from n past ≤ last_timestamp_from t past
chain_length_from-late n t [] most rising = most
chain_length_from-late n t (e ∷ past) most rising =
    let later = rising.0 in
    chain_length_from-late (cond (is_linked e) (n + 1) 0) e.timestamp past (by (is_linked e) later) rising.1
  where
    by : (b : Bool) → t < e.timestamp → cond b (n + 1) 0 ≤ e.timestamp
    by true later = omega (arith, most, later)
    by false later = omega arith

pub chain_length-late : (past : List Event) → RiseFrom 0 past → chain_length past ≤ last_timestamp past
chain_length-late past rising = chain_length_from-late 0 0 past (omega arith) rising

-- so 64 bits count them
pub chain_length-most : (past : List Event) (e : Event) → RiseFrom 0 past → last_timestamp past < e.timestamp
    → e.timestamp ≤ TIMESTAMP → next_chain (chain_length past) e ≡ cond (is_linked e) (chain_length past + 1) 0
chain_length-most past e rising later within =
    let late = chain_length-late past rising in
    by (is_linked e) (omega (arith, late, later, within))
  where
    by : (b : Bool) → chain_length past + 1 ≤ max_64
        → cond b (min (chain_length past + 1) max_64) 0 ≡ cond b (chain_length past + 1) 0
    by true most = omega (arith, most)
    by false most = refl
