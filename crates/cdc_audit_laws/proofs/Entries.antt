-- What the events of entries show of transfers: those of the ledger.
use Rattle.std.proofs.Common.{◌≡◌, ℕ, ◌≤◌, Bool, true, false, List, [], ◌∷◌, Some, None, map, refl, sym, ap, ◌∙◌, arith, le-leb, ◌==◌, ◌&&◌, nat_le, find, if◌then◌else◌}
use Rattle.cdc_audit_laws.proofs.OfStd.{AllByRecursion, list_any, and_from, and_parts, or_from, or_parts}
use Rattle.cdc_audit_laws.proofs.OfTypes.{Entry, Event, EventKind, Transfer, last_timestamp, last_timestamp_from}
use Rattle.cdc_audit_laws.proofs.OfLedger.{resolved, resolves, event_of, events, shown_transfer, stored, stored_in, History, holds, settled_id, settles, stores, resolves_is, stores-holds, IsUpTo, find_none, is_stored as stores_id}
use Rattle.cdc_audit_laws.proofs.OfAudit.{is_settled, is_stored, pending_amount, pending_event, settled_id_by}

-- the events end no later than the entries
last_timestamp-map : (h : History) (s t : ℕ) (es : List Entry) → s ≤ t → AllByRecursion (λ e. e.timestamp ≤ t) es
    → last_timestamp_from s (map (event_of h) es) ≤ t
last_timestamp-map h s t [] before all = before
last_timestamp-map h s t (e ∷ es) before all = last_timestamp-map h e.timestamp t es all.0 all.1

-- so no event of a ledger is past its last timestamp
pub last_timestamp-events : (h : History) → IsUpTo h.last h → last_timestamp (events h) ≤ h.last
last_timestamp-events h within = last_timestamp-map h 0 h.last h.entries (omega arith) within

-- a test that no image passes
none_of_map : {X Y : Type 0} (test : Y → Bool) (f : X → Y) (xs : List X) → AllByRecursion (λ x. test (f x) ≡ false) xs
    → list_any test (map f xs) ≡ false
none_of_map test f [] all = refl
none_of_map test f (x ∷ xs) all = or_from (test (f x)) (list_any test (map f xs)) all.0 (none_of_map test f xs all.1)

-- an id that no entry stored is stored by no event
pub unstored : (h : History) (id : ℕ) → stored h id ≡ None → is_stored (events h) id ≡ false
unstored h id none =
    none_of_map (λ (e : Event). stores e.kind && (e.transfer.id == id)) (event_of h) h.entries
    (find_none (stores_id id) h.entries none)

-- if the first entry that stored an id is pending, its event is the first pending one of that id
first_pending : (h : History) (id : ℕ) (x : Entry) (es : List Entry) → holds x.kind ≡ true → stored_in es id ≡ Some x
    → find (λ (e : Event). holds e.kind && (e.transfer.id == id)) (map (event_of h) es) ≡ Some (event_of h x)
first_pending h id x [] holding found = cc
first_pending h id x (y ∷ es) holding found =
    by (stores_id id y) (holds y.kind) refl refl found (first_pending h id x es holding)
  where
    by : (b held : Bool) → stores_id id y ≡ b → holds y.kind ≡ held → (if b then Some y else stored_in es id) ≡ Some x
        → (stored_in es id ≡ Some x
        → find (λ (e : Event). holds e.kind && (e.transfer.id == id)) (map (event_of h) es) ≡ Some (event_of h x))
        → find (λ (e : Event). holds e.kind && (e.transfer.id == id)) (map (event_of h) (y ∷ es)) ≡ Some (event_of h x)
    by true held is kind here rest =
        let same : y ≡ x = cc in
        let passes : (holds y.kind && (y.transfer.id == id)) ≡ true =
        and_from (holds y.kind) (y.transfer.id == id) (ap (λ (z : Entry). holds z.kind) same ∙ holding)
        (and_parts (stores y.kind) (y.transfer.id == id) is).1 in
        rw passes (ap (λ (z : Entry). Some (event_of h z)) same)
    by false true is kind later rest =
        let other : (y.transfer.id == id) ≡ false =
        sym (ap (λ b. b && (y.transfer.id == id)) (stores-holds y.kind kind)) ∙ is in
        rw (kind, other) (rest later)
    by false false is kind later rest = rw kind (rest later)

-- so its event is known
pub pending_event-events : (h : History) (id : ℕ) (x : Entry) → stored h id ≡ Some x → holds x.kind ≡ true
    → pending_event (events h) id ≡ Some (event_of h x)
pending_event-events h id x found holding = first_pending h id x h.entries holding found

-- and its amount
pub pending_amount-events : (h : History) (id : ℕ) (x : Entry) → stored h id ≡ Some x → holds x.kind ≡ true
    → pending_amount (events h) id ≡ Some x.transfer.amount
pending_amount-events h id x found holding = rw (first_pending h id x h.entries holding found) refl

-- an event names the same pending transfer as its entry
pub settled_id-shown : (k : EventKind) (x : Transfer) → settled_id_by k (shown_transfer x) ≡ settled_id k x
settled_id-shown k x = grind arith

-- entries of which none resolves a transfer have events of which none settles it
unsettled_from : (h : History) (p : Transfer) (t : ℕ) (es : List Entry) → AllByRecursion (λ e. e.timestamp ≤ t) es
    → list_any (λ e. nat_le e.timestamp t && resolves p e) es ≡ false
    → list_any (λ (e : Event). settles e.kind && (settled_id_by e.kind e.transfer == p.id)) (map (event_of h) es)
    ≡ false
unsettled_from h p t [] within none = refl
unsettled_from h p t (e ∷ es) within none =
    let parts = or_parts _ _ none in
    let first : (settles e.kind && (settled_id_by e.kind (shown_transfer e.transfer) == p.id)) ≡ false =
    ap (λ n. settles e.kind && (n == p.id)) (settled_id-shown e.kind e.transfer) ∙ sym (resolves_is e p)
    ∙ sym (ap (λ b. b && resolves p e) (le-leb e.timestamp t within.0)) ∙ parts.0 in
    or_from _ _ first (unsettled_from h p t es within.1 parts.1)

-- so a transfer that isn't resolved is settled by no event
pub unsettled : (h : History) (p : Transfer) → IsUpTo h.last h → resolved h p h.last ≡ false
    → is_settled (events h) p.id ≡ false
unsettled h p within none = unsettled_from h p h.last h.entries within none
