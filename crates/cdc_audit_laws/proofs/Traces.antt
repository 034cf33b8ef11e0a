-- What the entries of a history are by their events: the other way round of what `Entries` has.
use Rattle.std.proofs.Common.{◌≡◌, ℕ, true, false, List, [], ◌∷◌, Option, Some, None, is_none, map, refl, sym, ap, ◌∙◌, subst, ◌==◌, ◌&&◌, find, option_map, nat_le, if◌then◌else◌}
use Rattle.cdc_audit_laws.proofs.OfStd.{list_any, and_parts, and_right, eqb-true, or_from, or_parts, true≢false}
use Rattle.cdc_audit_laws.proofs.OfTypes.{Entry, Event, Transfer}
use Rattle.cdc_audit_laws.proofs.OfLedger.{resolved, resolves, event_of, events, stored, stored_in, History, holds, settles, stores, IsSound, resolves_is, stores-holds, find_all, stored_each}
use Rattle.cdc_audit_laws.proofs.OfAudit.{is_settled, is_stored, pending_amount, pending_event, settled_id_by}
use Rattle.cdc_ledger.proofs.Found.{find-map}
use Rattle.cdc_audit_laws.proofs.Entries.{settled_id-shown}

-- no entry is found if no event passes the test
none_found : (h : History) (id : ℕ) (es : List Entry)
    → list_any (λ (e : Event). stores e.kind && (e.transfer.id == id)) (map (event_of h) es) ≡ false
    → stored_in es id ≡ None
none_found h id [] none = refl
none_found h id (e ∷ es) none =
    let parts = or_parts _ _ none in
    ap (λ b. if b then Some e else stored_in es id) parts.0 ∙ none_found h id es parts.1

-- an id that no event stored is stored by no entry
pub stored_none : (h : History) (id : ℕ) → is_stored (events h) id ≡ false → stored h id ≡ None
stored_none h id none = none_found h id h.entries none

-- entries whose events settle no transfer of this id resolve none
unresolved_from : (h : History) (p : Transfer) (t : ℕ) (es : List Entry)
    → list_any (λ (e : Event). settles e.kind && (settled_id_by e.kind e.transfer == p.id)) (map (event_of h) es)
    ≡ false
    → list_any (λ e. nat_le e.timestamp t && resolves p e) es ≡ false
unresolved_from h p t [] none = refl
unresolved_from h p t (e ∷ es) none =
    let parts = or_parts _ _ none in
    let first : resolves p e ≡ false =
    resolves_is e p ∙ ap (λ n. settles e.kind && (n == p.id)) (sym (settled_id-shown e.kind e.transfer)) ∙ parts.0 in
    or_from _ _ (and_right (nat_le e.timestamp t) (resolves p e) first) (unresolved_from h p t es parts.1)

-- a transfer that no event settles isn't resolved
pub unresolved : (h : History) (p : Transfer) (t : ℕ) → is_settled (events h) p.id ≡ false → resolved h p t ≡ false
unresolved h p t none = unresolved_from h p t h.entries none

-- the entry that stored a pending transfer, of which the events show the amount
pub record IsTraced (h : History) (id : ℕ) : Type 0 where
  pub entry : Entry
  pub named : stored h id ≡ Some entry
  pub id_is : entry.transfer.id ≡ id
  pub pending : holds entry.kind ≡ true
  pub shown : pending_event (events h) id ≡ Some (event_of h entry)

-- what is found of events is the event of what is found of entries
shown_of : (h : History) (id : ℕ) (o : Option Entry)
    → find (λ (e : Entry). holds e.kind && (e.transfer.id == id)) h.entries ≡ o
    → pending_event (events h) id ≡ option_map (event_of h) o
shown_of h id o is =
    find-map (λ (e : Event). holds e.kind && (e.transfer.id == id)) (event_of h) h.entries
    ∙ ap (option_map (event_of h)) is

-- an entry is found if its event is
pub traced : (h : History) (id : ℕ) → IsSound h → is_none (pending_amount (events h) id) ≡ false → IsTraced h id
traced h id sound some = by (find (λ (e : Entry). holds e.kind && (e.transfer.id == id)) h.entries) refl
  where
    by : (o : Option Entry) → find (λ (e : Entry). holds e.kind && (e.transfer.id == id)) h.entries ≡ o
        → IsTraced h id
    by None is =
        absurd (true≢false (sym (ap (λ (o : Option Event). is_none (option_map (λ (e : Event). e.transfer.amount) o))
        (shown_of h id None is)) ∙ some))
    by (Some x) is =
        let found = find_all _ _ _ _ (stored_each h sound.once) is in
        let parts = and_parts _ _ found.0 in
        let id_is : x.transfer.id ≡ id = eqb-true _ _ parts.1 in
        record {
          entry = x;
          named = subst (λ n. stored h n ≡ Some x) id_is (found.1 (stores-holds x.kind parts.0));
          id_is = id_is;
          pending = parts.0;
          shown = shown_of h id (Some x) is;
        }
