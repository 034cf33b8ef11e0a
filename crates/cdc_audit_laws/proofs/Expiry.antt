-- An expiry of an event that is accepted: the pending transfer is open, and its expiry makes this event.
use Rattle.std.proofs.Common.{◌≡◌, ◌≤◌, true, false, not, Some, None, is_none, if◌then◌else◌, refl, sym, ap, ap₂, ◌∙◌, subst, ◌==◌, ◌&&◌, nat_lt, arith}
use Rattle.cdc_audit_laws.proofs.OfStd.{ltb-false}
use Rattle.cdc_audit_laws.proofs.OfTypes.{Entry, Event, EventKind, TwoPhaseExpired, EventTransfer, Transfer}
use Rattle.cdc_audit_laws.proofs.OfLedger.{expiry, event_of, events, expires_at, stored, Follows, History, settles, stores, HasAccounts, Follows-open, IsOpen, stored_has}
use Rattle.cdc_audit_laws.proofs.OfAudit.{is_settled, open_event, pending_amount, pending_event, settled_id, settled_id_by, settled_event, has_data_of, is_same_transfer, settling_lines}
use Rattle.cdc_audit_laws.proofs.Coming.{Comes}
use Rattle.cdc_audit_laws.proofs.Following.{NoneApplies, settled_parts}
use Rattle.cdc_audit_laws.proofs.Made.{IsShownBy, entry_with}
use Rattle.cdc_audit_laws.proofs.Traces.{IsTraced, traced, unresolved}
use Rattle.cdc_audit_laws.proofs.Created.{id_found}

-- what stores nothing is an expiry
expires_only : (k : EventKind) → stores k ≡ false → k ≡ TwoPhaseExpired
expires_only k nothing = grind arith

-- transfers of which no field differs are the same
same_transfer : (x y : EventTransfer) → is_same_transfer x y ≡ true → x ≡ y
same_transfer x y same = grind arith

module _ (h : History) (e : Event) (comes : Comes h e) (storing : stores e.kind ≡ false) where
  kind : e.kind ≡ TwoPhaseExpired
  kind = expires_only e.kind storing

  -- it names its own transfer
  names : settled_id e ≡ e.transfer.id
  names = ap (λ k. settled_id_by k e.transfer) kind

  settling : settles e.kind ≡ true
  settling = ap settles kind

  pub on_expired : IsTraced h e.transfer.id
  on_expired =
      traced h e.transfer.id comes.sound
      (sym (ap₂ (λ b n. b && is_none (pending_amount (events h) n)) settling names) ∙ comes.can.pending)

  -- the pending transfer
  abbrev pub expired : Transfer
  expired = on_expired.entry.transfer

  unsettled : is_settled (events h) e.transfer.id ≡ false
  unsettled = sym (ap₂ (λ b n. b && is_settled (events h) n) settling names) ∙ comes.can.unsettled

  -- is open
  pub is_open : IsOpen h expired
  is_open = record {
    pending = on_expired.entry;
    there = ap (stored h) on_expired.id_is ∙ on_expired.named;
    same = refl;
    holding = on_expired.pending;
    unsettled = unresolved h expired h.last (ap (is_settled (events h)) on_expired.id_is ∙ unsettled);
  }

  shown : settled_event (events h) e ≡ Some (event_of h on_expired.entry)
  shown =
      ap₂ (λ b n. if b then open_event (events h) n else None) settling names
      ∙ ap (λ b. if b then None else pending_event (events h) e.transfer.id) unsettled
      ∙ on_expired.shown

  lines : NoneApplies (settling_lines (Some (event_of h on_expired.entry)) e)
  lines = subst (λ o. NoneApplies (settling_lines o e)) shown comes.can.settling

  -- and the event shows it
  pub shows_expired : IsShownBy e expired
  shows_expired =
      let x = event_of h on_expired.entry in
      let there : HasAccounts h on_expired.entry =
      stored_has (HasAccounts h) h e.transfer.id on_expired.entry comes.sound.known on_expired.named in
      let own = settled_parts _ _ _ _ _ _ _ _ _ lines.0 in
      let whole : is_same_transfer e.transfer x.transfer ≡ true =
      sym (ap (λ b. if b then has_data_of x.transfer e.transfer else is_same_transfer e.transfer x.transfer) storing)
      ∙ own.4 in
      record {
        shown = sym (same_transfer e.transfer x.transfer whole);
        ledger = sym own.2;
        debit = sym (own.0 ∙ id_found h expired.debit_account_id there.0);
        credit = sym (own.1 ∙ id_found h expired.credit_account_id there.1);
      }

  -- it has a timeout, and its time is up
  pub has_timeout : (expired.timeout == 0) ≡ false
  has_timeout = sym (ap (λ b. not b && (expired.timeout == 0)) storing) ∙ lines.1.1.0

  pub is_up : expires_at expired ≤ e.timestamp
  is_up = ltb-false _ _ (sym (ap (λ b. not b && nat_lt e.timestamp (expires_at expired)) storing) ∙ lines.1.1.1.0)

  -- its entry is the expiry
  pub expiry_is : expiry expired e.timestamp ≡ entry_with e expired
  expiry_is =
      ap (λ k. let y : Entry = record { timestamp = e.timestamp; kind = k; transfer = expired } in y) (sym kind)

  pub expiry_follows : Follows h (entry_with e expired)
  expiry_follows = subst (Follows h) expiry_is (Follows-open h expired e.timestamp comes.sound is_open)
