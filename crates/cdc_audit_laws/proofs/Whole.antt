-- The events of a ledger have no chain and no pulse that is cut off, and a batch has room for each chain.
use Rattle.std.proofs.Common.{◌≡◌, ℕ, ◌+◌, ◌<◌, true, false, not, List, [], ◌∷◌, ◌++◌, Option, Some, None, if◌then◌else◌, map, refl, sym, ◌∙◌, subst, arith, ◌==◌, ◌&&◌, filter, option_map, IfSome}
use Rattle.cdc_audit_laws.proofs.OfStd.{AllByRecursion, and_parts, not-true}
use Rattle.cdc_audit_laws.proofs.OfTypes.{BATCH_ITEMS, Entry, Event, NewTransfer, Transfer}
use Rattle.cdc_audit_laws.proofs.OfLedger.{expiry, pushed, with_account, event_of, events, expires_at as expires_at_one, History, Opened, holds, IsSound, IsLegal, entry_of, opened_by, AllByRecursion-weaker, events-pushed, events-with_account, IsSound-from_legal}
use Rattle.cdc_audit_laws.proofs.OfAudit.{can_expire, chain_length_from, first_due, is_linked, is_settled, last_expiry, expires_at, first_of-all, passing}
use Rattle.cdc_audit_laws.proofs.Premises.{HaveRoom}
use Rattle.cdc_audit_laws.specs.Soundness.{LedgersEventsAreWhole}
use Rattle.cdc_audit_laws.proofs.Traces.{unresolved}
use Rattle.cdc_audit_laws.proofs.Keeping.{ended_by_legal, is_in_chain, kept_by_legal, links, run-none, run_from, run_of}
use Rattle.cdc_audit_laws.proofs.Ledgers.{all_images, same_chain, same_expiry}
use Rattle.cdc_audit_laws.proofs.Pulses.{Clear, ExpiresAfter, IsClear, expiry_from}

-- ---- room

-- one more event, after a chain that a batch has room for
room-push : (n : ℕ) (es : List Event) (e : Event) → HaveRoom n es → chain_length_from n es < BATCH_ITEMS
    → HaveRoom n (es ++ e ∷ [])
room-push n [] e room one = (one, tt)
room-push n (x ∷ es) e room one = (room.0, room-push (if is_linked x then n + 1 else 0) es e room.1 one)

-- the run of linked events is that of the entries
same_run : (h : History) (n : ℕ) (es : List Entry) → chain_length_from n (map (event_of h) es) ≡ run_from n es
same_run h n [] = refl
same_run h n (e ∷ es) = same_run h (if links e then n + 1 else 0) es

abbrev HasRoom : History → Type 0
HasRoom h = HaveRoom 0 (events h)

room-request : (h : History) (r : NewTransfer) (t : ℕ) → IsSound h → h.last < t → run_of h < BATCH_ITEMS → HasRoom h
    → HasRoom (pushed h (entry_of h r t))
room-request h r t sound later room all =
    subst (HaveRoom 0) (sym (events-pushed h (entry_of h r t) sound.past later))
    (room-push 0 (events h) (event_of (pushed h (entry_of h r t)) (entry_of h r t)) all
    (subst (λ n. n < BATCH_ITEMS) (sym (same_run h 0 h.entries)) room))

room-expiry : (h : History) (t : ℕ) (p : Transfer) → IsSound h → h.last < t → is_in_chain h ≡ false → HasRoom h
    → HasRoom (pushed h (expiry p t))
room-expiry h t p sound later unchained all =
    let run : run_of h ≡ 0 = run-none 0 false h.entries (λ is. refl) unchained in
    let same = same_run h 0 h.entries in
    subst (HaveRoom 0) (sym (events-pushed h (expiry p t) sound.past later))
    (room-push 0 (events h) (event_of (pushed h (expiry p t)) (expiry p t)) all (omega (arith, run, same)))

room-account : (h : History) (o : Opened) → IsSound h → HasRoom h → HasRoom (with_account h o)
room-account h o sound all = subst (HaveRoom 0) (sym (events-with_account h o sound.known)) all

pub room_by_legal : (h : History) → IsLegal h → HasRoom h
room_by_legal h legal =
    kept_by_legal HasRoom tt
    (λ g r t sound later clear room chained none next all. room-request g r t sound later room all)
    (λ g now t p ps sound later every up unchained pulsing next all. room-expiry g t p sound later unchained all)
    (λ g a t sound later none all. room-account g (opened_by a t) sound all) (λ g t sound later all. all)
    (λ g closed all. all) h legal

-- ---- the end

-- a legal history ends neither within a chain nor within a pulse
ended : (h : History) → IsLegal h → (is_in_chain h ≡ false) × Clear h []
ended h legal =
    ended_by_legal (λ g. Unit {0}) tt (λ g r t sound later clear room chained none next is. tt)
    (λ g now t p ps sound later all up unchained pulsing next is. tt) (λ g a t sound later none is. tt)
    (λ g t sound later is. tt) (λ g closed is. tt) h legal

-- if no pulse left a transfer behind, the one that expires next expires later
expires_later : (h : History) (x y : Event) → IsSound h → Clear h [] → last_expiry (events h) ≡ Some x
    → first_due (events h) ≡ Some y → expires_at x.transfer < expires_at y.transfer
expires_later h x y sound clear last first =
    by (expiry_from None h.entries) (sym (same_expiry h None h.entries) ∙ last) clear
  where
    after : (n : ℕ) → AllByRecursion (ExpiresAfter h n []) h.entries → n < expires_at y.transfer
    after n others =
        subst (λ o. IfSome o (λ f. n < expires_at f.transfer)) first
        (first_of-all (λ f. n < expires_at f.transfer) (filter (can_expire (events h)) (events h))
        (passing (can_expire (events h)) (λ f. n < expires_at f.transfer) (events h)
        (all_images h (λ f. can_expire (events h) f ≡ true → n < expires_at f.transfer) h.entries
        (AllByRecursion-weaker _ _ (λ z is passes.
        let both = and_parts (holds z.kind && not (z.transfer.timeout == 0))
        (not (is_settled (events h) z.transfer.id)) passes in
        let timed = and_parts (holds z.kind) (not (z.transfer.timeout == 0)) both.0 in
        is timed.0 (not-true _ timed.1) (unresolved h z.transfer h.last (not-true _ both.1)) refl)
        h.entries others))))

    by : (o : Option Entry) → option_map (event_of h) o ≡ Some x → IfSome o (IsClear h [])
        → expires_at x.transfer < expires_at y.transfer
    by None is none = cc
    by (Some z) is left =
        let same : event_of h z ≡ x = cc in
        subst (λ (e : Event). expires_at e.transfer < expires_at y.transfer) same
        (after (expires_at_one z.transfer) left.others)

-- so no chain and no pulse is cut off
pub ledgers_events_are_whole : LedgersEventsAreWhole
ledgers_events_are_whole h legal =
    let at_end = ended h legal in
    record {
      chain = same_chain h false h.entries ∙ at_end.0;
      pulse = λ x y last first same.
          let later = expires_later h x y (IsSound-from_legal h legal) at_end.1 last first in
          omega (arith, later, same);
    }
