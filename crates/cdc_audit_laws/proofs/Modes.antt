-- A history between two batches, within a chain, or within a pulse; and what comes next in a stream.
use Rattle.std.proofs.Common.{◌≡◌, ◌⊎◌, inl, inr, ℕ, ◌+◌, ◌≤◌, Bool, true, false, not, List, [], ◌∷◌, ◌++◌, Option, Some, None, if◌then◌else◌, refl, sym, ap, ◌∙◌, subst, append_assoc, append-nil, arith, ◌==◌, ◌&&◌, ◌<◌, nat_eq, IfSome, IsSomeAnd}
use Rattle.cdc_audit_laws.proofs.OfStd.{AllByRecursion, lookup, and_parts, eq-eqb, eqb-true, false≢true, not-false, not-true}
use Rattle.cdc_audit_laws.proofs.OfTypes.{Entry, Event, Transfer, last_timestamp}
use Rattle.cdc_audit_laws.proofs.OfLedger.{balances, opened, resolved, due, event_of, events, expires_at as expires_at_one, History, stores, IsSound, IsLegal, AllByRecursion_push, IsOpen, due_open, stored_has}
use Rattle.cdc_audit_laws.proofs.OfAudit.{FixedFields, balances_after, chain_length, chain_length_from, expiry_lines, first_due, is_sooner, ends_in_chain, is_linked, last_expiry, last_expiry_from, linked_from, expires_at, first_of-all, passing}
use Rattle.cdc_audit_laws.specs.Soundness.{AreCutOff, AreWhole}
use Rattle.cdc_audit_laws.proofs.Following.{CanFollow, NoneApplies}
use Rattle.cdc_audit_laws.proofs.Keeping.{IsUp, due_up}
use Rattle.cdc_audit_laws.proofs.Openings.{opening_of}
use Rattle.cdc_audit_laws.proofs.Running.{Pulses, RunsOn}
use Rattle.cdc_audit_laws.proofs.Soonest.{AllThatExpire, CanExpire, IsNoSooner, no_earlier, none_sooner, open_entries}

-- ---- one more event

pub run_from-push : (n : ℕ) (es : List Event) (e : Event)
    → chain_length_from n (es ++ e ∷ []) ≡ (if is_linked e then chain_length_from n es + 1 else 0)
run_from-push n [] e = refl
run_from-push n (x ∷ es) e = run_from-push (if is_linked x then n + 1 else 0) es e

pub run-push : (es : List Event) (e : Event) → is_linked e ≡ true → chain_length (es ++ e ∷ []) ≡ chain_length es + 1
run-push es e is = run_from-push 0 es e ∙ ap (λ b. if b then chain_length es + 1 else 0) is

chain_from-push : (b : Bool) (es : List Event) (e : Event) → linked_from b (es ++ e ∷ []) ≡ is_linked e
chain_from-push b [] e = refl
chain_from-push b (x ∷ es) e = chain_from-push (is_linked x) es e

pub chain-push : (es : List Event) (e : Event) → ends_in_chain (es ++ e ∷ []) ≡ is_linked e
chain-push es e = chain_from-push false es e

pub expiry_from-push : (last : Option Event) (es : List Event) (e : Event)
    → last_expiry_from last (es ++ e ∷ []) ≡ (if stores e.kind then last_expiry_from last es else Some e)
expiry_from-push last [] e = refl
expiry_from-push last (x ∷ es) e = expiry_from-push (if stores x.kind then last else Some x) es e

pub expiry-push : (es : List Event) (e : Event) → stores e.kind ≡ false → last_expiry (es ++ e ∷ []) ≡ Some e
expiry-push es e is = expiry_from-push None es e ∙ ap (λ b. if b then last_expiry es else Some e) is

-- ---- the modes

-- a legal history has all of these events but a last part, each event of which is such a one
pub record StartsLegal (es : List Event) (P : Event → Type 0) : Type 0 where
  pub start : History
  pub legal : IsLegal start
  pub part : List Event
  pub split : events start ++ part ≡ es
  pub all : AllByRecursion P part

-- none of them is left out
pub starts : (P : Event → Type 0) (h : History) → IsLegal h → StartsLegal (events h) P
starts P h legal = record { start = h; legal = legal; part = []; split = append-nil (events h); all = tt }

-- one more event of that part
pub starts-push : (P : Event → Type 0) (es : List Event) (e : Event) → StartsLegal es P → P e
    → StartsLegal (es ++ e ∷ []) P
starts-push P es e start is = record {
  start = start.start;
  legal = start.legal;
  part = start.part ++ e ∷ [];
  split = sym (append_assoc (events start.start) start.part (e ∷ [])) ∙ ap (λ xs. xs ++ e ∷ []) start.split;
  all = AllByRecursion_push _ start.part e start.all is;
}

-- an event of a chain that isn't its last one
abbrev pub IsOfChain : Event → Type 0
IsOfChain e = is_linked e ≡ true

-- an event of a pulse of transfers that expire at this time
abbrev pub IsOfPulse : ℕ → Event → Type 0
IsOfPulse t e = (stores e.kind ≡ false) × (expires_at e.transfer ≡ t)

-- within a chain: its last item was an event
pub record IsInChain (h : History) : Type 0 where
  pub runs : RunsOn h (h.last + 1) (chain_length (events h))
  pub chained : ends_in_chain (events h) ≡ true
  pub at_end : last_timestamp (events h) ≡ h.last
  pub start : StartsLegal (events h) IsOfChain

-- within a pulse: its last item was an event, and more are due that expire at once with it
pub record IsInPulse (h : History) : Type 0 where
  pub now : ℕ
  pub next : Transfer
  pub others : List Transfer
  pub left : due h now ≡ next ∷ others
  pub least : AllThatExpire (events h) (λ y. now ≤ expires_at y.transfer)
  pub pulses : Pulses h now
  pub last : Event
  pub last_is : last_expiry (events h) ≡ Some last
  pub time : expires_at last.transfer ≡ now
  pub at_end : last.timestamp ≡ h.last
  pub ends : last_timestamp (events h) ≡ h.last
  pub start : StartsLegal (events h) (IsOfPulse now)

abbrev pub Mode : History → Type 0
Mode h = IsLegal h ⊎ (IsInChain h ⊎ IsInPulse h)

-- ---- what comes next

-- within a chain the next event stores a transfer, at the next timestamp
pub chain_next : (h : History) (e : Event) → IsInChain h → CanFollow (events h) e
    → (stores e.kind ≡ true) × (e.timestamp ≡ h.last + 1)
chain_next h e mode can =
    let line : not (stores e.kind && (e.timestamp == last_timestamp (events h) + 1)) ≡ false =
    sym (ap (λ b. b && not (stores e.kind && (e.timestamp == last_timestamp (events h) + 1))) mode.chained)
    ∙ can.chain.0 in
    let parts = and_parts (stores e.kind) (e.timestamp == last_timestamp (events h) + 1) (not-false _ line) in
    (parts.0, eqb-true e.timestamp (last_timestamp (events h) + 1) parts.1 ∙ ap (λ n. n + 1) mode.at_end)

-- of the open pending transfers the first one expires at this time
pub record IsFirstUp (h : History) (now : ℕ) : Type 0 where
  pub one : Event
  pub is : first_due (events h) ≡ Some one
  pub time : expires_at one.transfer ≡ now

pub first_up : (h : History) → IsSound h → (mode : IsInPulse h) → IsFirstUp h mode.now
first_up h sound mode = by (first_due (events h)) refl no_later no_sooner
  where
    is_open : IsOpen h mode.next
    is_open = (subst (AllByRecursion (IsOpen h)) mode.left (due_open h mode.now sound)).0

    up : IsUp mode.next mode.now
    up = (subst (AllByRecursion (λ p. IsUp p mode.now)) mode.left (due_up h mode.now)).0

    next : Entry
    next = is_open.pending

    can : CanExpire h next
    can = record {
      holding = is_open.holding;
      timed = ap (λ (p : Transfer). p.timeout == 0) is_open.same ∙ up.timed;
      unsettled = ap (λ p. resolved h p h.last) is_open.same ∙ is_open.unsettled;
    }

    -- the next one is due, and not sooner than the first one
    ended : expires_at (event_of h next).transfer ≤ mode.now
    ended = subst (λ p. expires_at_one p ≤ mode.now) (sym is_open.same) up.ended

    no_later : IsNoSooner (events h) (event_of h next)
    no_later =
        stored_has _ h _ _ (open_entries h (IsNoSooner (events h)) sound (none_sooner (events h))) is_open.there can

    -- and none expires before the time of the pulse
    no_sooner : IfSome (first_due (events h)) (λ f. mode.now ≤ expires_at f.transfer)
    no_sooner = first_of-all _ _ (passing _ _ _ mode.least)

    by : (o : Option Event) → first_due (events h) ≡ o
        → IsSomeAnd o (λ f. is_sooner (event_of h next).transfer f.transfer ≡ false)
        → IfSome o (λ f. mode.now ≤ expires_at f.transfer) → IsFirstUp h mode.now
    by None is later sooner = absurd later
    by (Some f) is later sooner =
        let before = no_earlier (event_of h next) f later in
        record { one = f; is = is; time = omega (arith, before, sooner, ended) }

-- so it is cut off, if no event comes
pub pulse_left : (h : History) → IsSound h → IsInPulse h → AreWhole (events h) → ⊥
pulse_left h sound mode whole =
    let first = first_up h sound mode in
    whole.pulse mode.last first.one mode.last_is first.is (mode.time ∙ sym first.time)

-- within a pulse the next event is an expiry at the next timestamp, of a transfer that expires no later
pub record IsPulseNext (h : History) (now : ℕ) (e : Event) : Type 0 where
  pub storing : stores e.kind ≡ false
  pub next : e.timestamp ≡ h.last + 1
  pub no_later : expires_at e.transfer ≤ now

pub pulse_next : (h : History) (e : Event) → IsSound h → (mode : IsInPulse h) → CanFollow (events h) e
    → IsPulseNext h mode.now e
pulse_next h e sound mode can =
    let first = first_up h sound mode in
    let expiry : NoneApplies (expiry_lines (Some first.one) (last_expiry (events h)) e) =
    subst (λ o. NoneApplies (expiry_lines o (last_expiry (events h)) e)) first.is can.expiry in
    let lines : NoneApplies (expiry_lines (Some first.one) (Some mode.last) e) =
    subst (λ o. NoneApplies (expiry_lines (Some first.one) o e)) mode.last_is expiry in
    let apart : not (not (stores e.kind) && (e.timestamp == mode.last.timestamp + 1)) ≡ false =
    sym (ap (λ b. b && not (not (stores e.kind) && (e.timestamp == mode.last.timestamp + 1)))
    (eq-eqb _ _ (first.time ∙ sym mode.time))) ∙ lines.1.0 in
    let parts = and_parts _ _ (not-false _ apart) in
    let late : is_sooner first.one.transfer e.transfer ≡ false =
    sym (ap (λ b. b && is_sooner first.one.transfer e.transfer) parts.0) ∙ lines.0 in
    record {
      storing = not-true _ parts.0;
      next = eqb-true e.timestamp (mode.last.timestamp + 1) parts.1 ∙ ap (λ n. n + 1) mode.at_end;
      no_later = subst (λ t. expires_at e.transfer ≤ t) first.time (no_earlier first.one e late);
    }

-- within a chain or a pulse the next event is at the next timestamp
pub goes_on : (h : History) (e : Event) → IsSound h → (IsInChain h ⊎ IsInPulse h) → CanFollow (events h) e
    → e.timestamp ≡ h.last + 1
goes_on h e sound (inl chain) can = (chain_next h e chain can).1
goes_on h e sound (inr pulse) can = (pulse_next h e sound pulse can).next

-- ---- the end

-- a history has these events: a legal one, or one within a chain or a pulse. Of these accounts it has opened those that
-- were created before its last timestamp
pub record Reaches (all : List (ℕ × FixedFields)) (es : List Event) : Type 0 where
  pub last : History
  pub sound : IsSound last
  pub mode : Mode last
  pub same : events last ≡ es
  pub shown : (id : ℕ) → balances_after (events last) id ≡ balances last id last.last
  pub opened_each : (a : ℕ × FixedFields) → lookup (nat_eq a.0) all ≡ Some a.1 → a.1.timestamp < last.last
      → opened last a.0 ≡ Some (opening_of a)

-- if no chain and no pulse is cut off, it is legal
pub whole_legal : (all : List (ℕ × FixedFields)) (es : List Event) → Reaches all es → AreWhole es
    → (g : History) × IsLegal g × (events g ≡ es)
whole_legal all es end whole = by end.mode
  where
    by : Mode end.last → (g : History) × IsLegal g × (events g ≡ es)
    by (inl legal) = (end.last, legal, end.same)
    by (inr (inl chain)) =
        absurd (false≢true (sym whole.chain ∙ sym (ap ends_in_chain end.same) ∙ chain.chained))
    by (inr (inr pulse)) = absurd (pulse_left end.last end.sound pulse (subst AreWhole (sym end.same) whole))

-- and if one may be, a legal history has all of the events but that last part
pub part_legal : (all : List (ℕ × FixedFields)) (es : List Event) → Reaches all es
    → (g : History) × (part : List Event) × IsLegal g × (events g ++ part ≡ es) × AreCutOff part
part_legal all es end = by end.mode
  where
    by : Mode end.last → (g : History) × (part : List Event) × IsLegal g × (events g ++ part ≡ es) × AreCutOff part
    by (inl legal) = (end.last, [], legal, append-nil (events end.last) ∙ end.same, inl tt)
    by (inr (inl chain)) =
        let from = chain.start in
        (from.start, from.part, from.legal, from.split ∙ end.same, inl from.all)
    by (inr (inr pulse)) =
        let from = pulse.start in
        (from.start, from.part, from.legal, from.split ∙ end.same, inr (pulse.now, from.all))
