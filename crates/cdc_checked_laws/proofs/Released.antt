-- What an event releases is the same whichever earlier events are known, if its pending transfer is among them.
use Rattle.std.proofs.Common.{◌≡◌, ℕ, Bool, true, false, List, [], ◌∷◌, ◌++◌, Option, Some, None, is_none, refl, sym, ap, ap₂, ◌∙◌, subst, inl, inr, append_assoc}
use Rattle.std.specs.Prelude.{◌⊎◌, ◌==◌, ◌&&◌, Contains, find, fold, if◌then◌else◌, option_map, unwrap_or}
use Rattle.std.specs.List.{AllByRecursion}
use Rattle.std.specs.Option.{option_or}
use Rattle.std.proofs.lemmas.Bool.{and_from, and_parts, eqb-true, false_from_ne_true, false≢true, or_parts}
use Rattle.std.proofs.lemmas.List.Folds.{find-append}
use Rattle.cdc_types.specs.declared.events.Event.{Event}
use Rattle.cdc_ledger.specs.Kinds.{holds, settles, stores}
use Rattle.cdc_ledger.proofs.BalanceLaws.{stores-holds}
use Rattle.cdc_ledger.proofs.StoredLaws.{find_all}
use Rattle.cdc_audit.specs.Audits.{is_accepted}
use Rattle.cdc_audit.specs.Known.{is_stored, pending_amount, pending_event, settled_id}
use Rattle.cdc_audit.specs.Rules.{released}
use Rattle.cdc_audit_laws.proofs.Following.{CanFollow}
use Rattle.cdc_audit_laws.proofs.Streams.{last_follows, parts_follow}
use Rattle.cdc_checked.specs.Checked.{amount_held, open_in, open_one, open_then}
use Rattle.cdc_checked_laws.proofs.Members.{each_has, first_there, later_there, parts_at}

-- each event of an accepted stream follows those before it, which are accepted
pub event_follows : (front : List Event) (e : Event) (back : List Event) → is_accepted (front ++ e ∷ back) ≡ true
    → (is_accepted front ≡ true) × CanFollow front e
event_follows front e back all =
    last_follows front e (parts_follow [] (front ++ e ∷ []) back (rw append_assoc all)).0

-- the event stores a pending transfer of this id
abbrev pub is_pending : ℕ → Event → Bool
is_pending id e = holds e.kind && (e.transfer.id == id)

-- if no transfer of this id was stored, no pending one was
pub none_pending : (es : List Event) (id : ℕ) → is_stored es id ≡ false → find (is_pending id) es ≡ None
none_pending [] id none = refl
none_pending (e ∷ es) id none =
    let parts = or_parts (stores e.kind && (e.transfer.id == id)) (is_stored es id) none in
    let not : is_pending id e ≡ false =
    false_from_ne_true (is_pending id e) (λ is.
    let both = and_parts (holds e.kind) (e.transfer.id == id) is in
    false≢true (sym parts.0
    ∙ and_from (stores e.kind) (e.transfer.id == id) (stores-holds e.kind both.0) both.1)) in
    rw not (none_pending es id parts.1)

-- in an accepted stream an event that stores a pending transfer is the one that is found under its id
found_whole : (front : List Event) (x : Event) (back : List Event) (id : ℕ)
    → is_accepted (front ++ x ∷ back) ≡ true → is_pending id x ≡ true
    → pending_event (front ++ x ∷ back) id ≡ Some x
found_whole front x back id all is =
    let can = (event_follows front x back all).1 in
    let both = and_parts (holds x.kind) (x.transfer.id == id) is in
    let stored = stores-holds x.kind both.0 in
    let same : x.transfer.id ≡ id = eqb-true x.transfer.id id both.1 in
    let none : is_stored front id ≡ false =
    ap (is_stored front) (sym same) ∙ sym (ap (λ b. b && is_stored front x.transfer.id) stored) ∙ can.new in
    find-append (is_pending id) front (x ∷ back)
    ∙ ap₂ (λ o b. option_or o (if b then Some x else find (is_pending id) back)) (none_pending front id none) is

pub found : (all : List Event) (x : Event) (id : ℕ) → is_accepted all ≡ true → Contains all x → is_pending id x ≡ true
    → pending_event all id ≡ Some x
found all x id accepted there is =
    let parts = parts_at all x there in
    subst (λ (es : List Event). pending_event es id ≡ Some x) (sym parts.whole)
    (found_whole parts.front x parts.back id (subst (λ (es : List Event). is_accepted es ≡ true) parts.whole accepted)
    is)

-- so what is known of a part of it is known of all
pub released_same : (all part : List Event) (e : Event) → is_accepted all ≡ true
    → AllByRecursion (Contains all) part
    → (settles e.kind && is_none (pending_amount part (settled_id e))) ≡ false → released part e ≡ released all e
released_same all part e accepted inside known = by (settles e.kind) refl (pending_event part (settled_id e)) refl
  where
    by : (b : Bool) → settles e.kind ≡ b → (o : Option Event) → pending_event part (settled_id e) ≡ o
        → released part e ≡ released all e
    by false is o there = rw is refl
    by true is None there =
        absurd (false≢true (sym known
        ∙ ap₂ (λ b (o : Option Event). b && is_none (option_map (λ (x : Event). x.transfer.amount) o)) is there))
    by true is (Some x) there =
        let passes = find_all (is_pending (settled_id e)) (Contains all) part x inside there in
        let whole = found all x (settled_id e) accepted passes.1 passes.0 in
        ap (λ (o : Option Event).
        if settles e.kind then unwrap_or (option_map (λ (x : Event). x.transfer.amount) o) 0 else 0)
        (there ∙ sym whole)

-- ---- what is open

-- an event that is found open is among these, and stored a pending transfer of this id
pub record IsHeld (es : List Event) (id : ℕ) (x : Event) : Type 0 where
  pub there : Contains es x
  pub pending : is_pending id x ≡ true

open_after : (id : ℕ) (es : List Event) (o : Option Event) (x : Event) → fold (open_then id) o es ≡ Some x
    → (o ≡ Some x) ⊎ IsHeld es id x
open_after id [] o x is = inl is
open_after id (e ∷ es) o x is =
    elim (open_after id es (open_then id o e) x is) [
      | inl now ↦ by (is_pending id e) refl (settles e.kind && (settled_id e == id)) now
      | inr later ↦ inr (record { there = later_there e es x later.there; pending = later.pending })
    ]
  where
    by : (a : Bool) → is_pending id e ≡ a → (b : Bool) → (if a then Some e else (if b then None else o)) ≡ Some x
        → (o ≡ Some x) ⊎ IsHeld (e ∷ es) id x
    by true is_e b now =
        let same : e ≡ x = cc in
        inr (record {
          there = subst (Contains (e ∷ es)) same (first_there e es);
          pending = subst (λ (y : Event). is_pending id y ≡ true) same is_e;
        })
    by false is_e true now = cc
    by false is_e false now = inl now

pub open_held : (es : List Event) (id : ℕ) (x : Event) → open_in es id ≡ Some x → IsHeld es id x
open_held es id x is =
    elim (open_after id es None x is) [
      | inl nothing ↦ cc
      | inr there ↦ there
    ]

-- so what an event releases by what is open is what it releases by all
pub amount_same : (all part : List Event) (e : Event) → is_accepted all ≡ true → AllByRecursion (Contains all) part
    → (settles e.kind && is_none (open_one part e)) ≡ false → amount_held (open_one part e) ≡ released all e
amount_same all part e accepted inside known = by (settles e.kind) refl (open_in part (settled_id e)) refl
  where
    by : (b : Bool) → settles e.kind ≡ b → (o : Option Event) → open_in part (settled_id e) ≡ o
        → amount_held (open_one part e) ≡ released all e
    by false is o there = rw is refl
    by true is None there =
        absurd (false≢true (sym known
        ∙ ap₂ (λ b (o : Option Event). b && is_none (if b then o else None)) is there))
    by true is (Some x) there =
        let held = open_held part (settled_id e) x there in
        let whole = found all x (settled_id e) accepted (each_has (Contains all) part x inside held.there)
        held.pending in
        ap₂ (λ b (o : Option Event). amount_held (if b then o else None)) is there
        ∙ sym (ap₂ (λ b (o : Option Event).
        if b then unwrap_or (option_map (λ (y : Event). y.transfer.amount) o) 0 else 0) is whole)
