-- The triples of a history after each of its changes.
use Rattle.cdc_ledger.proofs.Words.{[], ◌&&◌, ◌++◌, ◌+◌, ◌<◌, ◌==◌, ◌||◌, ◌∙◌, ◌∷◌, ◌≡◌, ◌≤◌, AllByRecursion, Bool, Entry, Follows, History, IsSound, List, Opened, Settles, ap, ap₂, arith, false, filter, holds, if◌then◌else◌, is_open, length, not, open_triples, opens, pushed, refl, resolved, settled_id, settles, stores, sym, triple_at, true, ℕ}
use Rattle.std.proofs.lemmas.Bool.{and_from, and_right, eq-eqb, ne_eqb}
use Rattle.std.proofs.lemmas.List.{append-nil}
use Rattle.cdc_ledger.proofs.IndexTriples.{triples_from-push, triples_from-same, filter-triples_from}
use Rattle.cdc_ledger.proofs.BalanceLaws.{holds-settles, resolved_later, resolved_none, resolved_then, stores-holds}
use Rattle.cdc_ledger.proofs.Pending.{All-from_around, Around-weaker, IsOther, IsOther-around, IsStored, IsStored-found}
use Rattle.cdc_ledger.proofs.Elements.{or_none}

-- the triple of the entry, resolved or not
abbrev open_by : Bool → Entry → Bool
open_by done e = holds e.kind && not (e.transfer.timeout == 0) && not done

-- accounts, a close and a timestamp leave the triples as they are
pub open_triples-later : (h : History) (accounts : List Opened) (t : ℕ) (closed : Bool) → IsSound h → h.last ≤ t
    → open_triples (record { accounts = accounts; entries = h.entries; last = t; closed = closed }) ≡ open_triples h
open_triples-later h accounts t closed sound later =
    triples_from-same (is_open (record { accounts = accounts; entries = h.entries; last = t; closed = closed }))
    (is_open h) 0 h.entries
    (every h.entries)
  where
    every : (es : List Entry)
        → AllByRecursion (λ e. is_open (record {
          accounts = accounts;
          entries = h.entries;
          last = t;
          closed =
              closed;
        }) e ≡ is_open h e) es
    every [] = tt
    every (e ∷ es) = (ap (λ b. open_by b e) (resolved_later h e.transfer h.last t sound.past later), every es)

-- the entry e settles the transfer of y
abbrev ends : Entry → Entry → Bool
ends e y = settles e.kind && (settled_id e.kind e.transfer == y.transfer.id)

-- whether an entry of a history has a triple, once one more came
is_open-then : (h : History) (e y : Entry) → IsSound h → h.last < e.timestamp
    → is_open (pushed h e) y ≡ open_by (resolved h y.transfer h.last || ends e y) y
is_open-then h e y sound after = ap (λ b. open_by b y) (resolved_then h e y.transfer sound.past after)

-- a new pending transfer isn't resolved yet, so it has a triple if and only if it has a timeout
new_open : (held timed done : Bool) → (held ≡ true → done ≡ false) → (held && timed && not done) ≡ (held && timed)
new_open true true done fresh = ap not (fresh refl)
new_open held timed done fresh = refl

module _ (h : History) (e : Entry) (sound : IsSound h) (follows : Follows h e) (after : h.last < e.timestamp)
    (unsettling : settles e.kind ≡ false) where
  -- an entry that settles nothing ends no transfer
  ends_none : (y : Entry) → ends e y ≡ false
  ends_none y = ap (λ b. b && (settled_id e.kind e.transfer == y.transfer.id)) unsettling

  -- so the old entries keep their triples
  old_alike : (es : List Entry) → AllByRecursion (λ y. is_open (pushed h e) y ≡ is_open h y) es
  old_alike [] = tt
  old_alike (y ∷ es) = (
    is_open-then h e y sound after
        ∙ ap (λ b. open_by b y) (or_none (resolved h y.transfer h.last) (ends e y) (ends_none y)),
    old_alike es,
  )

  -- the new entry has a triple if it is pending and has a timeout
  own : is_open (pushed h e) e ≡ opens e
  own = is_open-then h e e sound after
      ∙ new_open (holds e.kind) (not (e.transfer.timeout == 0)) (resolved h e.transfer h.last || ends e e)
      (λ held. or_none (resolved h e.transfer h.last) (ends e e) (ends_none e)
      ∙ resolved_none h e.transfer h.last sound.standing (follows.fresh (stores-holds e.kind held)))

  -- a pending transfer with a timeout has its triple last, and nothing else that settles none has one
  pub open_triples-unsettling : open_triples (pushed h e)
      ≡ open_triples h ++ (if opens e then triple_at (length h.entries) e ∷ [] else [])
  open_triples-unsettling =
      triples_from-push (is_open (pushed h e)) 0 h.entries e
      ∙ ap₂ (λ old b. old ++ (if b then triple_at (0 + length h.entries) e ∷ [] else []))
      (triples_from-same (is_open (pushed h e)) (is_open h) 0 h.entries (old_alike h.entries)) own
      ∙ ap (λ n. open_triples h ++ (if opens e then triple_at n e ∷ [] else [])) (omega arith)

  -- so `add` of this triple keeps the index right
  pub open_triples-pending : opens e ≡ true
      → open_triples (pushed h e) ≡ open_triples h ++ triple_at (length h.entries) e ∷ []
  open_triples-pending is = open_triples-unsettling
      ∙ ap (λ b. open_triples h ++ (if b then triple_at (length h.entries) e ∷ [] else [])) is

  -- and otherwise the index is right as it is
  pub open_triples-other : opens e ≡ false → open_triples (pushed h e) ≡ open_triples h
  open_triples-other isnt =
      open_triples-unsettling ∙ (ap (λ b. open_triples h ++ (if b then triple_at (length h.entries) e ∷ [] else []))
      isnt ∙ append-nil (open_triples h))

-- resolved now and not before: the one that this entry names
taken_out : (held timed done now same : Bool) → (held ≡ true → now ≡ same)
    → (held && timed && not (done || now)) ≡ ((held && timed && not done) && not same)
taken_out true true false now same alike = ap not (alike refl)
taken_out held timed done now same alike = refl

module _ (h : History) (e x : Entry) (sound : IsSound h) (after : h.last < e.timestamp) (is : settles e.kind ≡ true)
    (settled : Settles h e x) where
  -- the pending transfer that is settled
  it : IsStored h (settled_id e.kind e.transfer) x
  it = IsStored-found h (settled_id e.kind e.transfer) x settled.named

  -- among pending transfers it is named by its id as by its timestamp
  abbrev IsNamed : Entry → Type 0
  IsNamed y = holds y.kind ≡ true → ends e y ≡ (y.transfer.timestamp == x.transfer.timestamp)

  -- the settled transfer is named both ways
  itself : IsNamed x
  itself held =
      and_from (settles e.kind) (settled_id e.kind e.transfer == x.transfer.id) is
      (eq-eqb (settled_id e.kind e.transfer) x.transfer.id (sym it.same_id))
      ∙ sym (eq-eqb x.transfer.timestamp x.transfer.timestamp refl)

  -- and no other pending one is, either way
  another : (y : Entry) → (stores y.kind ≡ true → IsOther x y) → IsNamed y
  another y other held =
      let apart = other (stores-holds y.kind held) in
      and_right (settles e.kind) (settled_id e.kind e.transfer == y.transfer.id)
      (ne_eqb (settled_id e.kind e.transfer) y.transfer.id (λ same. apart.id (sym same ∙ sym it.same_id)))
      ∙ sym (ne_eqb y.transfer.timestamp x.transfer.timestamp apart.time)

  -- so it is with every entry of the history
  named : AllByRecursion IsNamed h.entries
  named = All-from_around IsNamed h.entries x it.among itself
      (Around-weaker (λ y. stores y.kind ≡ true → IsOther x y) IsNamed another it.among.front it.among.back
      (IsOther-around h x it.among sound it.stores))

  -- so an entry keeps its triple unless it has that timestamp
  remains : (es : List Entry) → AllByRecursion IsNamed es
      → AllByRecursion (λ y. is_open (pushed h e) y ≡
      (is_open h y && not (y.transfer.timestamp == x.transfer.timestamp))) es
  remains [] all = tt
  remains (y ∷ es) all = (
    is_open-then h e y sound after
        ∙ taken_out (holds y.kind) (not (y.transfer.timeout == 0)) (resolved h y.transfer h.last) (ends e y)
        (y.transfer.timestamp == x.transfer.timestamp) all.0,
    remains es all.1,
  )

  -- the entry that settles has no triple itself
  not_own : is_open (pushed h e) e ≡ false
  not_own = ap (λ b. b && not (e.transfer.timeout == 0) && not (resolved (pushed h e) e.transfer e.timestamp))
      (holds-settles e.kind is)

  -- the one that is settled is taken out
  pub open_triples-settling : open_triples (pushed h e)
      ≡ filter (λ t. not (t.timestamp == x.transfer.timestamp)) (open_triples h)
  open_triples-settling =
      triples_from-push (is_open (pushed h e)) 0 h.entries e
      ∙ (ap₂ (λ old b. old ++ (if b then triple_at (0 + length h.entries) e ∷ [] else []))
      (triples_from-same (is_open (pushed h e)) (λ y. is_open h y && not
      (y.transfer.timestamp == x.transfer.timestamp)) 0 h.entries (remains h.entries named)
      ∙ sym (filter-triples_from (λ t. not (t.timestamp == x.transfer.timestamp)) (is_open h)
      (λ y. not (y.transfer.timestamp == x.transfer.timestamp)) (λ n y. refl) 0 h.entries)) not_own
      ∙ append-nil (filter (λ t. not (t.timestamp == x.transfer.timestamp)) (open_triples h)))
