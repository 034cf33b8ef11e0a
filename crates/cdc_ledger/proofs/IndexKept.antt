-- The set that an index keeps after each change of a history, and what its answers imply about the due transfers.
use Rattle.cdc_ledger.proofs.Words.{[], ⊎_elim, ◌<◌, ◌==◌, ◌^◌, ◌∙◌, ◌∷◌, ◌≡◌, ◌≤◌, Bool, Entry, Follows, History, IfSome, IsLeast, IsNewTimestamp, IsSound, List, None, Opened, Option, Settles, Some, Stands, Transfer, Triples, ap, arith, due, due_at, ends_after, expires_at, false, filter, holds, if◌then◌else◌, index_of, is_open, length, max_timestamp, nat_le, not, open_triples, opens, pushed, refl, settled_by, settled_id, settles, stores, subst, sym, triple_at, true, without, ℕ}
use Rattle.std.specs.FinSet as set
use Rattle.std.specs.List.{All}
use Rattle.std.proofs.lemmas.Bool.{and_parts, cases_eq, eqb-false, not-true}
use Rattle.std.proofs.lemmas.List.Elements.{All-from_recursion}
use Rattle.cdc_expiry.proofs.Lists.{set_of-push, without-set_of, due_at-set_of, due_count-set_of, IsNewTimestamp-set_of, IsLeastOf-set_of}
use Rattle.cdc_ledger.proofs.BalanceLaws.{settled_by_is, settled_by_none, stores-holds}
use Rattle.cdc_ledger.proofs.DueLaws.{length-due}
use Rattle.cdc_ledger.proofs.IndexLaws.{open_triples-later, open_triples-other, open_triples-pending, open_triples-settling}
use Rattle.cdc_ledger.proofs.IndexTimes.{holds-open, others-open, TimestampsDiffer-open}
use Rattle.cdc_ledger.proofs.IndexTriples.{triples_from-All}
use Rattle.cdc_ledger.proofs.Pending.{All-among, All-from_around, Around-weaker, IsAmong, IsOther, IsOther-around, IsStored-found}

-- accounts, a close and a timestamp leave the set as it is
pub index_of-later : (h : History) (accounts : List Opened) (t : ℕ) (closed : Bool) → IsSound h → h.last ≤ t
    → index_of (record { accounts = accounts; entries = h.entries; last = t; closed = closed }) ≡ index_of h
index_of-later h accounts t closed sound later = ap set.from_list (open_triples-later h accounts t closed sound later)

-- what settles no pending transfer is a single-phase or a pending one
pub settles-settled_by : (h : History) (e : Entry) → Follows h e → settled_by h e ≡ None → settles e.kind ≡ false
settles-settled_by h e follows none = by_settling (settles e.kind) refl
  where
    by_settling : (b : Bool) → settles e.kind ≡ b → settles e.kind ≡ false
    by_settling true is =
        let named = settled_by_is h e (follows.settling is).pending is (follows.settling is).settles in cc
    by_settling false is = is

-- a single-phase or a pending transfer: it has a triple if it is pending and has a timeout
module _ (h : History) (e : Entry) (sound : IsSound h) (follows : Follows h e) (after : h.last < e.timestamp)
    (none : settled_by h e ≡ None) where
  -- one with a timeout is added to the index, at the place that its entry will have
  pub index_of-pending : opens e ≡ true
      → index_of (pushed h e) ≡ set.insert (index_of h) (triple_at (length h.entries) e)
  index_of-pending is =
      ap set.from_list (open_triples-pending h e sound follows after (settles-settled_by h e follows none) is)
      ∙ set_of-push (open_triples h) (triple_at (length h.entries) e)

  -- one without, or a single-phase one, leaves the index as it is
  pub index_of-unpending : opens e ≡ false → index_of (pushed h e) ≡ index_of h
  index_of-unpending isnt = ap set.from_list (open_triples-other h e sound follows after
      (settles-settled_by h e follows none) isnt)

-- its timestamp is new to the set
pub IsNewTimestamp-index_of : (h : History) (t : ℕ) → IsSound h → h.last < t → IsNewTimestamp (index_of h) t
IsNewTimestamp-index_of h t sound after = IsNewTimestamp-set_of (open_triples h) t (others-open h t sound after)

-- the pending transfer that an entry settles was stored by this entry
record IsSettled (h : History) (e : Entry) (p : Transfer) : Type 0 where
  is : settles e.kind ≡ true
  x : Entry
  settled : Settles h e x
  own : x.transfer ≡ p

-- so the entry whose triple has to leave the index is known by what a post, a void or an expiry settles
IsSettled-settled_by : (h : History) (e : Entry) (p : Transfer) → Follows h e → settled_by h e ≡ Some p
    → IsSettled h e p
IsSettled-settled_by h e p follows some = by_settling (settles e.kind) refl
  where
    by_settling : (b : Bool) → settles e.kind ≡ b → IsSettled h e p
    by_settling true is =
        let unsettled = follows.settling is in
        let named = settled_by_is h e unsettled.pending is unsettled.settles in
        record { is = is; x = unsettled.pending; settled = unsettled.settles; own = cc }
    by_settling false isnt = let none : settled_by h e ≡ None = settled_by_none h e isnt in cc

-- the expiry time of a pending transfer is in range, even without a timeout: then it is the timestamp of its entry
end_fits : (h : History) (x : Entry) → IsSound h → IsAmong h.entries x → holds x.kind ≡ true
    → expires_at x.transfer ≤ max_timestamp
end_fits h x sound among held =
    ⊎_elim (λ endless. endless_fits endless) (λ timed. stands.timely held timed) (cases_eq x.transfer.timeout 0)
  where
    stands : Stands h x
    stands = All-among (Stands h) h.entries x among sound.standing

    endless_fits : x.transfer.timeout ≡ 0 → expires_at x.transfer ≤ max_timestamp
    endless_fits endless =
        let past : x.timestamp ≤ h.last = All-among (λ y. y.timestamp ≤ h.last) h.entries x among sound.past in
        let own : x.transfer.timestamp ≡ x.timestamp = stands.dated (stores-holds x.kind held) in
        let within : h.last ≤ max_timestamp = sound.within in
        omega arith

-- so the expiry time of a settled transfer, by which its triple is looked up, can be computed
pub expires_at-settled : (h : History) (e : Entry) (p : Transfer) → IsSound h → Follows h e → settled_by h e ≡ Some p
    → expires_at p ≤ max_timestamp
expires_at-settled h e p sound follows some =
    let it = IsSettled-settled_by h e p follows some in
    let at = IsStored-found h (settled_id e.kind e.transfer) it.x it.settled.named in
    subst (λ (q : Transfer). expires_at q ≤ max_timestamp) it.own (end_fits h it.x sound at.among it.settled.pending)

-- a transfer that was created at the same timestamp has the same expiry time
abbrev EndsAlike : Entry → Entry → Type 0
EndsAlike x y = y.transfer.timestamp ≡ x.transfer.timestamp → expires_at y.transfer ≡ expires_at x.transfer

-- the triple of a timestamp has the expiry time of the transfer that was created then
ends_alike : (h : History) (x : Entry) → IsSound h → IsAmong h.entries x → stores x.kind ≡ true
    → All (λ t. t.timestamp ≡ x.transfer.timestamp → t.expires_at ≡ expires_at x.transfer) (open_triples h)
ends_alike h x sound among is =
    All-from_recursion (λ t. t.timestamp ≡ x.transfer.timestamp → t.expires_at ≡ expires_at x.transfer) (open_triples h)
    (triples_from-All (EndsAlike x) (λ t. t.timestamp ≡ x.transfer.timestamp → t.expires_at ≡ expires_at x.transfer)
    (λ n y alike. alike) (is_open h) 0 h.entries
    (All-from_around (λ y. is_open h y ≡ true → EndsAlike x y) h.entries x among (λ has same. refl)
    (Around-weaker (λ y. stores y.kind ≡ true → IsOther x y) (λ y. is_open h y ≡ true → EndsAlike x y)
    (λ y other has same. absurd ((other (stores-holds y.kind (holds-open h y has))).time same)) among.front among.back
    (IsOther-around h x among sound is))))

-- a post, a void or an expiry takes out the triple of the pending transfer that it settles
pub index_of-settled : (h : History) (e : Entry) (p : Transfer) → IsSound h → Follows h e → h.last < e.timestamp
    → settled_by h e ≡ Some p
    → index_of (pushed h e) ≡ without (index_of h) (expires_at p) p.timestamp
index_of-settled h e p sound follows after some =
    let it = IsSettled-settled_by h e p follows some in
    let at = IsStored-found h (settled_id e.kind e.transfer) it.x it.settled.named in
    ap set.from_list (open_triples-settling h e it.x sound after it.is it.settled)
    ∙ (sym (without-set_of (open_triples h) (expires_at it.x.transfer) it.x.transfer.timestamp
    (ends_alike h it.x sound at.among at.stores))
    ∙ ap (λ (q : Transfer). without (index_of h) (expires_at q) q.timestamp) it.own)

-- the count of what is due
pub due_count-index_of : (h : History) (now : ℕ) → IsSound h → set.len (due_at (index_of h) now) ≡ length (due h now)
due_count-index_of h now sound =
    due_count-set_of (open_triples h) now (TimestampsDiffer-open h sound) ∙ sym (length-due h now)

-- nothing is due
pub due-none : (h : History) (now : ℕ) → IsLeast (due_at (index_of h) now) None → due h now ≡ []
due-none h now least =
    none_long (due h now) (length-due h now ∙ ap length
    (IsLeastOf-set_of (filter (λ t. nat_le t.expires_at now) (open_triples h)) None
    (subst (λ s. IsLeast s None) (due_at-set_of (open_triples h) now) least)))
  where
    none_long : (xs : List Transfer) → length xs ≡ 0 → xs ≡ []
    none_long [] long = refl
    none_long (x ∷ xs) long = absurd (omega arith)

-- so after an entry the set is that of the history with the entry, whatever the entry does
pub index_of-ended : (h : History) (e : Entry) → IsSound h → Follows h e → h.last < e.timestamp
    → index_of (pushed h e) ≡ ends_after (settled_by h e) e (length h.entries) (index_of h)
index_of-ended h e sound follows after = by_settled (settled_by h e) refl
  where
    by_opening : (b : Bool) → opens e ≡ b → settled_by h e ≡ None
        → index_of (pushed h e)
        ≡ (if b then set.insert (index_of h) (triple_at (length h.entries) e) else index_of h)
    by_opening true is none = index_of-pending h e sound follows after none is
    by_opening false is none = index_of-unpending h e sound follows after none is

    by_settled : (o : Option Transfer) → settled_by h e ≡ o
        → index_of (pushed h e) ≡ ends_after o e (length h.entries) (index_of h)
    by_settled (Some p) is = index_of-settled h e p sound follows after is
    by_settled None is = by_opening (opens e) refl is

-- the expiry time of the transfer that an entry settles can be computed
pub settled-end : (h : History) (e : Entry) (o : Option Transfer) → IsSound h → Follows h e → o ≡ settled_by h e
    → IfSome o (λ p. expires_at p < 2 ^ 64)
settled-end h e None sound follows is = tt
settled-end h e (Some p) sound follows is =
    let fits = expires_at-settled h e p sound follows (sym is) in omega (arith, fits)

-- and so can the entry's own expiry time, if it has a triple
pub opens-end : (h : History) (e : Entry) → Follows h e → opens e ≡ true → expires_at e.transfer < 2 ^ 64
opens-end h e follows is =
    let timeout = eqb-false e.transfer.timeout 0
    (not-true (e.transfer.timeout == 0) (and_parts (holds e.kind) (not (e.transfer.timeout == 0)) is).1) in
    let fits = follows.timely (and_parts (holds e.kind) (not (e.transfer.timeout == 0)) is).0 timeout in
    omega (arith, fits)

-- the timestamp of such an entry's transfer is new to the set
pub opens-new : (h : History) (e : Entry) (ends : Triples) → IsSound h → Follows h e → h.last < e.timestamp
    → ends ≡ index_of h → opens e ≡ true → IsNewTimestamp ends e.transfer.timestamp
opens-new h e ends sound follows after same is =
    let own = follows.dated (stores-holds e.kind
    (and_parts (holds e.kind) (not (e.transfer.timeout == 0)) is).0) in
    subst (λ s. IsNewTimestamp s e.transfer.timestamp) (sym same)
    (IsNewTimestamp-index_of h e.transfer.timestamp sound (omega (arith, own, after)))
