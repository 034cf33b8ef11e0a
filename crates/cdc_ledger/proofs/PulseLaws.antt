-- A pulse preserves what holds of every history: each transfer that is due may expire, and so may the others after
-- it.
use Rattle.cdc_ledger.proofs.Words.{[], ◌&&◌, ◌+◌, ◌<◌, ◌==◌, ◌||◌, ◌∙◌, ◌∷◌, ◌≡◌, ◌≢◌, ◌≤◌, AllByRecursion, AreApart, Bool, Entry, Follows, History, IsSound, List, Some, Transfer, ap, ap₂, arith, due, expires_at, expiries_from, expiry, false, filter, holds, if◌then◌else◌, in_order_of_end, insert_by_end, is_due, is_sooner, length, map, max_timestamp, nat_le, not, refl, resolved, stored, stored_ids, stores, subst, sym, true, ℕ}
use Rattle.std.proofs.lemmas.Bool.{and_parts, not-true, ne_eqb, eqb-false}
use Rattle.cdc_ledger.proofs.AcceptedLaws.{Follows-expiry}
use Rattle.cdc_ledger.proofs.BalanceLaws.{resolved_then, stores-holds}
use Rattle.cdc_ledger.proofs.Changes.{pushed}
use Rattle.cdc_ledger.proofs.DueOrder.{All-insert_by_end, All-in_order}
use Rattle.cdc_ledger.proofs.Elements.{AllByRecursion-weaker, AllByRecursion-both}
use Rattle.cdc_ledger.proofs.SoundLaws.{IsSound-pushed}
use Rattle.cdc_ledger.proofs.StoredLaws.{is_stored, apart-cons, stored_each, stored-pushed_kept}

-- the transfer p of the history is pending, and nothing settled it
pub record IsOpen (h : History) (p : Transfer) : Type 0 where
  pub pending : Entry
  pub there : stored h p.id ≡ Some pending
  pub same : pending.transfer ≡ p
  pub holding : holds pending.kind ≡ true
  pub unsettled : resolved h p h.last ≡ false

-- no two transfers have one id
abbrev pub HaveOwnIds : List Transfer → Type 0
HaveOwnIds [] = Unit {0}
HaveOwnIds (p ∷ ps) = AllByRecursion (λ q. p.id ≢ q.id) ps × HaveOwnIds ps

-- sorting by expiry time preserves what holds of each transfer, and of each pair

-- a transfer put in its place among others of different ids leaves all ids different
placed_ids : (p : Transfer) (qs : List Transfer) → AllByRecursion (λ q. p.id ≢ q.id) qs → HaveOwnIds qs
    → HaveOwnIds (insert_by_end p qs)
placed_ids p [] other own = (tt, tt)
placed_ids p (q ∷ qs) other own = either (is_sooner q p) (placed_ids p qs other.1 own.1)
  where
    either : (b : Bool) → HaveOwnIds (insert_by_end p qs)
        → HaveOwnIds (if b then q ∷ insert_by_end p qs else p ∷ q ∷ qs)
    either true more = (All-insert_by_end (λ x. q.id ≢ x.id) p qs (λ same. other.0 (sym same)) own.0, more)
    either false more = (other, own)

-- so the sorted list has no transfer twice
in_order_ids : (ps : List Transfer) → HaveOwnIds ps → HaveOwnIds (in_order_of_end ps)
in_order_ids [] own = tt
in_order_ids (p ∷ ps) own = placed_ids p (in_order_of_end ps) (All-in_order (λ q. p.id ≢ q.id) ps own.0)
    (in_order_ids ps own.1)

-- the transfers of the entries that pass a test
module _ (test : Entry → Bool) where
  -- what holds of the transfer of each entry that passes holds of the list of these transfers
  passing_all : (P : Transfer → Type 0) (es : List Entry) → AllByRecursion (λ e. test e ≡ true → P e.transfer) es
      → AllByRecursion P (map (λ e. e.transfer) (filter test es))
  passing_all P [] all = tt
  passing_all P (e ∷ es) all = either (test e) refl (passing_all P es all.1)
    where
      either : (b : Bool) → test e ≡ b → AllByRecursion P (map (λ x. x.transfer) (filter test es))
          → AllByRecursion P (map (λ x. x.transfer) (if b then e ∷ filter test es else filter test es))
      either true passes more = (all.0 passes, more)
      either false passes more = more

  -- if all entries that pass stored their transfers, no two of these have one id
  passing_ids : ((e : Entry) → test e ≡ true → stores e.kind ≡ true) → (es : List Entry) → AreApart (stored_ids es)
      → HaveOwnIds (map (λ e. e.transfer) (filter test es))
  passing_ids storing [] apart = tt
  passing_ids storing (e ∷ es) apart = either (test e) refl (passing_ids storing es (apart-cons e es apart).0)
    where
      other : (x : Entry) → is_stored e.transfer.id x ≡ false → test x ≡ true → e.transfer.id ≢ x.transfer.id
      other x differs passes same = eqb-false x.transfer.id e.transfer.id
          (sym (ap (λ b. b && (x.transfer.id == e.transfer.id)) (storing x passes)) ∙ differs) (sym same)

      either : (b : Bool) → test e ≡ b → HaveOwnIds (map (λ x. x.transfer) (filter test es))
          → HaveOwnIds (map (λ x. x.transfer) (if b then e ∷ filter test es else filter test es))
      either true passes more = (
        passing_all (λ q. e.transfer.id ≢ q.id) es
            (AllByRecursion-weaker (λ x. is_stored e.transfer.id x ≡ false)
            (λ x. test x ≡ true → e.transfer.id ≢ x.transfer.id) other es
            ((apart-cons e es apart).1 (storing e passes))),
        more,
      )
      either false passes more = more

-- what it takes to be due
record DueParts (h : History) (e : Entry) : Type 0 where
  holding : holds e.kind ≡ true
  unsettled : resolved h e.transfer h.last ≡ false

-- a transfer that is due is pending, and nothing settled it
due_parts : (h : History) (now : ℕ) (e : Entry) → is_due h now e ≡ true → DueParts h e
due_parts h now e is =
    let last = and_parts (holds e.kind && not (e.transfer.timeout == 0) && nat_le (expires_at e.transfer) now)
    (not (resolved h e.transfer h.last)) is in
    let ended = and_parts (holds e.kind && not (e.transfer.timeout == 0)) (nat_le (expires_at e.transfer) now) last.0 in
    let timed = and_parts (holds e.kind) (not (e.transfer.timeout == 0)) ended.0 in
    record { holding = timed.0; unsettled = not-true (resolved h e.transfer h.last) last.1 }

-- the transfers that are due are open, each with its own id
pub due_open : (h : History) (now : ℕ) → IsSound h → AllByRecursion (IsOpen h) (due h now)
due_open h now sound = All-in_order (IsOpen h) (map (λ e. e.transfer) (filter (is_due h now) h.entries))
    (passing_all (is_due h now) (IsOpen h) h.entries
    (AllByRecursion-weaker (λ e. stores e.kind ≡ true → stored h e.transfer.id ≡ Some e)
    (λ e. is_due h now e ≡ true → IsOpen h e.transfer)
    (λ e found is. let parts : DueParts h e = due_parts h now e is in
    record {
      pending = e;
      there = found (stores-holds e.kind parts.holding);
      same = refl;
      holding = parts.holding;
      unsettled = parts.unsettled;
    })
    h.entries (stored_each h sound.once)))

-- no transfer is due twice, so that each of them can expire in turn
pub due_ids : (h : History) (now : ℕ) → IsSound h → HaveOwnIds (due h now)
due_ids h now sound = in_order_ids (map (λ e. e.transfer) (filter (is_due h now) h.entries))
    (passing_ids (is_due h now) (λ e is. stores-holds e.kind (due_parts h now e is).holding) h.entries sound.once)

-- a transfer that is open may expire
pub Follows-open : (h : History) (p : Transfer) (t : ℕ) → IsSound h → IsOpen h p → Follows h (expiry p t)
Follows-open h p t sound open_one =
    let P : Transfer → Type 0 = λ x. Follows h (expiry x t) in
    subst P open_one.same
    (Follows-expiry h open_one.pending t sound
    (ap (λ (x : Transfer). stored h x.id) open_one.same ∙ open_one.there) open_one.holding
    (ap (λ x. resolved h x h.last) open_one.same ∙ open_one.unsettled))

-- the expiry of one transfer leaves another one open
open_after : (h : History) (p q : Transfer) (t : ℕ) → IsSound h → h.last < t → p.id ≢ q.id → IsOpen h q
    → IsOpen (pushed h (expiry p t)) q
open_after h p q t sound later other open_one = record {
  pending = open_one.pending;
  there = stored-pushed_kept h (expiry p t) open_one.pending q.id open_one.there;
  same = open_one.same;
  holding = open_one.holding;
  unsettled = resolved_then h (expiry p t) q sound.past later
      ∙ ap₂ (λ b c. b || c) open_one.unsettled (ne_eqb p.id q.id other);
}

-- open transfers that expire one after another leave the history sound, while there are timestamps
pub IsSound-expiries_from : (h : History) (t : ℕ) (ps : List Transfer) → IsSound h → AllByRecursion (IsOpen h) ps
    → HaveOwnIds ps → h.last < t → (0 < length ps → t + length ps ≤ max_timestamp + 1)
    → IsSound (expiries_from h t ps)
IsSound-expiries_from h t [] sound all own later fits = sound
IsSound-expiries_from h t (p ∷ ps) sound all own later fits =
    let whole : t + length (p ∷ ps) ≤ max_timestamp + 1 = fits (omega arith) in
    IsSound-expiries_from (pushed h (expiry p t)) (t + 1) ps
    (IsSound-pushed h (expiry p t) sound (Follows-open h p t sound all.0) later (omega arith))
    (AllByRecursion-weaker (λ q. (p.id ≢ q.id) × IsOpen h q) (IsOpen (pushed h (expiry p t)))
    (λ q at. open_after h p q t sound later at.0 at.1) ps
    (AllByRecursion-both (λ q. p.id ≢ q.id) (IsOpen h) ps own.0 all.1))
    own.1 (omega arith) (λ some. omega arith)

-- so a pulse that isn't refused leaves the history sound
pub IsSound-pulse : (h : History) (now t : ℕ) → IsSound h → h.last < t
    → (0 < length (due h now) → t + length (due h now) ≤ max_timestamp + 1) → IsSound (expiries_from h t (due h now))
IsSound-pulse h now t sound later fits =
    IsSound-expiries_from h t (due h now) sound (due_open h now sound) (due_ids h now sound) later fits
