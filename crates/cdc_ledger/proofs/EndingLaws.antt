-- How pending transfers ended, once one more entry came.
use Rattle.cdc_ledger.proofs.Words.{[], ◌&&◌, ◌++◌, ◌<◌, ◌==◌, ◌||◌, ◌∙◌, ◌∷◌, ◌≡◌, ◌≤◌, AllByRecursion, Bool, Ending, Entry, EventKind, Follows, History, IfSome, IsSound, IsStoredAt, List, None, Open, Option, Pending, Some, Transfer, TwoPhaseExpired, TwoPhasePosted, TwoPhaseVoided, ap, ap₂, arith, ending_among, ending_by, ending_from, ending_of, endings_after, endings_of, expires, false, get_or, holds, if◌then◌else◌, length, list_any, map, nat_le, option_map, posts, refl, resolves, set, settled_by, settled_id, settles, stored, stores, suc, sym, true, voids, zero, ℕ}
use Rattle.std.specs.List.{slice_get}
use Rattle.std.proofs.lemmas.Bool.{and_right, false≢true, le-leb, ne_eqb, and_from, eq-eqb}
use Rattle.std.proofs.lemmas.List.{length-map, map-append, map_push}
use Rattle.std.proofs.lemmas.List.Folds.{list_any-append}
use Rattle.std.proofs.lemmas.Option.{slice_get-get_or, slice_get-map, slice_get_within}
use Rattle.cdc_ledger.proofs.BalanceLaws.{holds-settles, resolved_none, resolves_is, settled_by_is, settled_by_none, stores-holds}
use Rattle.cdc_ledger.proofs.Elements.{AllByRecursion-every, map_same, or_none}
use Rattle.cdc_ledger.proofs.IndexKept.{settles-settled_by}
use Rattle.cdc_ledger.proofs.Pending.{Around, Around-weaker, IsAmong, IsOther, IsOther-around, IsStored-found}

-- if a disjunction is false, so are both parts
neither : (a b : Bool) → (a || b) ≡ false → (a ≡ false) × (b ≡ false)
neither true b none = absurd (false≢true (sym none))
neither false b none = (refl, none)

-- the entry neither posts nor voids the transfer p, nor is it the expiry of p
record LeavesOpen (p : Transfer) (e : Entry) : Type 0 where
  unposted : posts e.kind e.transfer p ≡ false
  unvoided : voids e.kind e.transfer p ≡ false
  unexpired : expires e.kind e.transfer p ≡ false

-- which is that it doesn't resolve it
leaves_open : (p : Transfer) (e : Entry) → resolves p e ≡ false → LeavesOpen p e
leaves_open p e none =
    let last = neither (posts e.kind e.transfer p || voids e.kind e.transfer p) (expires e.kind e.transfer p) none in
    let first = neither (posts e.kind e.transfer p) (voids e.kind e.transfer p) last.0 in
    record { unposted = first.0; unvoided = first.1; unexpired = last.1 }

-- none of these entries ended the transfer p
record IsUnended (es : List Entry) (p : Transfer) : Type 0 where
  unposted : list_any (λ x. posts x.kind x.transfer p) es ≡ false
  unvoided : list_any (λ x. voids x.kind x.transfer p) es ≡ false
  unexpired : list_any (λ x. expires x.kind x.transfer p) es ≡ false

-- p is unended if none of the entries resolved it by the timestamp t, and none of them is later than t
unended_from : (p : Transfer) (t : ℕ) (es : List Entry) → AllByRecursion (λ e. e.timestamp ≤ t) es
    → list_any (λ e. nat_le e.timestamp t && resolves p e) es ≡ false → IsUnended es p
unended_from p t [] past none = record { unposted = refl; unvoided = refl; unexpired = refl }
unended_from p t (e ∷ es) past none =
    let both = neither (nat_le e.timestamp t && resolves p e)
    (list_any (λ x. nat_le x.timestamp t && resolves p x) es) none in
    let own = leaves_open p e (sym (ap (λ b. b && resolves p e) (le-leb e.timestamp t past.0)) ∙ both.0) in
    let rest = unended_from p t es past.1 both.1 in
    record {
      unposted = ap₂ (λ a b. a || b) own.unposted rest.unposted;
      unvoided = ap₂ (λ a b. a || b) own.unvoided rest.unvoided;
      unexpired = ap₂ (λ a b. a || b) own.unexpired rest.unexpired;
    }

-- whether one of the entries passes, with one more
any_pushed : (test : Entry → Bool) (es : List Entry) (e : Entry)
    → list_any test (es ++ e ∷ []) ≡ (list_any test es || test e)
any_pushed test es e = list_any-append test es (e ∷ [])
    ∙ ap (λ b. list_any test es || b) (or_none (test e) false refl)

-- a test that the last entry fails
any_kept : (test : Entry → Bool) (es : List Entry) (e : Entry) → test e ≡ false
    → list_any test (es ++ e ∷ []) ≡ list_any test es
any_kept test es e fails = any_pushed test es e ∙ or_none (list_any test es) (test e) fails

-- a test that the last entry alone may pass
any_last : (test : Entry → Bool) (es : List Entry) (e : Entry) → list_any test es ≡ false
    → list_any test (es ++ e ∷ []) ≡ test e
any_last test es e none = any_pushed test es e ∙ ap (λ b. b || test e) none

-- an ending is known by its three tests
ending_same : (a b c a' b' c' : Bool) → a ≡ a' → b ≡ b' → c ≡ c' → ending_from a b c ≡ ending_from a' b' c'
ending_same a b c a' b' c' p q r = cc

-- an entry that doesn't resolve a transfer leaves it as it was
ending_kept : (es : List Entry) (e : Entry) (p : Transfer) → resolves p e ≡ false
    → ending_among (es ++ e ∷ []) p ≡ ending_among es p
ending_kept es e p none =
    let own = leaves_open p e none in
    ending_same _ _ _ _ _ _ (any_kept (λ x. posts x.kind x.transfer p) es e own.unposted)
    (any_kept (λ x. voids x.kind x.transfer p) es e own.unvoided)
    (any_kept (λ x. expires x.kind x.transfer p) es e own.unexpired)

-- the ending that an entry causes is that of its kind
ending_kind : (k : EventKind) (x p : Transfer) → (settles k && (settled_id k x == p.id)) ≡ true
    → ending_from (posts k x p) (voids k x p) (expires k x p) ≡ ending_by k
ending_kind TwoPhasePosted x p is = ap (λ b. ending_from b false false) is
ending_kind TwoPhaseVoided x p is = ap (λ b. ending_from false b false) is
ending_kind TwoPhaseExpired x p is = ap (λ b. ending_from false false b) is
ending_kind k x p is = absurd (false≢true is)

-- an entry that settles a transfer that was open gives it this ending
ending_new : (es : List Entry) (e : Entry) (p : Transfer) → IsUnended es p
    → (settles e.kind && (settled_id e.kind e.transfer == p.id)) ≡ true
    → ending_among (es ++ e ∷ []) p ≡ ending_by e.kind
ending_new es e p unended is =
    ending_same _ _ _ _ _ _ (any_last (λ x. posts x.kind x.transfer p) es e unended.unposted)
    (any_last (λ x. voids x.kind x.transfer p) es e unended.unvoided)
    (any_last (λ x. expires x.kind x.transfer p) es e unended.unexpired)
    ∙ ending_kind e.kind e.transfer p is

-- a transfer that none of the entries ended is open
ending_open : (es : List Entry) (p : Transfer) → IsUnended es p → ending_among es p ≡ Open
ending_open es p unended = ending_same _ _ _ _ _ _ unended.unposted unended.unvoided unended.unexpired

-- the entry x is at this index: the number of entries before it is the index
record IsAt (es : List Entry) (place : ℕ) (x : Entry) : Type 0 where
  among : IsAmong es x
  before : length among.front ≡ place

-- the entry that is read at an index is at that index
at_place : (es : List Entry) (place : ℕ) (x : Entry) → slice_get es place ≡ Some x → IsAt es place x
at_place [] place x at = cc
at_place (y ∷ es) zero x at =
    let same : y ≡ x = cc in
    record { among = record { front = []; back = es; split = ap (λ z. z ∷ es) same }; before = refl }
at_place (y ∷ es) (suc place) x at =
    let rest = at_place es place x at in
    record {
      among = record {
        front = y ∷ rest.among.front;
        back = rest.among.back;
        split = ap (λ more. y ∷ more) rest.among.split;
      };
      before = ap suc rest.before;
    }

-- a write between two parts of a list
set_seam : {X : Type 0} (xs : List X) (y z : X) (ys : List X) → set (xs ++ y ∷ ys) (length xs) z ≡ xs ++ z ∷ ys
set_seam [] y z ys = refl
set_seam (x ∷ xs) y z ys = ap (λ more. x ∷ more) (set_seam xs y z ys)

-- the values of all entries, if only that of one entry changed
map_at : (f g : Entry → Ending) (es : List Entry) (place : ℕ) (x : Entry) (at : IsAt es place x)
    → Around (λ y. f y ≡ g y) at.among.front at.among.back → map f es ≡ set (map g es) place (f x)
map_at f g es place x at others =
    let front = at.among.front in
    let back = at.among.back in
    let long : length (map g front) ≡ place = length-map front g ∙ at.before in
    let parts : map g es ≡ map g front ++ g x ∷ map g back =
    ap (map g) at.among.split ∙ map-append g front (x ∷ back) in
    ap (map f) at.among.split ∙ map-append f front (x ∷ back)
    ∙ ap₂ (λ ys zs. ys ++ f x ∷ zs) (map_same f g front others.before) (map_same f g back others.after)
    ∙ sym (set_seam (map g front) (g x) (f x) (map g back))
    ∙ ap₂ (λ n ys. set ys n (f x)) long (sym parts)

-- each entry has a note
endings_long : (h : History) (endings : List Ending) → endings ≡ endings_of h.entries
    → length endings ≡ length h.entries
endings_long h endings same = ap length same ∙ length-map h.entries (ending_of h.entries)

-- so there is one at its place, and it is its own
pub ending_within : (h : History) (endings : List Ending) (place : ℕ) → endings ≡ endings_of h.entries
    → place < length h.entries → place < length endings
ending_within h endings place same within =
    let long = endings_long h endings same in omega (arith, within, long)

-- the value read is how the transfer of the entry at that index ended
pub ending_read : (h : History) (endings : List Ending) (place : ℕ) (d : Ending) → endings ≡ endings_of h.entries
    → place < length h.entries
    → option_map (ending_of h.entries) (slice_get h.entries place) ≡ Some (get_or endings place d)
ending_read h endings place d same within =
    sym (slice_get-map (ending_of h.entries) h.entries place)
    ∙ ap (λ (xs : List Ending). slice_get xs place) (sym same)
    ∙ slice_get-get_or endings place d (ending_within h endings place same within)

-- the place of what is settled is one of the notes'
pub settled_within : (h : History) (settled : Option Pending) (endings : List Ending) → endings ≡ endings_of h.entries
    → IfSome settled (λ p. IsStoredAt h p.transfer.id p.place) → IfSome settled (λ p. p.place < length endings)
settled_within h None endings same found = tt
settled_within h (Some p) endings same found =
    ending_within h endings p.place same (slice_get_within h.entries p.place found.0 found.1)

module _ (h : History) (e : Entry) (sound : IsSound h) (follows : Follows h e) where
  -- the entries with the new one
  abbrev all : List Entry
  all = h.entries ++ e ∷ []

  -- a transfer keeps its ending if the entry settles another id
  kept_of : (y : Entry) → (holds y.kind ≡ true → resolves y.transfer e ≡ false)
      → ending_of all y ≡ ending_of h.entries y
  kept_of y other = by (holds y.kind) refl
    where
      by : (b : Bool) → holds y.kind ≡ b → ending_of all y ≡ ending_of h.entries y
      by true is = ap (λ z. if holds y.kind then z else Open) (ending_kept h.entries e y.transfer (other is))
      by false is =
          ap (λ b. if b then ending_among all y.transfer else Open) is
          ∙ sym (ap (λ b. if b then ending_among h.entries y.transfer else Open) is)

  -- the new entry's own transfer is open
  own_open : ending_of all e ≡ Open
  own_open = by (holds e.kind) (settles e.kind) refl refl
    where
      by : (b s : Bool) → holds e.kind ≡ b → settles e.kind ≡ s → ending_of all e ≡ Open
      by true true is settling = absurd (false≢true (sym (holds-settles e.kind settling) ∙ is))
      by true false is settling =
          ap (λ b. if b then ending_among all e.transfer else Open) is
          ∙ ending_kept h.entries e e.transfer
          (resolves_is e e.transfer ∙ ap (λ b. b && (settled_id e.kind e.transfer == e.transfer.id)) settling)
          ∙ ending_open h.entries e.transfer (unended_from e.transfer h.last h.entries sound.past
          (resolved_none h e.transfer h.last sound.standing (follows.fresh (stores-holds e.kind is))))
      by false s is settling = ap (λ b. if b then ending_among all e.transfer else Open) is

  -- if the entry settles nothing, the others keep their endings
  unsettled : settles e.kind ≡ false → endings_of all ≡ endings_of h.entries ++ Open ∷ []
  unsettled none =
      map_push (ending_of all) h.entries e
      ∙ ap₂ (λ xs x. xs ++ x ∷ []) (map_same (ending_of all) (ending_of h.entries) h.entries
      (AllByRecursion-every (λ y. ending_of all y ≡ ending_of h.entries y)
      (λ y. kept_of y (λ is. resolves_is e y.transfer
      ∙ ap (λ b. b && (settled_id e.kind e.transfer == y.transfer.id)) none)) h.entries)) own_open

  -- if the entry settles a pending transfer, only the ending of that transfer changes
  settled_at : settles e.kind ≡ true → (p : Pending) → settled_by h e ≡ Some p.transfer
      → IsStoredAt h p.transfer.id p.place
      → endings_of all ≡ set (endings_of h.entries) p.place (ending_by e.kind) ++ Open ∷ []
  settled_at settling p some found =
      let unended = follows.settling settling in
      let x = unended.pending in
      let it = IsStored-found h (settled_id e.kind e.transfer) x unended.settles.named in
      let named : settled_by h e ≡ Some x.transfer = settled_by_is h e x settling unended.settles in
      let same : x.transfer ≡ p.transfer = cc in
      let there : stored h p.transfer.id ≡ Some x =
      ap (stored h) (sym (ap (λ (q : Transfer). q.id) same) ∙ it.same_id) ∙ unended.settles.named in
      let one : found.0 ≡ x = let two : stored h p.transfer.id ≡ Some found.0 = found.2 in cc in
      let at = at_place h.entries p.place x (found.1 ∙ ap (λ y. Some y) one) in
      let ends = and_from (settles e.kind) (settled_id e.kind e.transfer == x.transfer.id) settling (eq-eqb (settled_id
      e.kind e.transfer) x.transfer.id (sym it.same_id)) in
      let ended : ending_of all x ≡ ending_by e.kind =
      ap (λ b. if b then ending_among all x.transfer else Open) unended.settles.pending
      ∙ ending_new h.entries e x.transfer
      (unended_from x.transfer h.last h.entries sound.past unended.unsettled) ends in
      let others : Around (λ y. ending_of all y ≡ ending_of h.entries y) at.among.front at.among.back =
      Around-weaker (λ y. stores y.kind ≡ true → IsOther x y) (λ y. ending_of all y ≡ ending_of h.entries y)
      (λ y other. kept_of y (λ held. resolves_is e y.transfer
      ∙ and_right (settles e.kind) (settled_id e.kind e.transfer == y.transfer.id)
      (ne_eqb (settled_id e.kind e.transfer) y.transfer.id
      (λ clash. (other (stores-holds y.kind held)).id (sym clash ∙ sym it.same_id)))))
      at.among.front at.among.back (IsOther-around h x at.among sound it.stores) in
      map_push (ending_of all) h.entries e
      ∙ ap₂ (λ xs z. xs ++ z ∷ [])
      (map_at (ending_of all) (ending_of h.entries) h.entries p.place x at others
      ∙ ap (set (endings_of h.entries) p.place) ended) own_open

  -- so the endings are kept right by what is known of the settled transfer
  pub endings_of-pushed : (settled : Option Pending)
      → option_map (λ p. p.transfer) settled ≡ settled_by h e
      → IfSome settled (λ p. IsStoredAt h p.transfer.id p.place)
      → endings_of all ≡ endings_after settled e.kind (endings_of h.entries)
  endings_of-pushed None is found = unsettled (settles-settled_by h e follows (sym is))
  endings_of-pushed (Some p) is found = by (settles e.kind) refl
    where
      by : (b : Bool) → settles e.kind ≡ b
          → endings_of all ≡ set (endings_of h.entries) p.place (ending_by e.kind) ++ Open ∷ []
      by true settling = settled_at settling p (sym is) found
      by false none = let clash : settled_by h e ≡ None = settled_by_none h e none in cc

  -- before the entry, the pending transfer that it settles was open
  pub open_before : (p : Pending) → option_map (λ p. p.transfer) (Some p) ≡ settled_by h e
      → IsStoredAt h p.transfer.id p.place → slice_get (endings_of h.entries) p.place ≡ Some Open
  open_before p is found = by (settles e.kind) refl
    where
      by : (b : Bool) → settles e.kind ≡ b → slice_get (endings_of h.entries) p.place ≡ Some Open
      by true settling =
          let unended = follows.settling settling in
          let x = unended.pending in
          let it = IsStored-found h (settled_id e.kind e.transfer) x unended.settles.named in
          let named : settled_by h e ≡ Some x.transfer = settled_by_is h e x settling unended.settles in
          let same : x.transfer ≡ p.transfer = let some : settled_by h e ≡ Some p.transfer = sym is in cc in
          let there : stored h p.transfer.id ≡ Some x =
          ap (stored h) (sym (ap (λ (q : Transfer). q.id) same) ∙ it.same_id) ∙ unended.settles.named in
          let one : found.0 ≡ x = let two : stored h p.transfer.id ≡ Some found.0 = found.2 in cc in
          let open_still : ending_of h.entries x ≡ Open =
          ap (λ b. if b then ending_among h.entries x.transfer else Open) unended.settles.pending
          ∙ ending_open h.entries x.transfer (unended_from x.transfer h.last h.entries sound.past unended.unsettled) in
          slice_get-map (ending_of h.entries) h.entries p.place
          ∙ ap (option_map (ending_of h.entries)) (found.1 ∙ ap (λ y. Some y) one)
          ∙ ap (λ y. Some y) open_still
      by false none = let clash : settled_by h e ≡ None = settled_by_none h e none in
          let some : settled_by h e ≡ Some p.transfer = sym is in cc
