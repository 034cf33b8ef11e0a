-- Balances at a later timestamp, after one more entry, and of an account that no entry names.
use Rattle.cdc_ledger.proofs.Words.{[], ◌&&◌, ◌++◌, ◌+◌, ◌-◌, ◌<◌, ◌==◌, ◌||◌, ◌∙◌, ◌∷◌, ◌≡◌, ◌≤◌, AllByRecursion, AreApart, Balances, Bool, Entry, EventKind, Follows, HasAccounts, History, IsSome, IsSound, List, None, Option, Settles, SettlesOpen, SinglePhase, Some, Stands, Transfer, TwoPhaseExpired, TwoPhasePending, TwoPhasePosted, TwoPhaseVoided, add-zero, amount_of, ap, ap₂, arith, balances, credit_side, debit_side, expires, false, held_amount, holds, if◌then◌else◌, is_some, le-leb, moved_amount, nat_le, not, opened, option_map, posts, refl, resolved, resolves, settled_by, settled_id, settled_in, settles, share, stored, stored_ids, stored_in, stores, subst, sum_by, sym, true, voids, ℕ}
use Rattle.std.proofs.lemmas.List.Folds.{list_any-append}
use Rattle.std.proofs.lemmas.List.Sums.{sum_by_push, sum_by-cons}
use Rattle.std.proofs.lemmas.Bool.{and_parts, and_right, eqb-true, eqb-false, eq-eqb, false≢true, ne_eqb, lt-leb}
use Rattle.cdc_ledger.proofs.Changes.{pushed, IsUpTo, part, balances_after_entry, effect_of, no_balances}
use Rattle.cdc_ledger.proofs.Elements.{AllByRecursion-weaker, AllByRecursion-both, sum_by_same, sum_by_every, sum_by_zero, list_any_same, list_any_none, or_none}
use Rattle.cdc_ledger.proofs.StoredLaws.{is_stored, stored_has, apart-cons}

-- `balances` reads the entries alone, so a change of accounts, last or closed leaves it by computation

-- balances are equal if their four sums are, so each sum can be handled separately
pub same_balances : (x y z w x' y' z' w' : ℕ) → x ≡ x' → y ≡ y' → z ≡ z' → w ≡ w'
    → ◌≡◌ {A = Balances} (record { debits_pending = x; debits_posted = y; credits_pending = z; credits_posted = w })
    (record { debits_pending = x'; debits_posted = y'; credits_pending = z'; credits_posted = w' })
same_balances x y z w x' y' z' w' a b c d = cc

-- two timestamps at which the same entries count
pub seen_alike : (e : Entry) (s t : ℕ) → e.timestamp ≤ s → s ≤ t → nat_le e.timestamp t ≡ nat_le e.timestamp s
seen_alike e s t within later = le-leb e.timestamp t (omega arith) ∙ sym (le-leb e.timestamp s within)

-- no pending transfer is resolved by time alone, while no entry comes
pub resolved_later : (h : History) (p : Transfer) (s t : ℕ) → IsUpTo s h → s ≤ t → resolved h p t ≡ resolved h p s
resolved_later h p s t within later =
    list_any_same (λ e. nat_le e.timestamp t && resolves p e) (λ e. nat_le e.timestamp s && resolves p e) h.entries
    (AllByRecursion-weaker (λ e. e.timestamp ≤ s)
    (λ e. (nat_le e.timestamp t && resolves p e) ≡ (nat_le e.timestamp s && resolves p e))
    (λ e at. ap (λ b. b && resolves p e) (seen_alike e s t at later)) h.entries within)

-- what an entry holds back, resolved or not
abbrev pub held_by : Bool → Entry → ℕ
held_by done e = if holds e.kind && not done then e.transfer.amount else 0

-- a share of what agrees on the entries
share_same : (f g : Entry → ℕ) (side : Transfer → ℕ) (a s t : ℕ) (es : List Entry)
    → AllByRecursion (λ e. (f e ≡ g e) × (nat_le e.timestamp t ≡ nat_le e.timestamp s)) es
    → sum_by (share f side a t) es ≡ sum_by (share g side a s) es
share_same f g side a s t es agree =
    sum_by_same (share f side a t) (share g side a s) es
    (AllByRecursion-weaker (λ e. (f e ≡ g e) × (nat_le e.timestamp t ≡ nat_le e.timestamp s))
    (λ e. share f side a t e ≡ share g side a s e)
    (λ e at. ap₂ (λ b n. if b && (side e.transfer == a) then n else 0) at.1 at.0) es agree)

module _ (h : History) (a s t : ℕ) (within : IsUpTo s h) (later : s ≤ t) where
  -- no amount is released by time alone
  held_later : (e : Entry) → held_amount h t e ≡ held_amount h s e
  held_later e = ap (λ b. held_by b e) (resolved_later h e.transfer s t within later)

  -- so the sums of the held amounts are the same at both timestamps
  held_agree : (side : Transfer → ℕ)
      → sum_by (share (held_amount h t) side a t) h.entries ≡ sum_by (share (held_amount h s) side a s) h.entries
  held_agree side = share_same (held_amount h t) (held_amount h s) side a s t h.entries
      (AllByRecursion-weaker (λ e. e.timestamp ≤ s)
      (λ e. (held_amount h t e ≡ held_amount h s e) × (nat_le e.timestamp t ≡ nat_le e.timestamp s))
      (λ e at. (held_later e, seen_alike e s t at later)) h.entries within)

  -- and so are the sums of what was moved
  pub moved_agree : (side : Transfer → ℕ)
      → sum_by (share moved_amount side a t) h.entries ≡ sum_by (share moved_amount side a s) h.entries
  moved_agree side = share_same moved_amount moved_amount side a s t h.entries
      (AllByRecursion-weaker (λ e. e.timestamp ≤ s)
      (λ e. (moved_amount e ≡ moved_amount e) × (nat_le e.timestamp t ≡ nat_le e.timestamp s))
      (λ e at. (refl, seen_alike e s t at later)) h.entries within)

-- no entry lies between the timestamps s and t
pub balances_later : (h : History) (a s t : ℕ) → IsUpTo s h → s ≤ t → balances h a t ≡ balances h a s
balances_later h a s t within later =
    same_balances _ _ _ _ _ _ _ _ (held_agree h a s t within later debit_side)
    (moved_agree h a s t within later debit_side)
    (held_agree h a s t within later credit_side) (moved_agree h a s t within later credit_side)

-- one more entry, and what it resolves
pub resolved-pushed : (h : History) (e : Entry) (p : Transfer) (t : ℕ)
    → resolved (pushed h e) p t ≡ (resolved h p t || (nat_le e.timestamp t && resolves p e))
resolved-pushed h e p t = list_any-append (λ x. nat_le x.timestamp t && resolves p x) h.entries (e ∷ [])
    ∙ ap (λ b. resolved h p t || b) (or_none _ false refl)

-- the sums of one side, after one more entry that resolves nothing up to the timestamp t
module _ (h : History) (e : Entry) (a t : ℕ)
    (none : (p : Transfer) → (nat_le e.timestamp t && resolves p e) ≡ false) where
  -- each entry holds what it held, since the new one resolves nothing
  held-pushed : (x : Entry) → held_amount (pushed h e) t x ≡ held_amount h t x
  held-pushed x = ap (λ b. held_by b x)
      (resolved-pushed h e x.transfer t ∙ or_none (resolved h x.transfer t) _ (none x.transfer))

  -- so the pending sum grows by what the new entry holds itself
  share-pushed : (side : Transfer → ℕ)
      → sum_by (share (held_amount (pushed h e) t) side a t) (h.entries ++ e ∷ [])
      ≡ sum_by (share (held_amount h t) side a t) h.entries + share (held_amount h t) side a t e
  share-pushed side =
      sum_by_every (share (held_amount (pushed h e) t) side a t) (share (held_amount h t) side a t)
      (λ x. ap (λ n. if nat_le x.timestamp t && (side x.transfer == a) then n else 0) (held-pushed x))
      (h.entries ++ e ∷ [])
      ∙ sum_by_push (share (held_amount h t) side a t) h.entries e

-- an entry after a timestamp counts in no sum at that timestamp
share_after : (f : Entry → ℕ) (side : Transfer → ℕ) (a t : ℕ) (e : Entry) → t < e.timestamp → share f side a t e ≡ 0
share_after f side a t e after = ap (λ b. if b && (side e.transfer == a) then f e else 0) (lt-leb e.timestamp t after)

-- an entry of any kind after the timestamp t
pub balances-pushed_before : (h : History) (e : Entry) (a t : ℕ) → t < e.timestamp
    → balances (pushed h e) a t ≡ balances h a t
balances-pushed_before h e a t after =
    let none : (p : Transfer) → (nat_le e.timestamp t && resolves p e) ≡ false =
    λ p. ap (λ b. b && resolves p e) (lt-leb e.timestamp t after) in
    let held_same : (side : Transfer → ℕ) → sum_by (share (held_amount (pushed h e) t) side a t) (h.entries ++ e ∷ [])
    ≡ sum_by (share (held_amount h t) side a t) h.entries =
    λ side. share-pushed h e a t none side
    ∙ (ap (λ n. sum_by (share (held_amount h t) side a t) h.entries + n)
    (share_after (held_amount h t) side a t e after)
    ∙ add-zero _) in
    let moved_same : (side : Transfer → ℕ) → sum_by (share moved_amount side a t) (h.entries ++ e ∷ [])
    ≡ sum_by (share moved_amount side a t) h.entries =
    λ side. sum_by_push (share moved_amount side a t) h.entries e
    ∙ (ap (λ n. sum_by (share moved_amount side a t) h.entries + n)
    (share_after moved_amount side a t e after) ∙ add-zero _) in
    same_balances _ _ _ _ _ _ _ _ (held_same debit_side) (moved_same debit_side) (held_same credit_side)
    (moved_same credit_side)

-- the balances after an entry, from pending sums to which the released amounts are added back
same_changed : (x y z w dr dh dm cr ch cm : ℕ) (b : Balances) → x + dr ≡ b.debits_pending + dh
    → y ≡ b.debits_posted + dm → z + cr ≡ b.credits_pending + ch → w ≡ b.credits_posted + cm
    → ◌≡◌ {A = Balances} (record { debits_pending = x; debits_posted = y; credits_pending = z; credits_posted = w })
    (record {
      debits_pending = b.debits_pending + dh - dr;
      debits_posted = b.debits_posted + dm;
      credits_pending = b.credits_pending + ch - cr;
      credits_posted = b.credits_posted + cm;
    })
same_changed x y z w dr dh dm cr ch cm b p q r s =
    let debits : x ≡ b.debits_pending + dh - dr = omega arith in
    let credits : z ≡ b.credits_pending + ch - cr = omega arith in
    same_balances _ _ _ _ _ _ _ _ debits q credits s

-- a post neither voids nor expires, so it resolves what it posts
first_alone : (b : Bool) → (b || false || false) ≡ b
first_alone true = refl
first_alone false = refl

-- a post, a void and an expiry in one form: each resolves the transfer whose id it names
resolves_kind : (k : EventKind) (x p : Transfer)
    → (posts k x p || voids k x p || expires k x p) ≡ (settles k && (settled_id k x == p.id))
resolves_kind TwoPhasePosted x p = first_alone (x.pending_id == p.id)
resolves_kind TwoPhaseVoided x p = or_none (x.pending_id == p.id) false refl
resolves_kind k x p = refl

-- the same of an entry, so that its kind needn't be looked at again
pub resolves_is : (e : Entry) (p : Transfer) → resolves p e ≡ (settles e.kind && (settled_id e.kind e.transfer == p.id))
resolves_is e p = resolves_kind e.kind e.transfer p

-- the pending transfer that an entry settles is the one that it names
settled_kind : (k : EventKind) (h : History) (y : Transfer) (x : Entry) → settles k ≡ true
    → stored h (settled_id k y) ≡ Some x → (k ≡ TwoPhaseExpired → y ≡ x.transfer)
    → settled_in k h y ≡ Some x.transfer
settled_kind SinglePhase h y x is named shown = absurd (false≢true is)
settled_kind TwoPhasePending h y x is named shown = absurd (false≢true is)
settled_kind TwoPhasePosted h y x is named shown = ap (option_map (λ (e : Entry). e.transfer)) named
settled_kind TwoPhaseVoided h y x is named shown = ap (option_map (λ (e : Entry). e.transfer)) named
settled_kind TwoPhaseExpired h y x is named shown = ap (λ (p : Transfer). Some p) (shown refl)

-- so what an entry releases is the amount of the pending transfer that it names
pub settled_by_is : (h : History) (e x : Entry) → settles e.kind ≡ true → Settles h e x
    → settled_by h e ≡ Some x.transfer
settled_by_is h e x is of = settled_kind e.kind h e.transfer x is of.named of.shown

-- a single-phase or a pending transfer settles no other transfer
settled_kind_none : (k : EventKind) (h : History) (y : Transfer) → settles k ≡ false → settled_in k h y ≡ None
settled_kind_none SinglePhase h y none = refl
settled_kind_none TwoPhasePending h y none = refl
settled_kind_none k h y none = absurd (false≢true (sym none))

-- so its entry releases nothing
pub settled_by_none : (h : History) (e : Entry) → settles e.kind ≡ false → settled_by h e ≡ None
settled_by_none h e none = settled_kind_none e.kind h e.transfer none

-- an entry that settles a pending transfer holds nothing back itself
pub holds-settles : (k : EventKind) → settles k ≡ true → holds k ≡ false
holds-settles TwoPhasePending is = absurd (false≢true is)
holds-settles k is = refl

-- the entry of a pending transfer stored it, so that it is found by its id
pub stores-holds : (k : EventKind) → holds k ≡ true → stores k ≡ true
stores-holds TwoPhasePending is = refl
stores-holds k is = absurd (false≢true is)

-- the transfers that are resolved right after an entry: those resolved before, and the one that it settles
pub resolved_then : (h : History) (e : Entry) (p : Transfer) → IsUpTo h.last h → h.last < e.timestamp
    → resolved (pushed h e) p e.timestamp
    ≡ (resolved h p h.last || (settles e.kind && (settled_id e.kind e.transfer == p.id)))
resolved_then h e p within after =
    resolved-pushed h e p e.timestamp
    ∙ ap₂ (λ b c. b || c) (resolved_later h p h.last e.timestamp within (omega arith))
    (ap (λ b. b && resolves p e) (le-leb e.timestamp e.timestamp (omega arith)) ∙ resolves_is e p)

-- nothing resolved a transfer whose id is new
module _ (h : History) (p : Transfer) (t : ℕ) (standing : AllByRecursion (Stands h) h.entries)
    (fresh : stored h p.id ≡ None) where
  -- no entry settles a transfer whose id isn't stored yet
  names_other : (x : Entry) (b : Bool) → settles x.kind ≡ b → Stands h x → resolves p x ≡ false
  names_other x false is stands = resolves_is x p ∙ ap (λ b. b && (settled_id x.kind x.transfer == p.id)) is
  names_other x true is stands =
      let named : (y : Entry) × Settles h x y = stands.settling is in
      resolves_is x p ∙ and_right (settles x.kind) (settled_id x.kind x.transfer == p.id)
      (ne_eqb (settled_id x.kind x.transfer) p.id
      (λ same. let none : stored h (settled_id x.kind x.transfer) ≡ None = ap (stored h) same ∙ fresh in
      let some : stored h (settled_id x.kind x.transfer) ≡ Some named.0 = named.1.named in
      let clash : ◌≡◌ {A = Option Entry} None (Some named.0) = sym none ∙ some in
      cc))

  -- so the transfer begins unresolved
  pub resolved_none : resolved h p t ≡ false
  resolved_none = list_any_none (λ x. nat_le x.timestamp t && resolves p x) h.entries
      (AllByRecursion-weaker (Stands h) (λ x. (nat_le x.timestamp t && resolves p x) ≡ false)
      (λ x stands. and_right (nat_le x.timestamp t) (resolves p x) (names_other x (settles x.kind) refl stands))
      h.entries standing)

-- a sum in which the one entry that stored the transfer of an id no longer counts
module _ (id : ℕ) (before now : Entry → ℕ) where
  -- an entry adds what it added before, and that one nothing any more
  abbrev Falls : Entry → Type 0
  Falls y = now y ≡ (if is_stored id y then 0 else before y)

  -- among entries that stored other ids no amount falls out
  none_falls : (ys : List Entry) → AllByRecursion (λ y. is_stored id y ≡ false) ys → AllByRecursion Falls ys
      → sum_by now ys ≡ sum_by before ys
  none_falls ys others falls = sum_by_same now before ys
      (AllByRecursion-weaker (λ y. (is_stored id y ≡ false) × Falls y) (λ y. now y ≡ before y)
      (λ y at. at.1 ∙ ap (λ b. if b then 0 else before y) at.0) ys
      (AllByRecursion-both (λ y. is_stored id y ≡ false) Falls ys others falls))

  -- the first entry is that one, and falls out, or it stays and that one comes later
  first_falls : (b : Bool) (y x : Entry) (ys : List Entry) → is_stored id y ≡ b → AreApart (stored_ids (y ∷ ys))
      → Falls y → AllByRecursion Falls ys
      → (stored_in ys id ≡ Some x → sum_by now ys + before x ≡ sum_by before ys)
      → (if b then Some y else stored_in ys id) ≡ Some x
      → (now y + sum_by now ys) + before x ≡ before y + sum_by before ys
  first_falls true y x ys is apart here falls rest there =
      let same : y ≡ x = cc in
      let both = and_parts (stores y.kind) (y.transfer.id == id) is in
      let others : AllByRecursion (λ z. is_stored id z ≡ false) ys =
      subst (λ n. AllByRecursion (λ z. is_stored n z ≡ false) ys) (eqb-true y.transfer.id id both.1)
      ((apart-cons y ys apart).1 both.0) in
      let gone : now y ≡ 0 = here ∙ ap (λ b. if b then 0 else before y) is in
      let tail : sum_by now ys ≡ sum_by before ys = none_falls ys others falls in
      let held : before x ≡ before y = ap before (sym same) in
      omega arith
  first_falls false y x ys is apart here falls rest there =
      let tail : sum_by now ys + before x ≡ sum_by before ys = rest there in
      let kept : now y ≡ before y = here ∙ ap (λ b. if b then 0 else before y) is in
      omega arith

  -- the sum falls by what that one entry added, which is how a settled transfer leaves a pending sum
  pub one_falls : (ys : List Entry) (x : Entry) → AreApart (stored_ids ys) → stored_in ys id ≡ Some x
      → AllByRecursion Falls ys → sum_by now ys + before x ≡ sum_by before ys
  one_falls [] x apart there falls = cc
  one_falls (y ∷ ys) x apart there falls =
      ap (λ n. n + before x) (sum_by-cons now y ys)
      ∙ (first_falls (is_stored id y) y x ys refl apart falls.0 falls.1
      (λ later. one_falls ys x (apart-cons y ys apart).0 later falls.1) there
      ∙ sym (sum_by-cons before y ys))

-- what an entry holds, once the transfer of an id is resolved too
held_falls : (k : EventKind) (done same : Bool) (n : ℕ)
    → (if holds k && not (done || same) then n else 0)
    ≡ (if stores k && same then 0 else (if holds k && not done then n else 0))
held_falls TwoPhasePending true true n = refl
held_falls TwoPhasePending false true n = refl
held_falls TwoPhaseExpired done same n = refl
held_falls k done true n = refl
held_falls k done same n = refl

-- an entry that holds nothing any more has no share in the sum either
share_falls : (sees gone : Bool) (n : ℕ)
    → (if sees then (if gone then 0 else n) else 0) ≡ (if gone then 0 else (if sees then n else 0))
share_falls true gone n = refl
share_falls false true n = refl
share_falls false false n = refl

-- whether two ids are equal may be asked from either side
eqb_swap : (m n : ℕ) → (m == n) ≡ (n == m)
eqb_swap m n = by (m == n) refl
  where
    by : (b : Bool) → (m == n) ≡ b → (m == n) ≡ (n == m)
    by true is = is ∙ sym (eq-eqb n m (sym (eqb-true m n is)))
    by false is = is ∙ sym (ne_eqb n m (λ same. eqb-false m n is (sym same)))

-- the sums of what is pending on one side of an account, before an entry and right after it
module _ (h : History) (e : Entry) (a : ℕ) (sound : IsSound h) (follows : Follows h e)
    (after : h.last < e.timestamp) where
  -- what an entry adds to the pending sum before the new one
  abbrev before : (Transfer → ℕ) → Entry → ℕ
  before side x = share (held_amount h h.last) side a h.last x

  -- and right after it
  abbrev right_after : (Transfer → ℕ) → Entry → ℕ
  right_after side x = share (held_amount (pushed h e) e.timestamp) side a e.timestamp x

  -- a pending transfer isn't resolved by its own entry
  own_unresolved : holds e.kind ≡ true → resolved (pushed h e) e.transfer e.timestamp ≡ false
  own_unresolved is =
      resolved_then h e e.transfer sound.past after
      ∙ ap₂ (λ b c. b || (c && (settled_id e.kind e.transfer == e.transfer.id)))
      (resolved_none h e.transfer h.last sound.standing (follows.fresh (stores-holds e.kind is)))
      (settles-holds e.kind is)
    where
      settles-holds : (k : EventKind) → holds k ≡ true → settles k ≡ false
      settles-holds TwoPhasePending is = refl
      settles-holds k is = absurd (false≢true is)

  -- it holds back its whole amount if it is pending
  own_held : (b : Bool) → holds e.kind ≡ b
      → (if holds e.kind && not (resolved (pushed h e) e.transfer e.timestamp) then e.transfer.amount else 0)
      ≡ (if holds e.kind then e.transfer.amount else 0)
  own_held true is = ap₂ (λ b c. if b && not c then e.transfer.amount else 0) is (own_unresolved is)
      ∙ sym (ap (λ b. if b then e.transfer.amount else 0) is)
  own_held false is = ap (λ b. if b && not (resolved (pushed h e) e.transfer e.timestamp) then e.transfer.amount else 0)
      is ∙ sym (ap (λ b. if b then e.transfer.amount else 0) is)

  -- so its share is the held amount of the effect
  own : (side : Transfer → ℕ) → right_after side e ≡ part (side e.transfer) a (effect_of h e).held
  own side = ap₂ (λ b n. if b && (side e.transfer == a) then n else 0) (le-leb e.timestamp e.timestamp (omega arith))
      (own_held (holds e.kind) refl)

  -- the pending sum right after it is that of the old entries and this share
  then_sum : (side : Transfer → ℕ)
      → sum_by (right_after side) (h.entries ++ e ∷ []) ≡ sum_by (right_after side) h.entries + part (side e.transfer) a
      (effect_of h e).held
  then_sum side = sum_by_push (right_after side) h.entries e
      ∙ ap (λ n. sum_by (right_after side) h.entries + n) (own side)

  -- if it settles nothing, all others hold what they held
  unchanged : settles e.kind ≡ false → (side : Transfer → ℕ)
      → sum_by (right_after side) h.entries ≡ sum_by (before side) h.entries
  unchanged none side =
      share_same (held_amount (pushed h e) e.timestamp) (held_amount h h.last) side a h.last e.timestamp h.entries
      (AllByRecursion-weaker (λ x. x.timestamp ≤ h.last)
      (λ x. (held_amount (pushed h e) e.timestamp x ≡ held_amount h h.last x) ×
      (nat_le x.timestamp e.timestamp ≡ nat_le x.timestamp h.last))
      (λ x at. (
        ap (λ b. held_by b x)
            (resolved_then h e x.transfer sound.past after
            ∙ ap (λ b. resolved h x.transfer h.last || (b && (settled_id e.kind e.transfer == x.transfer.id))) none
            ∙ or_none (resolved h x.transfer h.last) false refl),
        seen_alike x h.last e.timestamp at (omega arith),
      ))
      h.entries sound.past)

  -- if it settles a transfer, that transfer no longer holds anything
  falls_one : settles e.kind ≡ true → (side : Transfer → ℕ) (x : Entry) → x.timestamp ≤ h.last
      → Falls (settled_id e.kind e.transfer) (before side) (right_after side) x
  falls_one is side x at =
      let sees : nat_le x.timestamp e.timestamp ≡ nat_le x.timestamp h.last =
      seen_alike x h.last e.timestamp at (omega arith) in
      let done : resolved (pushed h e) x.transfer e.timestamp
      ≡ (resolved h x.transfer h.last || (x.transfer.id == settled_id e.kind e.transfer)) =
      resolved_then h e x.transfer sound.past after
      ∙ ap₂ (λ b c. resolved h x.transfer h.last || (b && c)) is
      (eqb_swap (settled_id e.kind e.transfer) x.transfer.id) in
      ap₂ (λ b c. if b && (side x.transfer == a) then held_by c x else 0) sees done
      ∙ (ap (λ n. if nat_le x.timestamp h.last && (side x.transfer == a) then n else 0)
      (held_falls x.kind (resolved h x.transfer h.last)
      (x.transfer.id == settled_id e.kind e.transfer) x.transfer.amount)
      ∙ share_falls (nat_le x.timestamp h.last && (side x.transfer == a)) (is_stored (settled_id e.kind e.transfer) x)
      (held_amount h h.last x))

  -- what the settled transfer added before is its whole amount, on its own side
  released_one : (side : Transfer → ℕ) (x : Entry) → stored h (settled_id e.kind e.transfer) ≡ Some x
      → holds x.kind ≡ true → resolved h x.transfer h.last ≡ false
      → before side x ≡ part (side x.transfer) a x.transfer.amount
  released_one side x named is unsettled =
      ap₂ (λ b c. if b && (side x.transfer == a) then c else 0)
      (le-leb x.timestamp h.last
      (stored_has (λ y. y.timestamp ≤ h.last) h (settled_id e.kind e.transfer) x sound.past named))
      (ap₂ (λ b c. if b && not c then x.transfer.amount else 0) is unsettled)

  -- so the sum of the old entries falls by the released amount of the effect
  pub settled_sum : (side : Transfer → ℕ) → settles e.kind ≡ true → (x : Entry) → Settles h e x
      → resolved h x.transfer h.last ≡ false → side e.transfer ≡ side x.transfer
      → sum_by (right_after side) h.entries + part (side e.transfer) a (effect_of h e).released
      ≡ sum_by (before side) h.entries
  settled_sum side is x of unsettled sides =
      let amount : (effect_of h e).released ≡ x.transfer.amount = ap amount_of (settled_by_is h e x is of) in
      let taken : part (side e.transfer) a (effect_of h e).released ≡ before side x =
      ap₂ (λ s n. part s a n) sides amount ∙ sym (released_one side x of.named of.pending unsettled) in
      ap (λ n. sum_by (right_after side) h.entries + n) taken
      ∙ one_falls (settled_id e.kind e.transfer) (before side) (right_after side) h.entries x sound.once of.named
      (AllByRecursion-weaker (λ y. y.timestamp ≤ h.last)
      (Falls (settled_id e.kind e.transfer) (before side) (right_after side)) (falls_one is side) h.entries sound.past)

  -- if nothing is released, the sums of an account don't fall, whether the entry names it or not
  nothing : (b : Bool) → ◌≡◌ {A = ℕ} (if b then 0 else 0) 0
  nothing true = refl
  nothing false = refl

  -- what leaves was there
  abbrev Fits : (Transfer → ℕ) → Type 0
  Fits side =
      (sum_by (right_after side) h.entries + part (side e.transfer) a (effect_of h e).released
      ≡ sum_by (before side) h.entries)

  -- on both sides, whether the entry settles a transfer or not
  taken_out : (b : Bool) → settles e.kind ≡ b → Fits debit_side × Fits credit_side
  taken_out true is =
      let of : SettlesOpen h e = follows.settling is in (
        settled_sum debit_side is of.pending of.settles of.unsettled of.settles.debit,
        settled_sum credit_side is of.pending of.settles of.unsettled of.settles.credit,
      )
  taken_out false is =
      let none : (effect_of h e).released ≡ 0 = ap amount_of (settled_by_none h e is) in
      (nothing_out debit_side none, nothing_out credit_side none)
    where
      nothing_out : (side : Transfer → ℕ) → (effect_of h e).released ≡ 0 → Fits side
      nothing_out side none =
          let zero_out : part (side e.transfer) a (effect_of h e).released ≡ 0 = ap (part (side e.transfer) a) none
          ∙ nothing (side e.transfer == a) in
          let same : sum_by (right_after side) h.entries ≡ sum_by (before side) h.entries = unchanged is side in
          omega arith

  -- the pending sum grows by what is held, and falls by what is released
  pub pending_then : (side : Transfer → ℕ) → Fits side
      → sum_by (right_after side) (h.entries ++ e ∷ []) + part (side e.transfer) a (effect_of h e).released
      ≡ sum_by (before side) h.entries + part (side e.transfer) a (effect_of h e).held
  pending_then side fits =
      let all = then_sum side in
      omega arith

  -- the posted sum grows by what is moved
  moved_then : (side : Transfer → ℕ)
      → sum_by (share moved_amount side a e.timestamp) (h.entries ++ e ∷ [])
      ≡ sum_by (share moved_amount side a h.last) h.entries + part (side e.transfer) a (effect_of h e).moved
  moved_then side = sum_by_push (share moved_amount side a e.timestamp) h.entries e
      ∙ ap₂ (λ m n. m + n) (moved_agree h a h.last e.timestamp sound.past (omega arith) side)
      (ap (λ b. if b && (side e.transfer == a) then moved_amount e else 0)
      (le-leb e.timestamp e.timestamp (omega arith)))

  -- the balances right after an entry of any kind
  pub balances-pushed : balances (pushed h e) a e.timestamp ≡ balances_after_entry h e a (balances h a h.last)
  balances-pushed =
      let both : Fits debit_side × Fits credit_side = taken_out (settles e.kind) refl in
      same_changed _ _ _ _ _ _ _ _ _ _ (balances h a h.last) (pending_then debit_side both.0) (moved_then debit_side)
      (pending_then credit_side both.1) (moved_then credit_side)

  -- what leaves the pending sums was in them
  pub released_fits :
      (part e.transfer.debit_account_id a (effect_of h e).released ≤ (balances h a h.last).debits_pending)
      × (part e.transfer.credit_account_id a (effect_of h e).released ≤ (balances h a h.last).credits_pending)
  released_fits =
      let both : Fits debit_side × Fits credit_side = taken_out (settles e.kind) refl in
      (omega (arith, both.0), omega (arith, both.1))

-- what leaves the pending sums of the two accounts
pub released_debit : (h : History) (e : Entry) → IsSound h → Follows h e → h.last < e.timestamp
    → (effect_of h e).released ≤ (balances h e.transfer.debit_account_id h.last).debits_pending
released_debit h e sound follows after =
    subst (λ b. (if b then (effect_of h e).released else 0)
    ≤ (balances h e.transfer.debit_account_id h.last).debits_pending)
    (eq-eqb e.transfer.debit_account_id e.transfer.debit_account_id refl)
    (released_fits h e e.transfer.debit_account_id sound follows after).0

-- the same of the account that is credited
pub released_credit : (h : History) (e : Entry) → IsSound h → Follows h e → h.last < e.timestamp
    → (effect_of h e).released ≤ (balances h e.transfer.credit_account_id h.last).credits_pending
released_credit h e sound follows after =
    subst (λ b. (if b then (effect_of h e).released else 0)
    ≤ (balances h e.transfer.credit_account_id h.last).credits_pending)
    (eq-eqb e.transfer.credit_account_id e.transfer.credit_account_id refl)
    (released_fits h e e.transfer.credit_account_id sound follows after).1

-- an account that isn't opened is named by no entry
module _ (h : History) (a t : ℕ) (known : AllByRecursion (HasAccounts h) h.entries) (free : opened h a ≡ None) where
  -- no entry names the account, since the accounts of entries were opened
  other : (id : ℕ) → IsSome (opened h id) → (id == a) ≡ false
  other id some =
      ne_eqb id a (λ same. false≢true (sym (ap is_some free) ∙ (sym (ap (λ n. is_some (opened h n)) same) ∙ some)))

  -- so nothing is held or moved on either side of it
  none_of : (f : Entry → ℕ) (side : Transfer → ℕ)
      → ((e : Entry) → HasAccounts h e → IsSome (opened h (side e.transfer))) → sum_by (share f side a t) h.entries ≡ 0
  none_of f side there = sum_by_zero (share f side a t) h.entries
      (AllByRecursion-weaker (HasAccounts h) (λ e. share f side a t e ≡ 0)
      (λ e has. ap (λ b. if b then f e else 0)
      (and_right (nat_le e.timestamp t) (side e.transfer == a) (other (side e.transfer) (there e has)))) h.entries
      known)

  -- a new account begins without any amount
  pub balances_none : balances h a t ≡ no_balances
  balances_none = same_balances _ _ _ _ _ _ _ _ (none_of (held_amount h t) debit_side (λ e has. has.0))
      (none_of moved_amount debit_side (λ e has. has.0))
      (none_of (held_amount h t) credit_side (λ e has. has.1)) (none_of moved_amount credit_side (λ e has. has.1))
