-- The order in which pending transfers expire: a pulse lets them expire in the order of their expiry times, and none is
-- left after it whose time was up.
use Rattle.std.proofs.Common.{ℕ, ◌+◌, ◌<◌, ◌≤◌, Bool, true, false, List, [], ◌∷◌, ◌++◌, ◌≡◌, Option, Some, None, map, refl, sym, ap, ◌∙◌, subst, arith, ◌==◌, ◌&&◌, ◌||◌, nat_le, nat_lt, filter, if◌then◌else◌, IfSome}
use Rattle.cdc_audit_laws.proofs.OfStd.{AllByRecursion, list_any, and_from, and_parts, eq-eqb, eqb-true, false≢true, not-true, not_from_false, or_from, or_left, or_parts, or_right, nat_tests}
use Rattle.cdc_audit_laws.proofs.OfTypes.{Entry, Transfer}
use Rattle.cdc_audit_laws.proofs.OfLedger.{resolved, expiry, pushed, due, in_order_of_end, insert_by_end, is_due, is_sooner, expires_at, stored, History, holds, stores, IsSound, resolved_later, resolved_then, stores-holds, All-in_order, All-insert_by_end, is_sooner-once, AllByRecursion-both, AllByRecursion-every, AllByRecursion-weaker, AllByRecursion_push, IsOpen, stored_each}

-- ---- the order

-- q doesn't expire sooner than p
abbrev pub IsNoSooner : Transfer → Transfer → Type 0
IsNoSooner p q = is_sooner q p ≡ false

-- each of these transfers expires no sooner than those before it
abbrev pub AreInOrder : List Transfer → Type 0
AreInOrder [] = Unit {0}
AreInOrder (p ∷ ps) = AllByRecursion (IsNoSooner p) ps × AreInOrder ps

-- of three pairs of numbers, if the second isn't before the first, nor the third before the second, the third isn't
-- before the first
no_sooner_pairs : (a b c s t u : ℕ) → (nat_lt b a || ((b == a) && nat_lt t s)) ≡ false
    → (nat_lt c b || ((c == b) && nat_lt u t)) ≡ false → (nat_lt c a || ((c == a) && nat_lt u s)) ≡ false
no_sooner_pairs a b c s t u one other = grind (arith, nat_tests)

no_sooner_then : (p q r : Transfer) → IsNoSooner p q → IsNoSooner q r → IsNoSooner p r
no_sooner_then p q r = no_sooner_pairs (expires_at p) (expires_at q) (expires_at r) p.timestamp q.timestamp r.timestamp

-- a pair whose first number is greater isn't before the other one
later_pair : (a b s t : ℕ) → a < b → (nat_lt b a || ((b == a) && nat_lt t s)) ≡ false
later_pair a b s t later = grind (arith, nat_tests, later)

placed_in_order : (p : Transfer) (qs : List Transfer) → AreInOrder qs → AreInOrder (insert_by_end p qs)
placed_in_order p [] in_order = (tt, tt)
placed_in_order p (q ∷ qs) in_order = either (is_sooner q p) refl (placed_in_order p qs in_order.1)
  where
    either : (b : Bool) → is_sooner q p ≡ b → AreInOrder (insert_by_end p qs)
        → AreInOrder (if b then q ∷ insert_by_end p qs else p ∷ q ∷ qs)
    either true is more = (All-insert_by_end (IsNoSooner q) p qs (is_sooner-once q p is) in_order.0, more)
    either false is more = (
      (is, AllByRecursion-weaker _ _ (λ r. no_sooner_then p q r is) qs in_order.0),
      in_order,
    )

all_in_order : (ps : List Transfer) → AreInOrder (in_order_of_end ps)
all_in_order [] = tt
all_in_order (p ∷ ps) = placed_in_order p (in_order_of_end ps) (all_in_order ps)

-- ---- which transfers are due

-- one of these transfers has this id
abbrev pub has_id : ℕ → List Transfer → Bool
has_id id = list_any (λ p. p.id == id)

placed_has : (id : ℕ) (p : Transfer) (qs : List Transfer) → ((p.id == id) || has_id id qs) ≡ true
    → has_id id (insert_by_end p qs) ≡ true
placed_has id p [] has = has
placed_has id p (q ∷ qs) has = either (is_sooner q p) (placed_has id p qs)
  where
    apart : (a b c d : Bool) → (a || (b || c)) ≡ true → ((a || c) ≡ true → d ≡ true) → (b || d) ≡ true
    apart a b c d is more = grind arith

    either : (b : Bool) → (((p.id == id) || has_id id qs) ≡ true → has_id id (insert_by_end p qs) ≡ true)
        → has_id id (if b then q ∷ insert_by_end p qs else p ∷ q ∷ qs) ≡ true
    either true more = apart (p.id == id) (q.id == id) (has_id id qs) (has_id id (insert_by_end p qs)) has more
    either false more = has

in_order_has : (id : ℕ) (ps : List Transfer) → has_id id ps ≡ true → has_id id (in_order_of_end ps) ≡ true
in_order_has id [] has = has
in_order_has id (p ∷ ps) has =
    placed_has id p (in_order_of_end ps) (by (p.id == id) (has_id id ps) has (in_order_has id ps))
  where
    by : (a b : Bool) → (a || b) ≡ true → (b ≡ true → has_id id (in_order_of_end ps) ≡ true)
        → (a || has_id id (in_order_of_end ps)) ≡ true
    by true b is more = refl
    by false b is more = more is

-- each entry that passes a test has its id among those that pass
passing_has : (test : Entry → Bool) (es : List Entry)
    → AllByRecursion (λ y. test y ≡ true → has_id y.transfer.id (map (λ e. e.transfer) (filter test es)) ≡ true) es
passing_has test [] = tt
passing_has test (e ∷ es) = by (test e) refl (passing_has test es)
  where
    by : (b : Bool) → test e ≡ b
        → AllByRecursion (λ y. test y ≡ true → has_id y.transfer.id (map (λ x. x.transfer) (filter test es)) ≡ true) es
        → AllByRecursion
        (λ y. test y ≡ true
        → has_id y.transfer.id (map (λ x. x.transfer) (if b then e ∷ filter test es else filter test es)) ≡ true)
        (e ∷ es)
    by true is more = (
      λ passes. or_left (e.transfer.id == e.transfer.id) _ (eq-eqb e.transfer.id e.transfer.id refl),
      AllByRecursion-weaker _ _ (λ y has passes. or_right (e.transfer.id == y.transfer.id) _ (has passes)) es more,
    )
    by false is more = (λ passes. absurd (false≢true (sym is ∙ passes)), more)

-- what holds of each entry that passes holds of the transfers of those that pass
pub passing_each : (test : Entry → Bool) (P : Transfer → Type 0) (es : List Entry)
    → AllByRecursion (λ e. test e ≡ true → P e.transfer) es
    → AllByRecursion P (map (λ e. e.transfer) (filter test es))
passing_each test P [] all = tt
passing_each test P (e ∷ es) all = by (test e) refl (passing_each test P es all.1)
  where
    by : (b : Bool) → test e ≡ b → AllByRecursion P (map (λ x. x.transfer) (filter test es))
        → AllByRecursion P (map (λ x. x.transfer) (if b then e ∷ filter test es else filter test es))
    by true passes more = (all.0 passes, more)
    by false passes more = more

-- ---- what is left

-- an open pending transfer with a timeout that isn't one of these expires after this time
abbrev pub ExpiresAfter : History → ℕ → List Transfer → Entry → Type 0
ExpiresAfter h now ps y =
    holds y.kind ≡ true → (y.transfer.timeout == 0) ≡ false → resolved h y.transfer h.last ≡ false
    → has_id y.transfer.id ps ≡ false → now < expires_at y.transfer

-- each pending transfer that is left after a pulse expires later
due_after : (h : History) (now : ℕ) → AllByRecursion (ExpiresAfter h now (due h now)) h.entries
due_after h now =
    AllByRecursion-weaker _ _ (λ y has holding timed unsettled away.
    by y has holding timed unsettled away (nat_le (expires_at y.transfer) now) refl)
    h.entries (passing_has (is_due h now) h.entries)
  where
    by : (y : Entry)
        → (is_due h now y ≡ true
        → has_id y.transfer.id (map (λ e. e.transfer) (filter (is_due h now) h.entries)) ≡ true)
        → holds y.kind ≡ true → (y.transfer.timeout == 0) ≡ false → resolved h y.transfer h.last ≡ false
        → has_id y.transfer.id (due h now) ≡ false
        → (b : Bool) → nat_le (expires_at y.transfer) now ≡ b → now < expires_at y.transfer
    by y has holding timed unsettled away true is =
        let there : has_id y.transfer.id (map (λ e. e.transfer) (filter (is_due h now) h.entries)) ≡ true =
        has (and_from _ _ (and_from _ _ (and_from _ _ holding (not_from_false _ timed)) is)
        (not_from_false _ unsettled)) in
        absurd (false≢true (sym away ∙ in_order_has y.transfer.id _ there))
    by y has holding timed unsettled away false is = grind (arith, nat_tests)

-- the last expiry of these entries; this value if there is none
abbrev pub expiry_from : Option Entry → List Entry → Option Entry
expiry_from last [] = last
expiry_from last (e ∷ es) = expiry_from (if stores e.kind then last else Some e) es

abbrev pub last_expiry : History → Option Entry
last_expiry h = expiry_from None h.entries

expiry_from-push : (last : Option Entry) (es : List Entry) (e : Entry)
    → expiry_from last (es ++ e ∷ []) ≡ (if stores e.kind then expiry_from last es else Some e)
expiry_from-push last [] e = refl
expiry_from-push last (x ∷ es) e = expiry_from-push (if stores x.kind then last else Some x) es e

-- the time of the last expiry's transfer is past, and each open one that isn't one of these expires after that time
pub record IsClear (h : History) (ps : List Transfer) (x : Entry) : Type 0 where
  pub past : expires_at x.transfer ≤ h.last
  pub others : AllByRecursion (ExpiresAfter h (expires_at x.transfer) ps) h.entries

-- no open pending transfer but these was left behind by an expiry
abbrev pub Clear : History → List Transfer → Type 0
Clear h ps = IfSome (last_expiry h) (IsClear h ps)

-- a transfer that expires at the timestamp t comes after the last expiry; right after it if both have one expiry time
abbrev pub ComesAfter : Option Entry → Transfer → ℕ → Type 0
ComesAfter last p t = IfSome last
    (λ x. IsNoSooner x.transfer p × (expires_at x.transfer ≡ expires_at p → t ≡ x.timestamp + 1))

-- time that passes leaves nothing behind
pub clear_later : (h g : History) (ps : List Transfer) → IsSound h → g.entries ≡ h.entries → h.last ≤ g.last
    → Clear h ps → Clear g ps
clear_later h g ps sound same later clear =
    subst (λ es. IfSome (expiry_from None es) (IsClear g ps)) (sym same) (by (last_expiry h) clear)
  where
    same_resolved : (y : Entry) → resolved g y.transfer g.last ≡ resolved h y.transfer h.last
    same_resolved y =
        ap (λ es. resolved (record h { entries = es }) y.transfer g.last) same
        ∙ resolved_later h y.transfer h.last g.last sound.past later

    by : (o : Option Entry) → IfSome o (IsClear h ps) → IfSome o (IsClear g ps)
    by None is = tt
    by (Some x) is = record {
      past = let before = is.past in omega arith;
      others = subst (AllByRecursion (ExpiresAfter g (expires_at x.transfer) ps)) (sym same) (AllByRecursion-weaker _ _
          (λ y after holding timed unsettled. after holding timed (sym (same_resolved y) ∙ unsettled)) h.entries
          is.others);
    }

-- an entry that stores a transfer leaves nothing behind: if that one is pending it expires later
pub clear-stored : (h : History) (e : Entry) → IsSound h → h.last < e.timestamp → stores e.kind ≡ true
    → e.timestamp ≤ expires_at e.transfer → Clear h [] → Clear (pushed h e) []
clear-stored h e sound after storing timely clear =
    subst (λ o. IfSome o (IsClear (pushed h e) []))
    (sym (expiry_from-push None h.entries e ∙ ap (λ b. if b then last_expiry h else Some e) storing))
    (by (last_expiry h) clear)
  where
    by : (o : Option Entry) → IfSome o (IsClear h []) → IfSome o (IsClear (pushed h e) [])
    by None is = tt
    by (Some x) is = record {
      past = let before = is.past in omega arith;
      others =
          AllByRecursion_push _ h.entries e (AllByRecursion-weaker _ _
          (λ y after_it holding timed unsettled. after_it holding timed
          (or_parts _ _ (sym (resolved_then h e y.transfer sound.past after) ∙ unsettled)).0) h.entries is.others)
          (λ holding timed unsettled away. let before = is.past in omega arith);
    }

-- ---- a pulse

-- the first of these may expire at the timestamp t
abbrev pub FirstComesAfter : Option Entry → List Transfer → ℕ → Type 0
FirstComesAfter last [] t = Unit {0}
FirstComesAfter last (p ∷ ps) t = ComesAfter last p t

-- within a pulse these transfers are left to expire, from the timestamp t on
pub record IsPulsing (h : History) (now t : ℕ) (ps : List Transfer) : Type 0 where
  pub in_order : AreInOrder ps
  pub ended : AllByRecursion (λ p. expires_at p ≤ now) ps
  pub first : FirstComesAfter (last_expiry h) ps t
  pub clear : Clear h ps
  pub rest : AllByRecursion (ExpiresAfter h now ps) h.entries

-- a pulse begins
pub pulsing-due : (h : History) (now t : ℕ) → Clear h [] → AllByRecursion (λ p. expires_at p ≤ now) (due h now)
    → IsPulsing h now t (due h now)
pulsing-due h now t clear ended = record {
  in_order = all_in_order (map (λ e. e.transfer) (filter (is_due h now) h.entries));
  ended = ended;
  first = by (last_expiry h) clear;
  clear = less (last_expiry h) clear;
  rest = due_after h now;
}
  where
    less : (o : Option Entry) → IfSome o (IsClear h []) → IfSome o (IsClear h (due h now))
    less None is = tt
    less (Some x) is = record {
      past = is.past;
      others = AllByRecursion-weaker _ _
          (λ y after holding timed unsettled away. after holding timed unsettled refl) h.entries is.others;
    }

    later_each : (x : Entry) → IsClear h [] x → AllByRecursion (λ p. expires_at x.transfer < expires_at p) (due h now)
    later_each x is =
        All-in_order (λ p. expires_at x.transfer < expires_at p)
        (map (λ e. e.transfer) (filter (is_due h now) h.entries))
        (passing_each _ _ _ (AllByRecursion-weaker _ _ (λ y after passes.
        let last = and_parts _ _ passes in
        let up = and_parts _ _ last.0 in
        let timed = and_parts _ _ up.0 in
        after timed.0 (not-true _ timed.1) (not-true _ last.1) refl) h.entries is.others))

    head : (x : Entry) (ps : List Transfer) → AllByRecursion (λ p. expires_at x.transfer < expires_at p) ps
        → FirstComesAfter (Some x) ps t
    head x ps all = grind arith

    by : (o : Option Entry) → IfSome o (IsClear h []) → FirstComesAfter o (due h now) t
    by None is = none_first (due h now)
      where
        none_first : (ps : List Transfer) → FirstComesAfter None ps t
        none_first [] = tt
        none_first (p ∷ ps) = tt
    by (Some x) is = head x (due h now) (later_each x is)

-- and goes on: the first one expires
pub pulsing-next : (h : History) (now t : ℕ) (p : Transfer) (ps : List Transfer) → IsSound h → h.last < t
    → expires_at p ≤ t → IsPulsing h now t (p ∷ ps) → IsPulsing (pushed h (expiry p t)) now (t + 1) ps
pulsing-next h now t p ps sound after up pulsing = record {
  in_order = pulsing.in_order.1;
  ended = pulsing.ended.1;
  first = subst (λ o. FirstComesAfter o ps (t + 1)) (sym last_is) (next ps pulsing.in_order.0);
  clear = subst (λ o. IfSome o (IsClear (pushed h (expiry p t)) ps)) (sym last_is) (record {
    past = up;
    others = AllByRecursion-weaker _ _ (λ y later holding timed unsettled away.
        let end = later holding timed unsettled away in
        let within = pulsing.ended.0 in omega arith) (h.entries ++ expiry p t ∷ []) rest;
  });
  rest = rest;
}
  where
    last_is : last_expiry (pushed h (expiry p t)) ≡ Some (expiry p t)
    last_is = expiry_from-push None h.entries (expiry p t)

    next : (qs : List Transfer) → AllByRecursion (IsNoSooner p) qs → FirstComesAfter (Some (expiry p t)) qs (t + 1)
    next [] all = tt
    next (q ∷ qs) all = (all.0, λ same. refl)

    rest : AllByRecursion (ExpiresAfter (pushed h (expiry p t)) now ps) (h.entries ++ expiry p t ∷ [])
    rest =
        AllByRecursion_push _ h.entries (expiry p t) (AllByRecursion-weaker _ _ (λ y later holding timed unsettled away.
        let parts = or_parts _ _ (sym (resolved_then h (expiry p t) y.transfer sound.past after) ∙ unsettled) in
        later holding timed parts.0 (or_from _ _ parts.1 away)) h.entries pulsing.rest)
        (λ holding. absurd (false≢true holding))

-- ---- whose turn it is

-- an open pending transfer with a timeout lets this entry come next, after this last expiry: an expiry is of none that
-- expires later; and if the last expiry is of the same time, the entry is an expiry, right after it
abbrev pub LetsPass : Option Entry → History → Entry → Entry → Type 0
LetsPass last h e y =
    holds y.kind ≡ true → (y.transfer.timeout == 0) ≡ false → resolved h y.transfer h.last ≡ false
    → (stores e.kind ≡ false → IsNoSooner e.transfer y.transfer)
    × IfSome last (λ x. expires_at y.transfer ≡ expires_at x.transfer
    → (stores e.kind ≡ false) × (e.timestamp ≡ x.timestamp + 1))

-- each open pending transfer lets the entry come next
abbrev pub IsInTurn : History → Entry → Type 0
IsInTurn h e = AllByRecursion (LetsPass (last_expiry h) h e) h.entries

-- an entry that stores a transfer may come outside a pulse
pub in_turn-stored : (h : History) (e : Entry) → stores e.kind ≡ true → Clear h [] → IsInTurn h e
in_turn-stored h e storing clear = by (last_expiry h) clear
  where
    by : (o : Option Entry) → IfSome o (IsClear h []) → AllByRecursion (LetsPass o h e) h.entries
    by None is =
        AllByRecursion-every _
        (λ y holding timed unsettled. (λ no. absurd (false≢true (sym no ∙ storing)), tt)) h.entries
    by (Some x) is =
        AllByRecursion-weaker _ _ (λ y after holding timed unsettled.
        let later = after holding timed unsettled refl in (
          λ no. absurd (false≢true (sym no ∙ storing)),
          λ same. absurd (omega arith),
        )) h.entries is.others

-- one of these transfers has this id
one_of : (P : Transfer → Type 0) (id : ℕ) (ps : List Transfer) → AllByRecursion P ps → has_id id ps ≡ true
    → (q : Transfer) × (q.id ≡ id) × P q
one_of P id [] all has = cc
one_of P id (p ∷ ps) all has = by (p.id == id) refl has (one_of P id ps all.1)
  where
    by : (b : Bool) → (p.id == id) ≡ b → (b || has_id id ps) ≡ true
        → (has_id id ps ≡ true → (q : Transfer) × (q.id ≡ id) × P q) → (q : Transfer) × (q.id ≡ id) × P q
    by true is has more = (p, eqb-true p.id id is, all.0)
    by false is has more = more has

-- nothing expires sooner than itself
no_sooner_self : (a s : ℕ) → (nat_lt a a || ((a == a) && nat_lt s s)) ≡ false
no_sooner_self a s = grind (arith, nat_tests)

-- the transfer of an open one that is stored under the id of one of an entry is that entry's
open_one : (h : History) (q : Transfer) (y : Entry) → IsOpen h q → stored h y.transfer.id ≡ Some y
    → q.id ≡ y.transfer.id → q ≡ y.transfer
open_one h q y is found same = grind arith

-- within a pulse the first one expires
pub in_turn-expiry : (h : History) (now t : ℕ) (p : Transfer) (ps : List Transfer) → IsSound h
    → AllByRecursion (IsOpen h) (p ∷ ps) → IsPulsing h now t (p ∷ ps) → IsInTurn h (expiry p t)
in_turn-expiry h now t p ps sound opened pulsing = by (last_expiry h) pulsing.first
  where
    all : AllByRecursion (λ q. IsOpen h q × IsNoSooner p q) (p ∷ ps)
    all = AllByRecursion-both _ _ (p ∷ ps) opened (no_sooner_self (expires_at p) p.timestamp, pulsing.in_order.0)

    first : (y : Entry) → (stores y.kind ≡ true → stored h y.transfer.id ≡ Some y) → ExpiresAfter h now (p ∷ ps) y
        → holds y.kind ≡ true → (y.transfer.timeout == 0) ≡ false → resolved h y.transfer h.last ≡ false
        → (b : Bool) → has_id y.transfer.id (p ∷ ps) ≡ b → IsNoSooner p y.transfer
    first y found after holding timed unsettled true has =
        let it = one_of (λ q. IsOpen h q × IsNoSooner p q) y.transfer.id (p ∷ ps) all has in
        subst (IsNoSooner p) (open_one h it.0 y it.2.0 (found (stores-holds y.kind holding)) it.1) it.2.1
    first y found after holding timed unsettled false has =
        let later = after holding timed unsettled has in
        let within = pulsing.ended.0 in
        later_pair (expires_at p) (expires_at y.transfer) p.timestamp y.transfer.timestamp (omega arith)

    next : (o : Option Entry) → ComesAfter o p t → (y : Entry) → IsNoSooner p y.transfer
        → IfSome o (λ x. expires_at y.transfer ≡ expires_at x.transfer → (false ≡ false) × (t ≡ x.timestamp + 1))
    next o comes y sooner = grind arith

    by : (o : Option Entry) → ComesAfter o p t → AllByRecursion (LetsPass o h (expiry p t)) h.entries
    by o comes =
        AllByRecursion-weaker _ _ (λ y at holding timed unsettled.
        let no_sooner = first y at.0 at.1 holding timed unsettled (has_id y.transfer.id (p ∷ ps)) refl in
        (λ expiring. no_sooner, next o comes y no_sooner)) h.entries
        (AllByRecursion-both _ _ h.entries (stored_each h sound.once) pulsing.rest)
