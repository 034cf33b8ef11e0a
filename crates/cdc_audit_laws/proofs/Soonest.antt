-- Of open pending transfers the one that expires first: none is sooner, and an expiry that follows is its expiry.
use Rattle.std.proofs.Common.{◌≡◌, ℕ, ◌≤◌, Bool, true, false, List, [], ◌∷◌, ◌++◌, Option, Some, None, map, refl, sym, ap, ◌∙◌, if◌then◌else◌, arith, ◌==◌, ◌&&◌, ◌||◌, not, nat_lt, filter, IsSomeAnd}
use Rattle.cdc_audit_laws.proofs.OfStd.{AllByRecursion, and_from, and_parts, false≢true, not-true, not_from_false, or_parts, nat_tests, list_any-append}
use Rattle.cdc_audit_laws.proofs.OfTypes.{Entry, Event, EventKind}
use Rattle.cdc_audit_laws.proofs.OfLedger.{resolved, event_of, events, History, holds, settles, stores, IsSound, AllByRecursion-weaker, AllByRecursion_push}
use Rattle.cdc_audit_laws.proofs.OfAudit.{can_expire, expiry_lines, first_due, first_of, goes_first, is_sooner, sooner_of, last_expiry, settled_id, expires_at}
use Rattle.cdc_audit_laws.proofs.Entries.{unsettled}
use Rattle.cdc_audit_laws.proofs.Following.{CanFollow, NoneApplies}

-- ---- the order

-- a pair comes before another one
abbrev is_before : ℕ → ℕ → ℕ → ℕ → Bool
is_before a s b t = nat_lt a b || ((a == b) && nat_lt s t)

not_itself : (a s : ℕ) → is_before a s a s ≡ false
not_itself a s = grind (arith, nat_tests)

-- if a pair with a number comes before another one, or is that one, that one doesn't come before it
not_both : (a s i b t j : ℕ) → (is_before a s b t || (not (is_before b t a s) && nat_lt i j)) ≡ true
    → is_before b t a s ≡ false
not_both a s i b t j is = grind (arith, nat_tests)

-- a pair that doesn't come before another one has no lesser number
no_less : (a s b t : ℕ) → is_before a s b t ≡ false → b ≤ a
no_less a s b t not_before = grind (arith, nat_tests)

-- so a transfer that isn't sooner than another one expires at no earlier time
pub no_earlier : (e f : Event) → is_sooner e.transfer f.transfer ≡ false
    → expires_at f.transfer ≤ expires_at e.transfer
no_earlier e f =
    no_less (expires_at e.transfer) e.transfer.timestamp (expires_at f.transfer) f.transfer.timestamp

sooner_then : (e f g : Event) → is_sooner e.transfer f.transfer ≡ false → is_sooner f.transfer g.transfer ≡ false
    → is_sooner e.transfer g.transfer ≡ false
sooner_then e f g = grind arith

-- ---- the first of some events

-- no event is sooner than the first one
none_before : (es : List Event)
    → AllByRecursion (λ x. IsSomeAnd (first_of es) (λ f. is_sooner x.transfer f.transfer ≡ false)) es
none_before [] = tt
none_before (e ∷ es) = (
  own (first_of es),
  AllByRecursion-weaker _ _ (λ x. others (first_of es) x) es (none_before es),
)
  where
    own_with : (f : Event) (b : Bool) → goes_first f e ≡ b
        → is_sooner e.transfer (if b then f else e).transfer ≡ false
    own_with f true is =
        not_both (expires_at f.transfer) f.transfer.timestamp f.transfer.id (expires_at e.transfer)
        e.transfer.timestamp e.transfer.id is
    own_with f false is = not_itself (expires_at e.transfer) e.transfer.timestamp

    own : (o : Option Event) → is_sooner e.transfer (sooner_of e o).transfer ≡ false
    own None = not_itself (expires_at e.transfer) e.transfer.timestamp
    own (Some f) = own_with f (goes_first f e) refl

    others_with : (f x : Event) (b : Bool) → goes_first f e ≡ b → is_sooner x.transfer f.transfer ≡ false
        → is_sooner x.transfer (if b then f else e).transfer ≡ false
    others_with f x true is later = later
    others_with f x false is later = sooner_then x f e later (or_parts _ _ is).0

    others : (o : Option Event) (x : Event) → IsSomeAnd o (λ f. is_sooner x.transfer f.transfer ≡ false)
        → is_sooner x.transfer (sooner_of e o).transfer ≡ false
    others None x later = absurd later
    others (Some f) x later = others_with f x (goes_first f e) refl later

-- what holds of those that pass a test holds of each event that passes
passed : (test : Event → Bool) (P : Event → Type 0) (es : List Event) → AllByRecursion P (filter test es)
    → AllByRecursion (λ e. test e ≡ true → P e) es
passed test P [] all = tt
passed test P (e ∷ es) all = by (test e) refl all (passed test P es)
  where
    by : (b : Bool) → test e ≡ b → AllByRecursion P (if b then e ∷ filter test es else filter test es)
        → (AllByRecursion P (filter test es) → AllByRecursion (λ x. test x ≡ true → P x) es)
        → AllByRecursion (λ x. test x ≡ true → P x) (e ∷ es)
    by true passes all more = (λ is. all.0, more all.1)
    by false passes all more = (λ is. absurd (false≢true (sym passes ∙ is)), more all)

-- what holds of each event whose transfer can expire
abbrev pub AllThatExpire : List Event → (Event → Type 0) → Type 0
AllThatExpire past P = AllByRecursion (λ y. can_expire past y ≡ true → P y) past

-- some transfer expires first, and this one isn't sooner
abbrev pub IsNoSooner : List Event → Event → Type 0
IsNoSooner past y = IsSomeAnd (first_due past) (λ f. is_sooner y.transfer f.transfer ≡ false)

-- so it is with each one that can expire
pub none_sooner : (past : List Event) → AllThatExpire past (IsNoSooner past)
none_sooner past =
    passed (can_expire past) (IsNoSooner past) past
    (none_before (filter (can_expire past) past))

-- so none is sooner than an expiry that follows
pub none_before_expiry : (past : List Event) (e : Event) → CanFollow past e → stores e.kind ≡ false
    → AllThatExpire past (λ y. is_sooner y.transfer e.transfer ≡ false)
none_before_expiry past e can storing =
    AllByRecursion-weaker _ _
    (λ y least passes. by y (first_due past) (least passes) can.expiry) past (none_sooner past)
  where
    late : (f : Event) (last : Option Event) → NoneApplies (expiry_lines (Some f) last e)
        → is_sooner f.transfer e.transfer ≡ false
    late f None lines = sym (ap (λ b. not b && is_sooner f.transfer e.transfer) storing) ∙ lines.0
    late f (Some x) lines = sym (ap (λ b. not b && is_sooner f.transfer e.transfer) storing) ∙ lines.0

    by : (y : Event) (o : Option Event) → IsSomeAnd o (λ f. is_sooner y.transfer f.transfer ≡ false)
        → NoneApplies (expiry_lines o (last_expiry past) e) → is_sooner y.transfer e.transfer ≡ false
    by y None least lines = absurd least
    by y (Some f) least lines = sooner_then y f e least (late f (last_expiry past) lines)

-- ---- one more event

-- what isn't settled after one more event wasn't before it
can_expire_before : (past : List Event) (e y : Event) → can_expire (past ++ e ∷ []) y ≡ true → can_expire past y ≡ true
can_expire_before past e y passes =
    let both = and_parts _ _ passes in
    let settled = λ (f : Event). settles f.kind && (settled_id f == y.transfer.id) in
    let parts = or_parts _ _ (sym (list_any-append settled past (e ∷ [])) ∙ not-true _ both.1) in
    and_from _ _ both.0 (not_from_false _ parts.0)

-- after an expiry the same can expire, and no more
pub expire_then : (past : List Event) (e : Event) (P : Event → Type 0) → stores e.kind ≡ false → AllThatExpire past P
    → AllThatExpire (past ++ e ∷ []) P
expire_then past e P storing all =
    AllByRecursion_push _ past e
    (AllByRecursion-weaker _ _ (λ y is passes. is (can_expire_before past e y passes)) past all)
    (λ passes. absurd (false≢true (sym (holds_not e.kind storing) ∙ and_left_of passes)))
  where
    and_left_of : can_expire (past ++ e ∷ []) e ≡ true → holds e.kind ≡ true
    and_left_of passes = grind arith

    holds_not : (k : EventKind) → stores k ≡ false → holds k ≡ false
    holds_not k is = grind arith

-- ---- a ledger's events

-- what holds of all events of a ledger holds of those of its entries
entries_all : (h : History) (P : Event → Type 0) (es : List Entry) → AllByRecursion P (map (event_of h) es)
    → AllByRecursion (λ y. P (event_of h y)) es
entries_all h P [] all = tt
entries_all h P (y ∷ es) all = (all.0, entries_all h P es all.1)

-- an entry is open, and its transfer has a timeout
pub record CanExpire (h : History) (y : Entry) : Type 0 where
  pub holding : holds y.kind ≡ true
  pub timed : (y.transfer.timeout == 0) ≡ false
  pub unsettled : resolved h y.transfer h.last ≡ false

-- what holds of each event whose transfer can expire holds of the events of open entries
pub open_entries : (h : History) (P : Event → Type 0) → IsSound h → AllThatExpire (events h) P
    → AllByRecursion (λ y. CanExpire h y → P (event_of h y)) h.entries
open_entries h P sound all =
    AllByRecursion-weaker _ _
    (λ y is open_one. is (and_from _ _ (and_from _ _ open_one.holding (not_from_false _ open_one.timed))
    (not_from_false _ (unsettled h y.transfer sound.past open_one.unsettled)))) h.entries
    (entries_all h (λ y. can_expire (events h) y ≡ true → P y) h.entries all)
