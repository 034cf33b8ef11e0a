-- Of open pending transfers the one that expires first, by the events and by what an auditor keeps.
use Rattle.cdc_audit.proofs.Words.{AllByRecursion, AllByRecursion-weaker, Bool, Event, IfSome, IsFirst, IsOnce, IsSomeAnd, List, None, Option, Some, [], and_from, and_parts, ap, arith, can_expire, cond, eqb-true, expires_at, false, false≢true, filter, first_due, first_of, goes_first, holds, if◌then◌else◌, is_gt, is_settled, nat_cmp, nat_lt, nat_tests, not, not-true, not_from_false, open_event, open_under, ordering_then, pending_event, refl, sooner_of, subst, sym, true, ℕ, ◌&&◌, ◌==◌, ◌||◌, ◌∙◌, ◌∷◌, ◌≡◌}
use Rattle.cdc_ledger.proofs.StoredLaws.{find_all}

-- ---- the order

-- three numbers come before three others
abbrev comes_first : ℕ → ℕ → ℕ → ℕ → ℕ → ℕ → Bool
comes_first a s i b t j =
    (nat_lt a b || ((a == b) && nat_lt s t)) || (not (nat_lt b a || ((b == a) && nat_lt t s)) && nat_lt i j)

not_self : (a s i : ℕ) → comes_first a s i a s i ≡ false
not_self a s i = grind (arith, nat_tests)

not_both : (a s i b t j : ℕ) → comes_first a s i b t j ≡ true → comes_first b t j a s i ≡ false
not_both a s i b t j is = grind (arith, nat_tests)

not_then : (a s i b t j c u k : ℕ) → comes_first a s i b t j ≡ false → comes_first b t j c u k ≡ false
    → comes_first a s i c u k ≡ false
not_then a s i b t j c u k one other = grind (arith, nat_tests)

-- of two of which neither comes before the other, the last numbers are equal
neither : (a s i b t j : ℕ) → comes_first a s i b t j ≡ false
    → is_gt (ordering_then (nat_cmp a b) (ordering_then (nat_cmp s t) (nat_cmp i j))) ≡ false → i ≡ j
neither a s i b t j one other = grind (arith, nat_tests)

-- ---- the first of some events

-- what holds of each event holds of the first one
pub first_of-all : (P : Event → Type 0) (es : List Event) → AllByRecursion P es → IfSome (first_of es) P
first_of-all P [] all = tt
first_of-all P (e ∷ es) all = by (first_of es) (first_of-all P es all.1)
  where
    either : (b : Bool) (f : Event) → P f → P (cond b f e)
    either true f is = is
    either false f is = all.0

    by : (o : Option Event) → IfSome o P → P (sooner_of e o)
    by None is = all.0
    by (Some f) is = either (goes_first f e) f is

-- and no event goes before it
first_of-least : (es : List Event)
    → AllByRecursion (λ x. IsSomeAnd (first_of es) (λ f. goes_first x f ≡ false)) es
first_of-least [] = tt
first_of-least (e ∷ es) = (
  own (first_of es),
  AllByRecursion-weaker (λ x. IsSomeAnd (first_of es) (λ f. goes_first x f ≡ false))
      (λ x. goes_first x (sooner_of e (first_of es)) ≡ false)
      (λ x. others (first_of es) x) es (first_of-least es),
)
  where
    own_with : (f : Event) (b : Bool) → goes_first f e ≡ b → goes_first e (cond b f e) ≡ false
    own_with f true is =
        not_both (expires_at f.transfer) f.transfer.timestamp f.transfer.id (expires_at e.transfer)
        e.transfer.timestamp e.transfer.id is
    own_with f false is = not_self (expires_at e.transfer) e.transfer.timestamp e.transfer.id

    own : (o : Option Event) → goes_first e (sooner_of e o) ≡ false
    own None = not_self (expires_at e.transfer) e.transfer.timestamp e.transfer.id
    own (Some f) = own_with f (goes_first f e) refl

    others_with : (f x : Event) (b : Bool) → goes_first f e ≡ b → goes_first x f ≡ false
        → goes_first x (cond b f e) ≡ false
    others_with f x true is later = later
    others_with f x false is later =
        not_then (expires_at x.transfer) x.transfer.timestamp x.transfer.id (expires_at f.transfer)
        f.transfer.timestamp f.transfer.id (expires_at e.transfer) e.transfer.timestamp e.transfer.id later is

    others : (o : Option Event) (x : Event) → IsSomeAnd o (λ f. goes_first x f ≡ false)
        → goes_first x (sooner_of e o) ≡ false
    others None x later = absurd later
    others (Some f) x later = others_with f x (goes_first f e) refl later

-- what holds of each event that passes a test holds of those that pass
pub passing : (test : Event → Bool) (P : Event → Type 0) (es : List Event)
    → AllByRecursion (λ e. test e ≡ true → P e) es → AllByRecursion P (filter test es)
passing test P [] all = tt
passing test P (e ∷ es) all = by (test e) refl (passing test P es all.1)
  where
    by : (b : Bool) → test e ≡ b → AllByRecursion P (filter test es)
        → AllByRecursion P (if b then e ∷ filter test es else filter test es)
    by true passes more = (all.0 passes, more)
    by false passes more = more

-- and the other way round
passed : (test : Event → Bool) (P : Event → Type 0) (es : List Event) → AllByRecursion P (filter test es)
    → AllByRecursion (λ e. test e ≡ true → P e) es
passed test P [] all = tt
passed test P (e ∷ es) all = by (test e) refl all (passed test P es)
  where
    by : (b : Bool) → test e ≡ b → AllByRecursion P (if b then e ∷ filter test es else filter test es)
        → (AllByRecursion P (filter test es) → AllByRecursion (λ x. test x ≡ true → P x) es)
        → AllByRecursion (λ x. test x ≡ true → P x) (e ∷ es)
    by true passes all more = (λ is. all.0, more all.1)
    by false passes all more = (λ is. absurd (false≢true (sym passes ∙ is)), more all)

-- ---- the first open pending transfer

-- an event is that of an open pending transfer with a timeout
record IsOpenOf (past : List Event) (e : Event) : Type 0 where
  pub opened : open_event past e.transfer.id ≡ Some e
  pub timed : (e.transfer.timeout == 0) ≡ false

-- each event whose transfer can expire is
each_open : (past : List Event) → AllByRecursion (IsOnce past) past
    → AllByRecursion (λ e. can_expire past e ≡ true → IsOpenOf past e) past
each_open past once =
    AllByRecursion-weaker (IsOnce past) (λ e. can_expire past e ≡ true → IsOpenOf past e)
    (λ e is passes.
    let last = and_parts (holds e.kind && not (e.transfer.timeout == 0)) (not (is_settled past e.transfer.id)) passes in
    let timed = and_parts (holds e.kind) (not (e.transfer.timeout == 0)) last.0 in
    record {
      opened = ap (λ b. cond b None (pending_event past e.transfer.id)) (not-true _ last.1) ∙ is timed.0;
      timed = not-true _ timed.1;
    }) past once

-- an open pending transfer can expire if it has a timeout, and each fact of those that can is one of it
its_fact : (past : List Event) (P : Event → Type 0) (id : ℕ) (e : Event) → open_event past id ≡ Some e
    → (e.transfer.timeout == 0) ≡ false → AllByRecursion (λ e. can_expire past e ≡ true → P e) past
    → (e.transfer.id ≡ id) × P e
its_fact past P id e opened timed all = by (is_settled past id) refl opened
  where
    by : (b : Bool) → is_settled past id ≡ b → cond b None (pending_event past id) ≡ Some e
        → (e.transfer.id ≡ id) × P e
    by true settled found = cc
    by false settled found =
        let it = find_all (λ (f : Event). holds f.kind && (f.transfer.id == id)) (λ f. can_expire past f ≡ true → P f)
        past e all found in
        let parts = and_parts (holds e.kind) (e.transfer.id == id) it.0 in
        let same = eqb-true e.transfer.id id parts.1 in (
          same,
          it.1 (and_from _ _ (and_from _ _ parts.0 (not_from_false _ timed))
              (not_from_false _ (ap (is_settled past) same ∙ settled))),
        )

-- the first one of what an auditor keeps is the first one by the events
pub first_is : (events : List (ℕ × Event)) (past : List Event)
    → ((id : ℕ) → open_under events id ≡ open_event past id) → AllByRecursion (IsOnce past) past
    → (first : Option Event) → IsFirst (open_under events) first → first ≡ first_due past
first_is events past knows once first is_first = by first (first_due past) refl is_first
  where
    open_ones : IfSome (first_due past) (IsOpenOf past)
    open_ones =
        first_of-all (IsOpenOf past) (filter (can_expire past) past)
        (passing (can_expire past) (IsOpenOf past) past (each_open past once))

    least : AllByRecursion
        (λ e. can_expire past e ≡ true → IsSomeAnd (first_due past) (λ f. goes_first e f ≡ false)) past
    least =
        passed (can_expire past) (λ e. IsSomeAnd (first_due past) (λ f. goes_first e f ≡ false)) past
        (first_of-least (filter (can_expire past) past))

    by : (one other : Option Event) → first_due past ≡ other → IsFirst (open_under events) one → one ≡ other
    by None None is none = refl
    by None (Some g) is none =
        let of : IsOpenOf past g = subst (λ o. IfSome o (IsOpenOf past)) is open_ones in
        absurd (false≢true (sym of.timed ∙ none g.transfer.id g (knows g.transfer.id ∙ of.opened)))
    by (Some f) None is goes =
        let it = its_fact past (λ e. IsSomeAnd (first_due past) (λ f. goes_first e f ≡ false)) goes.id f
        (sym (knows goes.id) ∙ goes.there) goes.timed least in
        absurd (subst (λ o. IsSomeAnd o (λ g. goes_first f g ≡ false)) is it.1)
    by (Some f) (Some g) is goes =
        let of : IsOpenOf past g = subst (λ o. IfSome o (IsOpenOf past)) is open_ones in
        let it = its_fact past (λ e. IsSomeAnd (first_due past) (λ f. goes_first e f ≡ false)) goes.id f
        (sym (knows goes.id) ∙ goes.there) goes.timed least in
        let later : goes_first f g ≡ false = subst (λ o. IsSomeAnd o (λ g. goes_first f g ≡ false)) is it.1 in
        let same : goes.id ≡ g.transfer.id =
        neither (expires_at f.transfer) f.transfer.timestamp goes.id (expires_at g.transfer) g.transfer.timestamp
        g.transfer.id
        (subst (λ n. comes_first (expires_at f.transfer) f.transfer.timestamp n (expires_at g.transfer)
        g.transfer.timestamp g.transfer.id ≡ false) it.0 later)
        (goes.least g.transfer.id g (knows g.transfer.id ∙ of.opened) of.timed) in
        sym goes.there ∙ knows goes.id ∙ ap (open_event past) same ∙ of.opened
