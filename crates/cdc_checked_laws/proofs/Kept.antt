-- What holds of the events that a checked follower applied, whatever it received of an accepted stream.
use Rattle.std.proofs.Common.{◌≡◌, ℕ, ◌+◌, ◌≤◌, Bool, true, false, not, List, [], ◌∷◌, ◌++◌, append-nil, refl, sym, ap, ◌∙◌, subst, inl, inr, arith}
use Rattle.std.specs.Prelude.{◌⊎◌, ◌==◌, ◌&&◌, ◌||◌, nat_lt, Contains, filter, fold, sum_by, if◌then◌else◌}
use Rattle.std.specs.List.{AllByRecursion}
use Rattle.std.proofs.lemmas.Bool.{cases_Bool, eqb-true, false_from_ne_true, false≢true, le-ltb, lt-ltb, or_cases, or_parts}
use Rattle.std.proofs.lemmas.List.Elements.{Contains-append_left, filter-append}
use Rattle.std.proofs.lemmas.List.Sums.{sum_by_push}
use Rattle.cdc_types.specs.declared.events.Event.{Event}
use Rattle.cdc_types.specs.Timestamps.{RiseFrom}
use Rattle.cdc_types.proofs.Rising.{RiseFrom-push}
use Rattle.cdc_ledger.proofs.Elements.{AllByRecursion-every, AllByRecursion_push, sum_by_zero}
use Rattle.cdc_audit.specs.Audits.{is_accepted}
use Rattle.cdc_audit.specs.Rules.{held, posted, released}
use Rattle.cdc_audit_laws.proofs.Following.{CanFollow}
use Rattle.cdc_audit_laws.proofs.Streams.{accepted_events_rise}
use Rattle.cdc_checked.specs.Checked.{is_applicable, last_of, names, next_checked, open_one}
use Rattle.cdc_checked_laws.specs.Laws.{MovedNothing, has_event_at, is_missed, missed}
use Rattle.cdc_checked_laws.proofs.Among.{IsAmong, among-nil, among-push, old_or_new}
use Rattle.cdc_checked_laws.proofs.Applicable.{Applicable, applicable, last_of-named, last_of-other, names_debit, newer}
use Rattle.cdc_checked_laws.proofs.Members.{Parts, each_from, filter_same, has_event_at-push, parts_at, same_time}
use Rattle.cdc_checked_laws.proofs.Released.{amount_same, event_follows}
use Rattle.cdc_checked_laws.proofs.Steps.{BalancesAdd, IsStep, balances_add-nil, balances_add-push, balances_add_on, balances_follow, follow_step, same_before}
use Rattle.cdc_checked_laws.proofs.Weights.{sum_at, sum_before, sum_by_both, sum_by_filter}

-- the events that were applied: they are among all, each once; each account's last one has its greatest timestamp; the
-- balances are the sums of what they moved; and what was missed of an account before any of its events moved nothing
pub record Holds (all applied : List Event) : Type 0 where
  pub inside : AllByRecursion (Contains all) applied
  pub rises : (id : ℕ) → RiseFrom 0 (filter (names id) applied)
  pub weights : (w : Event → ℕ)
      → sum_by w applied ≡ sum_by (λ f. if has_event_at applied f.timestamp then w f else 0) all
  pub last : (f : Event) → Contains all f → has_event_at applied f.timestamp ≡ true → (id : ℕ) → names id f ≡ true
      → f.timestamp ≤ last_of applied id
  pub sums : (id : ℕ) → BalancesAdd all applied id
  pub nothing : (f : Event) → Contains all f → has_event_at applied f.timestamp ≡ true → (id : ℕ)
      → names id f ≡ true → MovedNothing all (missed all applied id f.timestamp) id

-- ---- tests

-- one more event isn't missed, and where it would count it is too late
missed_same : (n l h b : Bool) → (n ≡ true → b ≡ true → l ≡ false)
    → (n && (l && not (h || b))) ≡ (n && (l && not h))
missed_same false l h b late = refl
missed_same true l true b late = refl
missed_same true l false false late = refl
missed_same true false false true late = refl
missed_same true true false true late = absurd (false≢true (sym (late refl refl)))

-- what is before an event was missed, or applied
parted : (n l h b : Bool) (m : ℕ) → (n ≡ false → m ≡ 0) → (n ≡ true → h ≡ true → l ≡ true)
    → (b ≡ true → l ≡ false)
    → (if l then m else 0) ≡ (if n && (l && not (h || b)) then m else 0) + (if h then m else 0)
parted false l h b m other early itself = rw (other refl) (zeros l h)
  where
    zeros : (l h : Bool) → (if l then 0 else 0) ≡ 0 + (if h then 0 else 0)
    zeros true true = omega arith
    zeros true false = omega arith
    zeros false true = omega arith
    zeros false false = omega arith
parted true true true b m other early itself = omega arith
parted true false true b m other early itself = absurd (false≢true (early refl refl))
parted true true false true m other early itself = absurd (false≢true (sym (itself refl)))
parted true true false false m other early itself = omega arith
parted true false false b m other early itself = omega arith

-- ---- one more event

module _ (all applied : List Event) (e : Event) (accepted : is_accepted all ≡ true) (holds : Holds all applied)
    (can : Applicable applied e) (there : Contains all e) where
  rise : RiseFrom 0 all
  rise = accepted_events_rise all accepted

  parts : Parts all e
  parts = parts_at all e there

  follows : (is_accepted parts.front ≡ true) × CanFollow parts.front e
  follows = event_follows parts.front e parts.back
      (subst (λ (es : List Event). is_accepted es ≡ true) parts.whole accepted)

  before_it : IsAmong all applied
  before_it = record { inside = holds.inside; weights = holds.weights; last = holds.last }

  with_it : IsAmong all (applied ++ e ∷ [])
  with_it = among-push all applied e accepted before_it (λ id named. newer applied e id can named) there

  -- it follows what was applied, and the events before it
  step : IsStep all applied e
  step =
      balances_follow all applied (open_one applied e) e follows.1.apart
      (amount_same all applied e accepted holds.inside can.pending) can.balances

  front_inside : AllByRecursion (Contains all) parts.front
  front_inside =
      each_from (Contains all) parts.front (λ x x_there.
      subst (λ (es : List Event). Contains es x) (sym parts.whole)
      (Contains-append_left parts.front (e ∷ parts.back) x x_there))

  front_step : IsStep all parts.front e
  front_step = follow_step all parts.front e accepted front_inside follows.1

  front_sums : (id : ℕ) → BalancesAdd all parts.front id
  front_sums id = balances_add_on all [] parts.front id accepted tt front_inside (balances_add-nil all id) follows.0

  -- the events of each account still rise
  then_rises : (id : ℕ) → RiseFrom 0 (filter (names id) (applied ++ e ∷ []))
  then_rises id =
      subst (RiseFrom 0) (sym (filter-append (names id) applied (e ∷ []))) (by (names id e) refl)
    where
      by : (b : Bool) → names id e ≡ b → RiseFrom 0 (filter (names id) applied ++ (if b then e ∷ [] else []))
      by true is = RiseFrom-push 0 (filter (names id) applied) e (holds.rises id) (newer applied e id can is)
      by false is = rw append-nil (holds.rises id)

  -- before an earlier event of an account nothing else was missed
  still_missed : (f : Event) → Contains all f → has_event_at applied f.timestamp ≡ true → (id : ℕ)
      → names id f ≡ true → missed all (applied ++ e ∷ []) id f.timestamp ≡ missed all applied id f.timestamp
  still_missed f f_there old id named =
      filter_same (is_missed (applied ++ e ∷ []) id f.timestamp) (is_missed applied id f.timestamp) all
      (each_from (λ x. is_missed (applied ++ e ∷ []) id f.timestamp x ≡ is_missed applied id f.timestamp x) all
      (λ x x_there.
      ap (λ b. names id x && (nat_lt x.timestamp f.timestamp && not b)) (has_event_at-push applied e x.timestamp)
      ∙ missed_same (names id x) (nat_lt x.timestamp f.timestamp) (has_event_at applied x.timestamp)
      (e.timestamp == x.timestamp) (λ named_x equal.
      let at : e.timestamp ≡ x.timestamp = eqb-true e.timestamp x.timestamp equal in
      let same : e ≡ x = same_time 0 all e x rise there x_there at in
      let more = newer applied e id can (ap (names id) same ∙ named_x) in
      let before = holds.last f f_there old id named in
      le-ltb x.timestamp f.timestamp (omega (arith, at, more, before)))))

  -- what is before the event was missed, or applied
  split : (id : ℕ) (w : Event → ℕ) → names id e ≡ true → ((x : Event) → names id x ≡ false → w x ≡ 0)
      → sum_by w parts.front ≡ sum_by w (missed all (applied ++ e ∷ []) id e.timestamp) + sum_by w applied
  split id w named other =
      let before : sum_by (λ x. if nat_lt x.timestamp e.timestamp then w x else 0) all ≡ sum_by w parts.front =
      ap (λ (es : List Event). sum_by (λ x. if nat_lt x.timestamp e.timestamp then w x else 0) es) parts.whole
      ∙ sum_before 0 parts.front e parts.back w (subst (RiseFrom 0) parts.whole rise) in
      let one = sum_by_filter w (is_missed (applied ++ e ∷ []) id e.timestamp) all in
      let two = holds.weights w in
      let both : sum_by (λ x. if nat_lt x.timestamp e.timestamp then w x else 0) all
      ≡ sum_by (λ x. if is_missed (applied ++ e ∷ []) id e.timestamp x then w x else 0) all
      + sum_by (λ x. if has_event_at applied x.timestamp then w x else 0) all =
      sum_by_both (λ x. if nat_lt x.timestamp e.timestamp then w x else 0)
      (λ x. if is_missed (applied ++ e ∷ []) id e.timestamp x then w x else 0)
      (λ x. if has_event_at applied x.timestamp then w x else 0) all
      (each_from (λ x. (if nat_lt x.timestamp e.timestamp then w x else 0)
      ≡ (if is_missed (applied ++ e ∷ []) id e.timestamp x then w x else 0)
      + (if has_event_at applied x.timestamp then w x else 0)) all (λ x x_there.
      parted (names id x) (nat_lt x.timestamp e.timestamp) (has_event_at applied x.timestamp)
      (e.timestamp == x.timestamp) (w x) (other x) (λ named_x old.
      let more = newer applied e id can named in
      let last = holds.last x x_there old id named_x in
      lt-ltb x.timestamp e.timestamp (omega (arith, more, last))) (λ equal.
      let at = eqb-true e.timestamp x.timestamp equal in le-ltb x.timestamp e.timestamp (omega (arith, at)))
      ∙ ap (λ b. (if names id x && (nat_lt x.timestamp e.timestamp && not b) then w x else 0)
      + (if has_event_at applied x.timestamp then w x else 0)) (sym (has_event_at-push applied e x.timestamp)))) in
      omega (arith, before, one, two, both)

  -- so what was missed before it moved nothing
  new_nothing : (id : ℕ) → names id e ≡ true
      → MovedNothing all (missed all (applied ++ e ∷ []) id e.timestamp) id
  new_nothing id named =
      let same = same_before all applied parts.front e id step front_step named in
      let one = holds.sums id in
      let two = front_sums id in
      let dp = split id (λ x. if x.debit_account.id == id then posted x else 0) named (not_debit posted) in
      let cp = split id (λ x. if x.credit_account.id == id then posted x else 0) named (not_credit posted) in
      let dh = split id (λ x. if x.debit_account.id == id then held x else 0) named (not_debit held) in
      let ch = split id (λ x. if x.credit_account.id == id then held x else 0) named (not_credit held) in
      let dr = split id (λ x. if x.debit_account.id == id then released all x else 0) named
      (not_debit (released all)) in
      let cr = split id (λ x. if x.credit_account.id == id then released all x else 0) named
      (not_credit (released all)) in
      record {
        debits = omega (arith, dp, same.debits_posted, one.debits_posted, two.debits_posted);
        credits = omega (arith, cp, same.credits_posted, one.credits_posted, two.credits_posted);
        debits_held = omega (arith, dh, dr, same.debits_pending, one.debits_pending, two.debits_pending);
        credits_held = omega (arith, ch, cr, same.credits_pending, one.credits_pending, two.credits_pending);
      }
    where
      not_debit : (w : Event → ℕ) (x : Event) → names id x ≡ false → (if x.debit_account.id == id then w x else 0) ≡ 0
      not_debit w x other =
          ap (λ b. if b then w x else 0) (or_parts (x.debit_account.id == id) (x.credit_account.id == id) other).0

      not_credit : (w : Event → ℕ) (x : Event) → names id x ≡ false
          → (if x.credit_account.id == id then w x else 0) ≡ 0
      not_credit w x other =
          ap (λ b. if b then w x else 0) (or_parts (x.debit_account.id == id) (x.credit_account.id == id) other).1

  then_nothing : (f : Event) → Contains all f → has_event_at (applied ++ e ∷ []) f.timestamp ≡ true → (id : ℕ)
      → names id f ≡ true → MovedNothing all (missed all (applied ++ e ∷ []) id f.timestamp) id
  then_nothing f f_there is id named =
      elim (old_or_new all applied e accepted before_it (λ i named. newer applied e i can named) there f f_there is) [
        | inl old ↦
            subst (λ (es : List Event). MovedNothing all es id) (sym (still_missed f f_there old id named))
            (holds.nothing f f_there old id named)
        | inr same ↦
            subst (λ (x : Event). MovedNothing all (missed all (applied ++ e ∷ []) id x.timestamp) id) same
            (new_nothing id (ap (names id) same ∙ named))
      ]

  pub holds-push : Holds all (applied ++ e ∷ [])
  holds-push = record {
    inside = with_it.inside;
    rises = then_rises;
    weights = with_it.weights;
    last = with_it.last;
    sums = λ id. balances_add-push all applied e id step (holds.sums id);
    nothing = then_nothing;
  }

-- ---- all events

pub holds-nil : (all : List Event) → Holds all []
holds-nil all = record {
  inside = (among-nil all).inside;
  rises = λ id. tt;
  weights = (among-nil all).weights;
  last = (among-nil all).last;
  sums = λ id. balances_add-nil all id;
  nothing = λ f there is. absurd (false≢true is);
}

pub holds_all : (all applied received : List Event) → is_accepted all ≡ true → AllByRecursion (Contains all) received
    → Holds all applied → Holds all (fold next_checked applied received)
holds_all all applied [] accepted inside holds = holds
holds_all all applied (e ∷ received) accepted inside holds =
    holds_all all (next_checked applied e) received accepted inside.1 (by (is_applicable applied e) refl)
  where
    by : (b : Bool) → is_applicable applied e ≡ b → Holds all (if b then applied ++ e ∷ [] else applied)
    by true is = holds-push all applied e accepted holds (applicable applied e is) inside.0
    by false is = holds
