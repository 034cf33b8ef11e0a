-- By baseline: between two applied events of an account no event was missed that moved posted money.
use Rattle.std.proofs.Common.{◌≡◌, ◌≢◌, ℕ, ◌+◌, ◌<◌, ◌≤◌, Bool, true, false, not, List, [], ◌∷◌, ◌++◌, is_none, refl, sym, ap, ap₂, ◌∙◌, subst, inl, inr, arith}
use Rattle.std.specs.Prelude.{◌⊎◌, ◌==◌, ◌&&◌, ◌||◌, nat_lt, Contains, fold, sum_by, Option, Some, None, if◌then◌else◌}
use Rattle.std.specs.List.{AllByRecursion}
use Rattle.std.proofs.lemmas.Bool.{and_from, and_parts, cases_Bool, eq-eqb, eqb-true, false≢true, le-ltb, lt-ltb, ltb-false, ltb-true, ne_eqb, not-false, not-true, or_parts}
use Rattle.std.proofs.lemmas.Bool.Decides.{eqb_tells}
use Rattle.std.proofs.lemmas.List.Elements.{Contains-append_left, Contains-push_cases}
use Rattle.std.proofs.lemmas.List.Sums.{sum_by_push}
use Rattle.cdc_types.specs.declared.accounts.Balances.{Balances}
use Rattle.cdc_types.specs.declared.events.Event.{Event}
use Rattle.cdc_types.specs.declared.events.EventAccount.{EventAccount}
use Rattle.cdc_types.specs.Lines.{first_line}
use Rattle.cdc_types.specs.Timestamps.{RiseFrom}
use Rattle.cdc_ledger.specs.Events.{events}
use Rattle.cdc_ledger.proofs.Elements.{sum_by_zero}
use Rattle.cdc_subscriber.specs.Book.{entry_of}
use Rattle.cdc_audit.specs.declared.checks.Amounts.{Amounts}
use Rattle.cdc_audit.specs.Audits.{is_accepted}
use Rattle.cdc_audit.specs.Checks.{nothing}
use Rattle.cdc_audit.specs.Known.{balances_after}
use Rattle.cdc_audit.specs.Rules.{posted}
use Rattle.cdc_audit.specs.Settling.{settling_lines}
use Rattle.cdc_audit_laws.specs.Laws.{credits_posted_by, debits_posted_by}
use Rattle.cdc_audit_laws.proofs.Following.{CanFollow, NoneApplies, none_applies, none_both}
use Rattle.cdc_audit_laws.proofs.Streams.{accepted_events_rise}
use Rattle.cdc_checked.specs.Based.{based, based_rules, freed_by, is_based, moved_by, next_based, seen, seen_after, seen_lines}
use Rattle.cdc_checked.specs.Checked.{is_new, last_of, names, open_one}
use Rattle.cdc_checked.proofs.StandLemmas.{balances_after-push}
use Rattle.cdc_checked_laws.specs.Laws.{BaselinesMissNoMoney, MovedNoMoney, has_event_at, is_missed, missed, missed_between}
use Rattle.cdc_checked_laws.proofs.Among.{IsAmong, among-nil, among-push}
use Rattle.cdc_checked_laws.proofs.Applicable.{last_of-named, last_of-other, none_is}
use Rattle.cdc_checked_laws.proofs.Members.{Parts, above, each_from, each_has, has_own, none_there, parts_at}
use Rattle.cdc_checked_laws.proofs.Missed.{accepted_events}
use Rattle.cdc_checked_laws.proofs.Prefix.{adds_nothing, passes, was_there}
use Rattle.cdc_checked_laws.proofs.Released.{event_follows}
use Rattle.cdc_checked_laws.proofs.Steps.{BalancesAdd, balances_add-nil, balances_add-push, balances_add_on, follow_step, names_side}
use Rattle.cdc_checked_laws.proofs.Weights.{sum_at, sum_before, sum_by_both}

-- ---- what an event has that is applied

-- the posted sums of an account after an event, by those before it and what the event adds to them
record AddsTo (account : EventAccount) (before : Balances) (debits credits : ℕ) : Type 0 where
  pub debits_posted : account.debits_posted ≡ before.debits_posted + debits
  pub credits_posted : account.credits_posted ≡ before.credits_posted + credits

-- it is later than those of its accounts, and follows if these were seen
record Follows (applied : List Event) (e : Event) : Type 0 where
  pub debit_new : last_of applied e.debit_account.id < e.timestamp
  pub credit_new : last_of applied e.credit_account.id < e.timestamp
  pub debit : (last_of applied e.debit_account.id == 0) ≡ false
      → AddsTo e.debit_account (balances_after applied e.debit_account.id) (posted e) 0
  pub credit : (last_of applied e.credit_account.id == 0) ≡ false
      → AddsTo e.credit_account (balances_after applied e.credit_account.id) 0 (posted e)

-- a balance that follows
balance_is : (shown before added : ℕ) → not (shown + 0 == before + added) ≡ false → shown ≡ before + added
balance_is shown before added line =
    let same = eqb-true (shown + 0) (before + added) (not-false _ line) in omega (arith, same)

-- the lines on an account that was seen
adds_to : (account : EventAccount) (t : ℕ) (before : Balances) (debits credits : Amounts)
    → NoneApplies (seen_lines account (seen t before) debits credits) → (t == 0) ≡ false
    → AddsTo account before debits.posted credits.posted
adds_to account t before debits credits none was =
    let lines = subst (λ (b : Bool).
    NoneApplies (seen_lines account (if b then None else Some before) debits credits)) was none in
    record {
      debits_posted = balance_is account.debits_posted before.debits_posted debits.posted lines.1.0;
      credits_posted = balance_is account.credits_posted before.credits_posted credits.posted lines.1.1.1.0;
    }

follows_if : (applied : List Event) (e : Event) → is_based applied e ≡ true → Follows applied e
unfolding is_based
follows_if applied e is =
    let parts = and_parts (is_new applied e) (is_none (first_line (based_rules applied e))) is in
    let new = and_parts (nat_lt (last_of applied e.debit_account.id) e.timestamp)
    (nat_lt (last_of applied e.credit_account.id) e.timestamp) parts.0 in
    let debited = seen_after applied e.debit_account.id in
    let credited = seen_after applied e.credit_account.id in
    let amounts = moved_by (freed_by (open_one applied e) debited credited e) e in
    let sums = (none_both (settling_lines (open_one applied e) e)
    (seen_lines e.debit_account debited amounts nothing ++ seen_lines e.credit_account credited nothing amounts)
    (none_applies (based_rules applied e) (none_is (first_line (based_rules applied e)) parts.1))).1 in
    let both = none_both (seen_lines e.debit_account debited amounts nothing)
    (seen_lines e.credit_account credited nothing amounts) sums in
    record {
      debit_new = ltb-true (last_of applied e.debit_account.id) e.timestamp new.0;
      credit_new = ltb-true (last_of applied e.credit_account.id) e.timestamp new.1;
      debit = adds_to e.debit_account (last_of applied e.debit_account.id)
          (balances_after applied e.debit_account.id) amounts nothing both.0;
      credit = adds_to e.credit_account (last_of applied e.credit_account.id)
          (balances_after applied e.credit_account.id) nothing amounts both.1;
    }

newer : (applied : List Event) (e : Event) (id : ℕ) → Follows applied e → names id e ≡ true
    → last_of applied id < e.timestamp
newer applied e id follows named =
    elim (names_side id e named) [
      | inl is ↦ subst (λ (n : ℕ). last_of applied n < e.timestamp) is follows.debit_new
      | inr is ↦ subst (λ (n : ℕ). last_of applied n < e.timestamp) is follows.credit_new
    ]

-- ---- sums up to a timestamp

-- what all events up to this timestamp add
abbrev until : List Event → (Event → ℕ) → ℕ → ℕ
until all w t = sum_by (λ x. if nat_lt t x.timestamp then 0 else w x) all

-- an event is after another one, before it, or at its timestamp
at_or_before : (a b n : ℕ)
    → (if nat_lt b a then 0 else n) ≡ (if nat_lt a b then n else 0) + (if b == a then n else 0)
at_or_before a b n =
    elim (eqb_tells b a) [
      | inl same ↦
          let equal = same.1 in
          rw (same.0, le-ltb b a (omega (arith, equal)), le-ltb a b (omega (arith, equal))) (omega arith)
      | inr other ↦ elim (cases_Bool (nat_lt a b)) [
        | inl less ↦
            let lower = ltb-true a b less in rw (other.0, less, le-ltb b a (omega (arith, lower))) (omega arith)
        | inr more ↦
            let high = ltb-false a b more in
            let apart = other.1 in
            rw (other.0, more, lt-ltb b a (above_it a b high apart)) (omega arith)
      ]
    ]
  where
    above_it : (a b : ℕ) → b ≤ a → (b ≡ a → ⊥) → b < a
    above_it a b high apart =
        elim (cases_Bool (nat_lt b a)) [
          | inl is ↦ ltb-true b a is
          | inr is ↦ let low = ltb-false b a is in absurd (apart (omega (arith, high, low)))
        ]

-- the events up to one of them are those before it, and itself
until_event : (all : List Event) (e : Event) (w : Event → ℕ) (front back : List Event) → RiseFrom 0 all
    → all ≡ front ++ e ∷ back → Contains all e → until all w e.timestamp ≡ sum_by w front + w e
until_event all e w front back rise whole there =
    let both = sum_by_both (λ x. if nat_lt e.timestamp x.timestamp then 0 else w x)
    (λ x. if nat_lt x.timestamp e.timestamp then w x else 0)
    (λ x. if e.timestamp == x.timestamp then w x else 0) all
    (each_from (λ x. (if nat_lt e.timestamp x.timestamp then 0 else w x)
    ≡ (if nat_lt x.timestamp e.timestamp then w x else 0) + (if e.timestamp == x.timestamp then w x else 0)) all
    (λ x x_there. at_or_before x.timestamp e.timestamp (w x))) in
    let before : sum_by (λ x. if nat_lt x.timestamp e.timestamp then w x else 0) all ≡ sum_by w front =
    ap (λ (es : List Event). sum_by (λ x. if nat_lt x.timestamp e.timestamp then w x else 0) es) whole
    ∙ sum_before 0 front e back w (subst (RiseFrom 0) whole rise) in
    let at = sum_at 0 all e w rise there in
    omega (arith, both, before, at)

-- ---- what is kept of an account

-- the sum of an account up to its last applied event is that which the event shows; from an applied event of it on, the
-- applied events add all
record Tracks (all applied : List Event) (id : ℕ) (w : Event → ℕ) (read : Balances → ℕ) : Type 0 where
  pub shown : (last_of applied id == 0) ≡ false → read (balances_after applied id) ≡ until all w (last_of applied id)
  pub sums : (f : Event) → Contains applied f → names id f ≡ true
      → until all w (last_of applied id)
      ≡ until all w f.timestamp + sum_by (λ x. if nat_lt f.timestamp x.timestamp then w x else 0) applied

tracks-nil : (all : List Event) (id : ℕ) (w : Event → ℕ) (read : Balances → ℕ) → Tracks all [] id w read
tracks-nil all id w read = record {
  shown = λ is. absurd (false≢true (sym is));
  sums = λ f there named. absurd (none_there f there);
}

-- what an event shows of its account, whatever came before it
shown_same : (es fs : List Event) (e : Event) (id : ℕ) → names id e ≡ true
    → balances_after (es ++ e ∷ []) id ≡ balances_after (fs ++ e ∷ []) id
shown_same es fs e id named =
    balances_after-push es e id
    ∙ by (e.debit_account.id == id) (e.credit_account.id == id) named
    ∙ sym (balances_after-push fs e id)
  where
    by : (d c : Bool) → (d || c) ≡ true
        → (if c then (entry_of e.credit_account).balances
        else (if d then (entry_of e.debit_account).balances else balances_after es id))
        ≡ (if c then (entry_of e.credit_account).balances
        else (if d then (entry_of e.debit_account).balances else balances_after fs id))
    by true true is = refl
    by true false is = refl
    by false true is = refl
    by false false is = absurd (false≢true is)

-- one more event
module _ (all applied : List Event) (e : Event) (accepted : is_accepted all ≡ true) (among : IsAmong all applied)
    (follows : Follows applied e) (there : Contains all e) (id : ℕ) (w : Event → ℕ) (read : Balances → ℕ)
    (other : (x : Event) → names id x ≡ false → w x ≡ 0)
    (shows : names id e ≡ true → read (balances_after (applied ++ e ∷ []) id) ≡ until all w e.timestamp)
    (adds : names id e ≡ true → (last_of applied id == 0) ≡ false
    → read (balances_after (applied ++ e ∷ []) id) ≡ read (balances_after applied id) + w e)
    (tracks : Tracks all applied id w read) where
  -- the events of the account that were applied have timestamps above 0, up to the last one
  up_to_last : (f : Event) → Contains applied f → names id f ≡ true
      → (0 < f.timestamp) × (f.timestamp ≤ last_of applied id)
  up_to_last f f_there named =
      let f_in = each_has (Contains all) applied f among.inside f_there in
      (above 0 all f (accepted_events_rise all accepted) f_in, among.last f f_in (has_own applied f f_there) id named)

  was_seen : (f : Event) → Contains applied f → names id f ≡ true → (last_of applied id == 0) ≡ false
  was_seen f f_there named =
      let both = up_to_last f f_there named in
      let low = both.0 in
      let high = both.1 in
      ne_eqb (last_of applied id) 0 (λ none. omega (arith, none, low, high))

  then_shown : (last_of (applied ++ e ∷ []) id == 0) ≡ false
      → read (balances_after (applied ++ e ∷ []) id) ≡ until all w (last_of (applied ++ e ∷ []) id)
  then_shown is =
      elim (cases_Bool (names id e)) [
        | inl named ↦ shows named ∙ ap (until all w) (sym (last_of-named applied e id named))
        | inr away ↦
            let same = last_of-other applied e id away in
            let parts = or_parts (e.debit_account.id == id) (e.credit_account.id == id) away in
            ap read (balances_after-push applied e id
            ∙ ap₂ (λ c d. if c then (entry_of e.credit_account).balances
            else (if d then (entry_of e.debit_account).balances else balances_after applied id)) parts.1 parts.0)
            ∙ tracks.shown (ap (λ n. n == 0) (sym same) ∙ is) ∙ ap (until all w) (sym same)
      ]

  -- from an event that was applied before
  old_sums : (f : Event) → Contains applied f → names id f ≡ true
      → until all w (last_of (applied ++ e ∷ []) id)
      ≡ until all w f.timestamp
      + sum_by (λ x. if nat_lt f.timestamp x.timestamp then w x else 0) (applied ++ e ∷ [])
  old_sums f f_there named =
      let before = tracks.sums f f_there named in
      let more = sum_by_push (λ x. if nat_lt f.timestamp x.timestamp then w x else 0) applied e in
      elim (cases_Bool (names id e)) [
        | inl is ↦
            let now : until all w (last_of (applied ++ e ∷ []) id) ≡ until all w e.timestamp =
            ap (until all w) (last_of-named applied e id is) in
            let seen_it = was_seen f f_there named in
            let added = sym (shows is) ∙ adds is seen_it in
            let known = tracks.shown seen_it in
            let new = newer applied e id follows is in
            let high = (up_to_last f f_there named).1 in
            let counts : (if nat_lt f.timestamp e.timestamp then w e else 0) ≡ w e =
            ap (λ b. if b then w e else 0) (lt-ltb f.timestamp e.timestamp (omega (arith, new, high))) in
            omega (arith, before, more, now, added, known, counts)
        | inr away ↦
            let now : until all w (last_of (applied ++ e ∷ []) id) ≡ until all w (last_of applied id) =
            ap (until all w) (last_of-other applied e id away) in
            let none : (if nat_lt f.timestamp e.timestamp then w e else 0) ≡ 0 =
            if_zero (nat_lt f.timestamp e.timestamp) (w e) (other e away) in
            omega (arith, before, more, now, none)
      ]
    where
      if_zero : (b : Bool) (n : ℕ) → n ≡ 0 → (if b then n else 0) ≡ 0
      if_zero true n zero = zero
      if_zero false n zero = refl

  -- from the event itself nothing is added
  new_sums : names id e ≡ true
      → until all w (last_of (applied ++ e ∷ []) id)
      ≡ until all w e.timestamp
      + sum_by (λ x. if nat_lt e.timestamp x.timestamp then w x else 0) (applied ++ e ∷ [])
  new_sums named =
      let now : until all w (last_of (applied ++ e ∷ []) id) ≡ until all w e.timestamp =
      ap (until all w) (last_of-named applied e id named) in
      let more = sum_by_push (λ x. if nat_lt e.timestamp x.timestamp then w x else 0) applied e in
      let itself : (if nat_lt e.timestamp e.timestamp then w e else 0) ≡ 0 =
      ap (λ b. if b then w e else 0) (le-ltb e.timestamp e.timestamp (omega arith)) in
      let none = sum_by_zero (λ x. if nat_lt e.timestamp x.timestamp then w x else 0) applied
      (each_from (λ x. (if nat_lt e.timestamp x.timestamp then w x else 0) ≡ 0) applied not_later) in
      omega (arith, now, more, itself, none)
    where
      not_later : (x : Event) → Contains applied x → (if nat_lt e.timestamp x.timestamp then w x else 0) ≡ 0
      not_later x x_there =
          elim (cases_Bool (names id x)) [
            | inl is ↦
                let new = newer applied e id follows named in
                let high = (up_to_last x x_there is).1 in
                ap (λ b. if b then w x else 0) (le-ltb e.timestamp x.timestamp (omega (arith, new, high)))
            | inr away ↦ either (nat_lt e.timestamp x.timestamp) (w x) (other x away)
          ]
        where
          either : (b : Bool) (n : ℕ) → n ≡ 0 → (if b then n else 0) ≡ 0
          either true n zero = zero
          either false n zero = refl

  tracks-push : Tracks all (applied ++ e ∷ []) id w read
  tracks-push = record {
    shown = then_shown;
    sums = λ f f_there named.
        elim (Contains-push_cases applied e f f_there) [
          | inl before ↦ old_sums f before named
          | inr same ↦
              subst (λ (x : Event). until all w (last_of (applied ++ e ∷ []) id)
              ≡ until all w x.timestamp
              + sum_by (λ y. if nat_lt x.timestamp y.timestamp then w y else 0) (applied ++ e ∷ [])) same
              (new_sums (ap (names id) same ∙ named))
        ];
  }

-- ---- the posted sums

abbrev debit_of : ℕ → Event → ℕ
debit_of id x = if x.debit_account.id == id then posted x else 0

abbrev credit_of : ℕ → Event → ℕ
credit_of id x = if x.credit_account.id == id then posted x else 0

-- an event that doesn't have the account adds nothing to it
not_debit : (id : ℕ) (x : Event) → names id x ≡ false → debit_of id x ≡ 0
not_debit id x away =
    ap (λ b. if b then posted x else 0) (or_parts (x.debit_account.id == id) (x.credit_account.id == id) away).0

not_credit : (id : ℕ) (x : Event) → names id x ≡ false → credit_of id x ≡ 0
not_credit id x away =
    ap (λ b. if b then posted x else 0) (or_parts (x.debit_account.id == id) (x.credit_account.id == id) away).1

-- what is kept of all applied events
record Holds (all applied : List Event) : Type 0 where
  pub among : IsAmong all applied
  pub debits : (id : ℕ) → Tracks all applied id (debit_of id) (λ b. b.debits_posted)
  pub credits : (id : ℕ) → Tracks all applied id (credit_of id) (λ b. b.credits_posted)

module _ (all applied : List Event) (e : Event) (accepted : is_accepted all ≡ true) (holds : Holds all applied)
    (follows : Follows applied e) (there : Contains all e) where
  rise : RiseFrom 0 all
  rise = accepted_events_rise all accepted

  parts : Parts all e
  parts = parts_at all e there

  place : (is_accepted parts.front ≡ true) × CanFollow parts.front e
  place = event_follows parts.front e parts.back
      (subst (λ (es : List Event). is_accepted es ≡ true) parts.whole accepted)

  front_inside : AllByRecursion (Contains all) parts.front
  front_inside =
      each_from (Contains all) parts.front (λ x x_there.
      subst (λ (es : List Event). Contains es x) (sym parts.whole)
      (Contains-append_left parts.front (e ∷ parts.back) x x_there))

  -- the balances of the ledger after the event
  ledger_sums : (id : ℕ) → BalancesAdd all (parts.front ++ e ∷ []) id
  ledger_sums id =
      balances_add-push all parts.front e id (follow_step all parts.front e accepted front_inside place.1)
      (balances_add_on all [] parts.front id accepted tt front_inside (balances_add-nil all id) place.0)

  debits_shown : (id : ℕ) → names id e ≡ true
      → (balances_after (applied ++ e ∷ []) id).debits_posted ≡ until all (debit_of id) e.timestamp
  debits_shown id named =
      ap (λ (b : Balances). b.debits_posted) (shown_same applied parts.front e id named)
      ∙ (ledger_sums id).debits_posted ∙ sum_by_push (debit_of id) parts.front e
      ∙ sym (until_event all e (debit_of id) parts.front parts.back rise parts.whole there)

  credits_shown : (id : ℕ) → names id e ≡ true
      → (balances_after (applied ++ e ∷ []) id).credits_posted ≡ until all (credit_of id) e.timestamp
  credits_shown id named =
      ap (λ (b : Balances). b.credits_posted) (shown_same applied parts.front e id named)
      ∙ (ledger_sums id).credits_posted ∙ sum_by_push (credit_of id) parts.front e
      ∙ sym (until_event all e (credit_of id) parts.front parts.back rise parts.whole there)

  -- what the event shows of an account that was seen
  record AddsBoth (id : ℕ) : Type 0 where
    pub debits : (balances_after (applied ++ e ∷ []) id).debits_posted
        ≡ (balances_after applied id).debits_posted + debit_of id e
    pub credits : (balances_after (applied ++ e ∷ []) id).credits_posted
        ≡ (balances_after applied id).credits_posted + credit_of id e

  adds_both : (id : ℕ) → names id e ≡ true → (last_of applied id == 0) ≡ false → AddsBoth id
  adds_both id named was =
      elim (eqb_tells e.credit_account.id id) [
        | inl credit ↦
            let adds = subst (λ (n : ℕ). (last_of applied n == 0) ≡ false
            → AddsTo e.credit_account (balances_after applied n) 0 (posted e)) credit.1 follows.credit was in
            let apart : (e.debit_account.id == id) ≡ false =
            ne_eqb e.debit_account.id id (λ debit. place.1.apart (debit ∙ sym credit.1)) in
            let shown : balances_after (applied ++ e ∷ []) id ≡ (entry_of e.credit_account).balances =
            balances_after-push applied e id
            ∙ ap (λ b. if b then (entry_of e.credit_account).balances
            else (if e.debit_account.id == id then (entry_of e.debit_account).balances
            else balances_after applied id)) credit.0 in
            record {
              debits = ap (λ (b : Balances). b.debits_posted) shown ∙ adds.debits_posted
                  ∙ ap (λ b. (balances_after applied id).debits_posted + (if b then posted e else 0)) (sym apart);
              credits = ap (λ (b : Balances). b.credits_posted) shown ∙ adds.credits_posted
                  ∙ ap (λ b. (balances_after applied id).credits_posted + (if b then posted e else 0)) (sym credit.0);
            }
        | inr away ↦ elim (names_side id e named) [
          | inl debit ↦
              let adds = subst (λ (n : ℕ). (last_of applied n == 0) ≡ false
              → AddsTo e.debit_account (balances_after applied n) (posted e) 0) debit follows.debit was in
              let is : (e.debit_account.id == id) ≡ true = eq-eqb e.debit_account.id id debit in
              let shown : balances_after (applied ++ e ∷ []) id ≡ (entry_of e.debit_account).balances =
              balances_after-push applied e id
              ∙ ap₂ (λ c d. if c then (entry_of e.credit_account).balances
              else (if d then (entry_of e.debit_account).balances else balances_after applied id)) away.0 is in
              record {
                debits = ap (λ (b : Balances). b.debits_posted) shown ∙ adds.debits_posted
                    ∙ ap (λ b. (balances_after applied id).debits_posted + (if b then posted e else 0)) (sym is);
                credits = ap (λ (b : Balances). b.credits_posted) shown ∙ adds.credits_posted
                    ∙ ap (λ b. (balances_after applied id).credits_posted + (if b then posted e else 0)) (sym away.0);
              }
          | inr credit ↦ absurd (away.1 credit)
        ]
      ]

  holds-push : Holds all (applied ++ e ∷ [])
  holds-push = record {
    among = among-push all applied e accepted holds.among (λ id named. newer applied e id follows named) there;
    debits = λ id.
        tracks-push all applied e accepted holds.among follows there id (debit_of id) (λ b. b.debits_posted)
        (not_debit id) (debits_shown id) (λ named was. (adds_both id named was).debits) (holds.debits id);
    credits = λ id.
        tracks-push all applied e accepted holds.among follows there id (credit_of id) (λ b. b.credits_posted)
        (not_credit id) (credits_shown id) (λ named was. (adds_both id named was).credits) (holds.credits id);
  }

holds_all : (all applied received : List Event) → is_accepted all ≡ true → AllByRecursion (Contains all) received
    → Holds all applied → Holds all (fold next_based applied received)
holds_all all applied [] accepted inside holds = holds
holds_all all applied (e ∷ received) accepted inside holds =
    holds_all all (next_based applied e) received accepted inside.1 (by (is_based applied e) refl)
  where
    by : (b : Bool) → is_based applied e ≡ b → Holds all (if b then applied ++ e ∷ [] else applied)
    by true is = holds-push all applied e accepted holds (follows_if applied e is) inside.0
    by false is = holds

-- ---- what was missed between two applied events

-- the events up to the last one are those up to the first one, those applied after it, and those missed after it
parted : (l p h : Bool) (n : ℕ) → (l ≡ true → p ≡ true) → (l ≡ true → h ≡ true → n ≡ 0)
    → (if l then 0 else n)
    ≡ (if p then 0 else n) + ((if h then (if p then n else 0) else 0) + (if p && (not l && not h) then n else 0))
parted true true true n order none = sym (none refl refl) ∙ sum_none n
  where
    sum_none : (m : ℕ) → m ≡ 0 + (m + 0)
    sum_none m = omega arith
parted true true false n order none = refl
parted true false h n order none = absurd (false≢true (order refl))
parted false true true n order none = omega arith
parted false true false n order none = omega arith
parted false false true n order none = omega arith
parted false false false n order none = omega arith

module _ (all applied : List Event) (id : ℕ) (f e : Event) (accepted : is_accepted all ≡ true)
    (among : IsAmong all applied) (f_there : Contains applied f) (e_there : Contains applied e)
    (f_named : names id f ≡ true) (e_named : names id e ≡ true) (w : Event → ℕ) (read : Balances → ℕ)
    (other : (x : Event) → names id x ≡ false → w x ≡ 0) (tracks : Tracks all applied id w read) where
  abbrev last : ℕ
  last = last_of applied id

  up_to : (x : Event) → Contains applied x → names id x ≡ true → x.timestamp ≤ last
  up_to x x_there named =
      among.last x (each_has (Contains all) applied x among.inside x_there) (has_own applied x x_there) id named

  abbrev misses : Event → Bool
  misses x = nat_lt f.timestamp x.timestamp && (not (nat_lt last x.timestamp) && not (has_event_at applied x.timestamp))

  all_missed : sum_by (λ x. if misses x then w x else 0) all ≡ 0
  all_missed =
      let sums = tracks.sums f f_there f_named in
      let weights = among.weights (λ x. if nat_lt f.timestamp x.timestamp then w x else 0) in
      let both = sum_by_both (λ x. if nat_lt last x.timestamp then 0 else w x)
      (λ x. if nat_lt f.timestamp x.timestamp then 0 else w x)
      (λ x. (if has_event_at applied x.timestamp then (if nat_lt f.timestamp x.timestamp then w x else 0) else 0)
      + (if misses x then w x else 0)) all
      (each_from (λ x. (if nat_lt last x.timestamp then 0 else w x)
      ≡ (if nat_lt f.timestamp x.timestamp then 0 else w x)
      + ((if has_event_at applied x.timestamp then (if nat_lt f.timestamp x.timestamp then w x else 0) else 0)
      + (if misses x then w x else 0))) all (λ x x_there.
      parted (nat_lt last x.timestamp) (nat_lt f.timestamp x.timestamp) (has_event_at applied x.timestamp) (w x)
      (λ late. let high = ltb-true last x.timestamp late in
      let low = up_to f f_there f_named in lt-ltb f.timestamp x.timestamp (omega (arith, high, low)))
      (λ late applied_it. elim (cases_Bool (names id x)) [
        | inl named ↦
            let high = ltb-true last x.timestamp late in
            let low = among.last x x_there applied_it id named in absurd (omega (arith, high, low))
        | inr away ↦ other x away
      ]))) in
      let two = sum_by_both
      (λ x. (if has_event_at applied x.timestamp then (if nat_lt f.timestamp x.timestamp then w x else 0) else 0)
      + (if misses x then w x else 0))
      (λ x. if has_event_at applied x.timestamp then (if nat_lt f.timestamp x.timestamp then w x else 0) else 0)
      (λ x. if misses x then w x else 0) all
      (each_from (λ x. ((if has_event_at applied x.timestamp then
      (if nat_lt f.timestamp x.timestamp then w x else 0) else 0) + (if misses x then w x else 0))
      ≡ (if has_event_at applied x.timestamp then (if nat_lt f.timestamp x.timestamp then w x else 0) else 0)
      + (if misses x then w x else 0)) all (λ x x_there. refl)) in
      omega (arith, sums, weights, both, two)

  none_between : sum_by w (missed_between all applied id f.timestamp e.timestamp) ≡ 0
  none_between =
      sum_by_zero w (missed_between all applied id f.timestamp e.timestamp)
      (each_from (λ x. w x ≡ 0) (missed_between all applied id f.timestamp e.timestamp) each_none)
    where
      each_none : (x : Event) → Contains (missed_between all applied id f.timestamp e.timestamp) x → w x ≡ 0
      each_none x x_there =
          let later = passes (λ y. nat_lt f.timestamp y.timestamp) (missed all applied id e.timestamp) x x_there in
          let x_missed = was_there (λ y. nat_lt f.timestamp y.timestamp) (missed all applied id e.timestamp) x x_there
          in
          let x_in = was_there (is_missed applied id e.timestamp) all x x_missed in
          let is = passes (is_missed applied id e.timestamp) all x x_missed in
          let rest = (and_parts (names id x) (nat_lt x.timestamp e.timestamp && not (has_event_at applied x.timestamp))
          is).1 in
          let both = and_parts (nat_lt x.timestamp e.timestamp) (not (has_event_at applied x.timestamp)) rest in
          let low = ltb-true x.timestamp e.timestamp both.0 in
          let high = up_to e e_there e_named in
          let in_time : nat_lt last x.timestamp ≡ false = le-ltb last x.timestamp (omega (arith, low, high)) in
          let here : misses x ≡ true =
          and_from (nat_lt f.timestamp x.timestamp)
          (not (nat_lt last x.timestamp) && not (has_event_at applied x.timestamp)) later
          (and_from (not (nat_lt last x.timestamp)) (not (has_event_at applied x.timestamp)) (ap not in_time) both.1) in
          sym (ap (λ b. if b then w x else 0) here)
          ∙ adds_nothing (λ y. if misses y then w y else 0) all x all_missed x_in

pub baselines_miss_no_money : BaselinesMissNoMoney
baselines_miss_no_money h received id f e legal inside f_there e_there f_named e_named =
    let all = events h in
    let accepted = accepted_events h legal in
    let holds = holds_all all [] received accepted inside (record {
      among = among-nil all;
      debits = λ n. tracks-nil all n (debit_of n) (λ b. b.debits_posted);
      credits = λ n. tracks-nil all n (credit_of n) (λ b. b.credits_posted);
    }) in
    record {
      debits = none_between all (based received) id f e accepted holds.among f_there e_there f_named e_named
          (debit_of id) (λ b. b.debits_posted) (not_debit id) (holds.debits id);
      credits = none_between all (based received) id f e accepted holds.among f_there e_there f_named e_named
          (credit_of id) (λ b. b.credits_posted) (not_credit id) (holds.credits id);
    }
