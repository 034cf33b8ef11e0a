-- What holds of the events that a checked follower applied, by whichever rule.
use Rattle.std.proofs.Common.{◌≡◌, ℕ, ◌+◌, ◌≤◌, ◌<◌, Bool, true, false, List, [], ◌∷◌, ◌++◌, refl, sym, ap, ◌∙◌, inl, inr, arith}
use Rattle.std.specs.Prelude.{◌⊎◌, ◌==◌, ◌||◌, Contains, sum_by, if◌then◌else◌}
use Rattle.std.specs.List.{AllByRecursion}
use Rattle.std.proofs.lemmas.Bool.{cases_Bool, eqb-true, false_from_ne_true, false≢true, or_cases}
use Rattle.std.proofs.lemmas.List.Sums.{sum_by_push}
use Rattle.cdc_types.specs.declared.events.Event.{Event}
use Rattle.cdc_types.specs.Timestamps.{RiseFrom}
use Rattle.cdc_ledger.proofs.Elements.{AllByRecursion-every, AllByRecursion_push, sum_by_zero}
use Rattle.cdc_audit.specs.Audits.{is_accepted}
use Rattle.cdc_audit_laws.proofs.Streams.{accepted_events_rise}
use Rattle.cdc_checked.specs.Checked.{last_of, names}
use Rattle.cdc_checked_laws.specs.Laws.{has_event_at}
use Rattle.cdc_checked_laws.proofs.Applicable.{last_of-named, last_of-other, names_debit}
use Rattle.cdc_checked_laws.proofs.Members.{each_from, has_event_at-push, same_time}
use Rattle.cdc_checked_laws.proofs.Weights.{sum_at, sum_by_both}

-- they are among all, each once, and each account's last one has its greatest timestamp
pub record IsAmong (all applied : List Event) : Type 0 where
  pub inside : AllByRecursion (Contains all) applied
  pub weights : (w : Event → ℕ)
      → sum_by w applied ≡ sum_by (λ f. if has_event_at applied f.timestamp then w f else 0) all
  pub last : (f : Event) → Contains all f → has_event_at applied f.timestamp ≡ true → (id : ℕ) → names id f ≡ true
      → f.timestamp ≤ last_of applied id

either_weight : (a b : Bool) (n : ℕ) → (a ≡ true → b ≡ true → ⊥)
    → (if a || b then n else 0) ≡ (if a then n else 0) + (if b then n else 0)
either_weight true true n apart = absurd (apart refl refl)
either_weight true false n apart = omega arith
either_weight false true n apart = omega arith
either_weight false false n apart = omega arith

-- one more event, which is later than those of its accounts
module _ (all applied : List Event) (e : Event) (accepted : is_accepted all ≡ true) (among : IsAmong all applied)
    (later : (id : ℕ) → names id e ≡ true → last_of applied id < e.timestamp) (there : Contains all e) where
  rise : RiseFrom 0 all
  rise = accepted_events_rise all accepted

  -- its timestamp is new
  fresh : has_event_at applied e.timestamp ≡ false
  fresh =
      false_from_ne_true (has_event_at applied e.timestamp) (λ is.
      let old = among.last e there is e.debit_account.id (names_debit e) in
      let new = later e.debit_account.id (names_debit e) in omega (arith, old, new))

  -- an event that was applied was so before, or is this one
  pub old_or_new : (f : Event) → Contains all f → has_event_at (applied ++ e ∷ []) f.timestamp ≡ true
      → (has_event_at applied f.timestamp ≡ true) ⊎ (e ≡ f)
  old_or_new f f_there is =
      elim (or_cases (has_event_at applied f.timestamp) (e.timestamp == f.timestamp)
      (sym (has_event_at-push applied e f.timestamp) ∙ is)) [
        | inl old ↦ inl old
        | inr new ↦ inr (same_time 0 all e f rise there f_there (eqb-true e.timestamp f.timestamp new))
      ]

  then_weights : (w : Event → ℕ)
      → sum_by w (applied ++ e ∷ [])
      ≡ sum_by (λ f. if has_event_at (applied ++ e ∷ []) f.timestamp then w f else 0) all
  then_weights w =
      let more = sum_by_push w applied e in
      let old = among.weights w in
      let new = sum_at 0 all e w rise there in
      let both : sum_by (λ f. if has_event_at (applied ++ e ∷ []) f.timestamp then w f else 0) all
      ≡ sum_by (λ f. if has_event_at applied f.timestamp then w f else 0) all
      + sum_by (λ f. if e.timestamp == f.timestamp then w f else 0) all =
      sum_by_both (λ f. if has_event_at (applied ++ e ∷ []) f.timestamp then w f else 0)
      (λ f. if has_event_at applied f.timestamp then w f else 0)
      (λ f. if e.timestamp == f.timestamp then w f else 0) all
      (each_from (λ f. (if has_event_at (applied ++ e ∷ []) f.timestamp then w f else 0)
      ≡ (if has_event_at applied f.timestamp then w f else 0) + (if e.timestamp == f.timestamp then w f else 0)) all
      (λ f f_there. ap (λ b. if b then w f else 0) (has_event_at-push applied e f.timestamp)
      ∙ either_weight (has_event_at applied f.timestamp) (e.timestamp == f.timestamp) (w f) (λ a b.
      false≢true (sym fresh ∙ ap (has_event_at applied) (eqb-true e.timestamp f.timestamp b) ∙ a)))) in
      omega (arith, more, old, new, both)

  -- the last timestamp of an account never falls
  grows : (id : ℕ) → last_of applied id ≤ last_of (applied ++ e ∷ []) id
  grows id =
      elim (cases_Bool (names id e)) [
        | inl named ↦
            let now = last_of-named applied e id named in
            let more = later id named in omega (arith, now, more)
        | inr other ↦ let now = last_of-other applied e id other in omega (arith, now)
      ]

  then_last : (f : Event) → Contains all f → has_event_at (applied ++ e ∷ []) f.timestamp ≡ true → (id : ℕ)
      → names id f ≡ true → f.timestamp ≤ last_of (applied ++ e ∷ []) id
  then_last f f_there is id named =
      elim (old_or_new f f_there is) [
        | inl old ↦
            let before = among.last f f_there old id named in
            let more = grows id in omega (arith, before, more)
        | inr same ↦
            let named_e : names id e ≡ true = ap (names id) same ∙ named in
            let now = last_of-named applied e id named_e in
            let equal = ap (λ (x : Event). x.timestamp) same in omega (arith, now, equal)
      ]

  pub among-push : IsAmong all (applied ++ e ∷ [])
  among-push = record {
    inside = AllByRecursion_push (Contains all) applied e among.inside there;
    weights = then_weights;
    last = then_last;
  }

-- ---- no event

nothing_yet : (w : Event → ℕ) (all : List Event) → 0 ≡ sum_by (λ f. if false then w f else 0) all
nothing_yet w all =
    sym (sum_by_zero (λ f. if false then w f else 0) all
    (AllByRecursion-every (λ f. (if false then w f else 0) ≡ 0) (λ f. refl) all))

pub among-nil : (all : List Event) → IsAmong all []
among-nil all = record {
  inside = tt;
  weights = λ w. nothing_yet w all;
  last = λ f there is. absurd (false≢true is);
}
