-- Laws that promise too much of checked following, each with its counterexample in accepted events.
use Rattle.std.proofs.Common.{◌≡◌, ℕ, true, false, Bool, List, [], ◌∷◌, length, refl, sym, ap, arith}
use Rattle.std.specs.Prelude.{◌&&◌, Contains, filter, not}
use Rattle.std.specs.List.{AllByRecursion}
use Rattle.std.proofs.lemmas.Bool.{false≢true}
use Rattle.cdc_types.specs.declared.events.Event.{Event}
use Rattle.cdc_ledger.specs.Kinds.{holds}
use Rattle.cdc_audit.specs.Audits.{follows_on, is_accepted}
use Rattle.cdc_audit.specs.Known.{is_settled}
use Rattle.cdc_audit.specs.Rules.{refusal}
use Rattle.cdc_audit_laws.specs.Laws.{debits_posted_by}
use Rattle.cdc_checked.specs.Based.{based, is_based}
use Rattle.cdc_checked.specs.Checked.{checked, is_applicable, names}
use Rattle.cdc_checked.proofs.ExampleEvents.{after_void, all, elsewhere, first, fourth, hold_one, hold_other, holding, holds_more, pays, pays_late, posts_some, second, third, void_one, voiding}
use Rattle.cdc_checked_laws.specs.Laws.{MovedNothing, debits_held_by, has_event_at, missed, missed_between}

-- that no event is missed before an applied one: events that move and hold nothing are
abbrev NothingIsMissed : Type 0
NothingIsMissed = (es received : List Event) (id : ℕ) (e : Event) → is_accepted es ≡ true
    → AllByRecursion (Contains es) received → Contains (checked received) e → names id e ≡ true
    → missed es (checked received) id e.timestamp ≡ []

not_nothing : NothingIsMissed → ⊥
unfolding is_applicable follows_on refusal
not_nothing law =
    let none = law all (first ∷ second ∷ third ∷ elsewhere ∷ fourth ∷ []) 1 fourth refl (
      (0, omega arith, refl),
      ((1, omega arith, refl), ((2, omega arith, refl), ((3, omega arith, refl), ((5, omega arith, refl), tt)))),
    ) (4, omega arith, refl) refl in
    let one : 1 ≡ 0 = ap length none in omega (arith, one)

-- that the missed events held nothing: a pending transfer is missed together with its void
abbrev MissedEventsHoldNothing : Type 0
MissedEventsHoldNothing = (es received : List Event) (id : ℕ) (e : Event) → is_accepted es ≡ true
    → AllByRecursion (Contains es) received → Contains (checked received) e → names id e ≡ true
    → debits_held_by (missed es (checked received) id e.timestamp) id ≡ 0

not_held : MissedEventsHoldNothing → ⊥
unfolding is_applicable follows_on refusal
not_held law =
    let none = law (first ∷ holding ∷ voiding ∷ after_void ∷ []) (first ∷ after_void ∷ []) 1 after_void refl
    ((0, omega arith, refl), ((3, omega arith, refl), tt)) (1, omega arith, refl) refl in
    let five : 5 ≡ 0 = none in omega (arith, five)

-- that a missed pending transfer was settled by a missed event: in a swap the void of another one of the same amount is
-- missed instead
abbrev MissedHoldsAreSettled : Type 0
MissedHoldsAreSettled = (es received : List Event) (id : ℕ) (e : Event) → is_accepted es ≡ true
    → AllByRecursion (Contains es) received → Contains (checked received) e → names id e ≡ true
    → AllByRecursion (λ (f : Event). holds f.kind ≡ true
    → is_settled (missed es (checked received) id e.timestamp) f.transfer.id ≡ true)
    (missed es (checked received) id e.timestamp)

not_settled : MissedHoldsAreSettled → ⊥
unfolding is_applicable follows_on refusal
not_settled law =
    let all_settled = law (hold_one ∷ void_one ∷ hold_other ∷ pays ∷ []) (hold_one ∷ pays ∷ []) 1 pays refl
    ((0, omega arith, refl), ((3, omega arith, refl), tt)) (1, omega arith, refl) refl in
    false≢true (all_settled.1.0 refl)

-- that what is missed after an account's last applied event moved nothing, too
abbrev TailsAreNotMissed : Type 0
TailsAreNotMissed = (es received : List Event) (id : ℕ) → is_accepted es ≡ true
    → AllByRecursion (Contains es) received
    → debits_posted_by (filter (λ f. names id f && not (has_event_at (checked received) f.timestamp)) es) id ≡ 0

not_tails : TailsAreNotMissed → ⊥
unfolding is_applicable follows_on refusal
not_tails law =
    let none = law (first ∷ second ∷ []) (first ∷ []) 1 refl ((0, omega arith, refl), tt) in
    let five : 5 ≡ 0 = none in omega (arith, five)

-- that between two events applied by baseline the missed ones released as much as they held: a pending transfer is
-- missed, and a post of an earlier one, which the stream lacks, seems to release so much less
abbrev BaselinesMissNothing : Type 0
BaselinesMissNothing = (es received : List Event) (id : ℕ) (f e : Event) → is_accepted es ≡ true
    → AllByRecursion (Contains es) received → Contains (based received) f → Contains (based received) e
    → names id f ≡ true → names id e ≡ true
    → MovedNothing es (missed_between es (based received) id f.timestamp e.timestamp) id

not_by_baseline : BaselinesMissNothing → ⊥
unfolding is_based follows_on refusal
not_by_baseline law =
    let nothing_missed = law (hold_one ∷ pays_late ∷ holds_more ∷ posts_some ∷ []) (pays_late ∷ posts_some ∷ []) 1
    pays_late posts_some refl ((1, omega arith, refl), ((3, omega arith, refl), tt)) (0, omega arith, refl)
    (1, omega arith, refl) refl refl in
    let three : 3 ≡ 0 = nothing_missed.debits_held in omega (arith, three)
