-- Missed events that hold nothing are silent.
use Rattle.std.proofs.Common.{◌≡◌, ℕ, Bool, true, false, List, refl, sym, ap, ◌∙◌, inl, inr}
use Rattle.std.specs.Prelude.{◌==◌, ◌&&◌, Contains, nat_lt, not, sum_by, if◌then◌else◌}
use Rattle.std.specs.List.{AllByRecursion}
use Rattle.std.proofs.lemmas.Bool.{and_parts, eq-eqb}
use Rattle.cdc_types.specs.declared.events.Event.{Event}
use Rattle.cdc_ledger.specs.Events.{events}
use Rattle.cdc_ledger.proofs.Elements.{sum_by_zero}
use Rattle.cdc_audit.specs.Rules.{held, posted, released}
use Rattle.cdc_checked.specs.Checked.{checked, names}
use Rattle.cdc_checked_laws.specs.Laws.{IsSilent, MissedEventsAreSilent, MovedNothing, has_event_at, is_missed, missed}
use Rattle.cdc_checked_laws.proofs.Members.{each_from, each_has}
use Rattle.cdc_checked_laws.proofs.Missed.{checked_accounts_miss_nothing}
use Rattle.cdc_checked_laws.proofs.Prefix.{adds_nothing, passes}
use Rattle.cdc_checked_laws.proofs.Steps.{names_side}

zero_if : (b : Bool) (n : ℕ) → n ≡ 0 → (if b then n else 0) ≡ 0
zero_if true n is = is
zero_if false n is = refl

-- on one side of the account
module _ (all lost : List Event) (id : ℕ) (side : Event → ℕ) (none : AllByRecursion (λ f. held f ≡ 0) lost)
    (posts : sum_by (λ f. if side f == id then posted f else 0) lost ≡ 0)
    (releases : sum_by (λ f. if side f == id then held f else 0) lost
    ≡ sum_by (λ f. if side f == id then released all f else 0) lost) where
  nothing_held : sum_by (λ f. if side f == id then held f else 0) lost ≡ 0
  nothing_held =
      sum_by_zero (λ f. if side f == id then held f else 0) lost
      (each_from (λ f. (if side f == id then held f else 0) ≡ 0) lost (λ f there.
      zero_if (side f == id) (held f) (each_has (λ x. held x ≡ 0) lost f none there)))

  silent : (f : Event) → Contains lost f → side f ≡ id → IsSilent all f
  silent f there is = record {
    posts_nothing = sym (ap (λ b. if b then posted f else 0) (eq-eqb (side f) id is))
        ∙ adds_nothing (λ x. if side x == id then posted x else 0) lost f posts there;
    holds_nothing = each_has (λ x. held x ≡ 0) lost f none there;
    releases_nothing = sym (ap (λ b. if b then released all f else 0) (eq-eqb (side f) id is))
        ∙ adds_nothing (λ x. if side x == id then released all x else 0) lost f (sym releases ∙ nothing_held) there;
  }

pub missed_events_are_silent : MissedEventsAreSilent
missed_events_are_silent h received id e legal inside there named none =
    let all = events h in
    let lost = missed all (checked received) id e.timestamp in
    let nothing = checked_accounts_miss_nothing h received id e legal inside there named in
    each_from (IsSilent all) lost (λ f f_there.
    elim (names_side id f (and_parts (names id f)
    (nat_lt f.timestamp e.timestamp && not (has_event_at (checked received) f.timestamp))
    (passes (is_missed (checked received) id e.timestamp) all f f_there)).0) [
      | inl is ↦ silent all lost id (λ x. x.debit_account.id) none nothing.debits nothing.debits_held f f_there is
      | inr is ↦ silent all lost id (λ x. x.credit_account.id) none nothing.credits nothing.credits_held f f_there is
    ])
