-- A follower that keeps its changes, and what was shown of accounts, takes an entry.
use Rattle.std.proofs.Common.{◌≡◌, ℕ, List, [], ◌∷◌, Option, None, Some, fold, option_map, refl, sym, ap, ◌∙◌, subst}
use Rattle.std.specs.Prelude.{IfSome, IsSomeAnd}
use Rattle.cdc_match.specs.Arguments.{Arguments}
use Rattle.cdc_subscriber.specs.Steps.{next_state}
use Rattle.cdc_subscriber.specs.SubscriberState.{SubscriberState}
use Rattle.cdc_follow.specs.declared.entries.Content.{Content}
use Rattle.cdc_follow.specs.declared.entries.Content.TheVariants as content
use Rattle.cdc_follow.specs.declared.entries.Entry.{Entry}
use Rattle.cdc_follow.specs.declared.follower.Following.{Following}
use Rattle.cdc_follow.specs.declared.follower.Following.TheVariants.{Applied, PassedBy, Duplicate, Gap, Ended}
use Rattle.cdc_follow.specs.declared.follower.Following.TheVariants.{AfterEnd, OutOfRange}
use Rattle.cdc_follow.specs.Following.{FollowState, next_follow, outcome_of, state_by}
use Rattle.cdc_book_log.specs.declared.details.Details.{Details}
use Rattle.cdc_book_log.specs.Details.{items_of, show_item}
use Rattle.cdc_book_log.specs.Tracked.{TrackedState}
use Rattle.cdc_book_log.proofs.ReplayLemmas.{state_apart, state_with}
use Rattle.cdc_book_log.specs.Tracking.{ChangesOn, GoesOn, Leads}

-- a subscriber takes what its follower gives to it of an entry
taken : (following : Following) (state : FollowState) (previous : Option ℕ) (entry : Content)
    → (state_by following state previous entry).kept ≡ fold next_state state.kept (items_of following entry)
taken Applied state previous (content.Event e) = refl
taken Applied state previous content.End = refl
taken PassedBy state previous (content.Event e) = refl
taken PassedBy state previous content.End = refl
taken Duplicate state previous entry = refl
taken Gap state previous entry = refl
taken Ended state previous entry = refl
taken AfterEnd state previous entry = refl
taken OutOfRange state previous entry = refl

module _ (binding : Arguments) (entry : Entry) where
  -- the changes take it too
  leads_on : (past change now : FollowState) → Leads past change now
      → Leads past (next_follow binding change entry) (next_follow binding now entry)
  leads_on past change now leads =
      let outcome = outcome_of binding change entry in (
        state_apart change outcome entry.previous entry.content leads.0,
        sym (state_with past change outcome entry.previous entry.content leads.0)
            ∙ ap (λ state. next_follow binding state entry) leads.1,
      )

  changes_on : (old new : TrackedState) (was now : Option FollowState) → old.changes ≡ was → new.changes ≡ now
      → new.follower ≡ next_follow binding old.follower entry
      → IfSome now (λ later. IsSomeAnd was (λ change. later ≡ next_follow binding change entry))
      → IfSome now (λ later. IsSomeAnd was (λ change. (past : FollowState)
      → Leads past change old.follower → Leads past later new.follower))
  changes_on old new was None had has is changes = tt
  changes_on old new None (Some later) had has is changes = absurd changes
  changes_on old new (Some change) (Some later) had has is changes = λ past leads.
      subst (λ l. Leads past l new.follower) (sym changes)
      (subst (Leads past (next_follow binding change entry)) (sym is) (leads_on past change old.follower leads))

  pub goes_on : (old new : TrackedState) → new.follower ≡ next_follow binding old.follower entry
      → IfSome new.changes (λ later. IsSomeAnd old.changes (λ change. later ≡ next_follow binding change entry))
      → new.shown ≡ option_map (λ known. fold show_item known
      (items_of (outcome_of binding old.follower entry) entry.content)) old.shown
      → GoesOn old new
  goes_on old new is changes shown = record {
    changes = changes_on old new old.changes new.changes refl refl is changes;
    shows = record {
      items = items_of (outcome_of binding old.follower entry) entry.content;
      taken = ap (λ (state : FollowState). state.kept) is
          ∙ taken (outcome_of binding old.follower entry) old.follower entry.previous entry.content;
      shown = shown;
    };
  }

-- a map that follows another one
fused : {M : Type 0} (entries : M → List (ℕ × Details)) (f : List (ℕ × Details) → List (ℕ × Details)) (it : Option M)
    → option_map (λ known. f (entries known)) it ≡ option_map f (option_map entries it)
fused entries f None = refl
fused entries f (Some known) = refl

-- what was shown of accounts, after room was made and an entry was shown
pub shown_on : {M : Type 0} (entries : M → List (ℕ × Details)) (f g : List (ℕ × Details) → List (ℕ × Details))
    (old mid new : Option M) → f ≡ g
    → option_map entries mid ≡ option_map entries old
    → option_map entries new ≡ option_map (λ known. f (entries known)) mid
    → option_map entries new ≡ option_map g (option_map entries old)
shown_on entries f g old mid new same room shown =
    shown ∙ fused entries f mid ∙ ap (option_map f) room ∙ ap (λ h. option_map h (option_map entries old)) same
