-- A follower that keeps what changes of it, and what events show of its accounts.
use Rattle.std.specs.Prelude.{◌≡◌, ℕ, true, None, Some, IfSome, IsSomeAnd, List, [], fold, Option, refl}
use Rattle.std.specs.Option.{option_map}
use Rattle.cdc_message.specs.declared.items.Item.{Item}
use Rattle.cdc_subscriber.specs.Book.{are_distinct, ids_of}
use Rattle.cdc_subscriber.specs.Steps.{next_state}
use Rattle.cdc_subscriber.specs.SubscriberState.{SubscriberState}
use Rattle.cdc_follow.specs.Following.{FollowState}
use Rattle.cdc_book_log.specs.declared.details.Details.{Details}
use Rattle.cdc_book_log.specs.Details.{show_item}
use Rattle.cdc_book_log.specs.Replay.{with_changes}
use Rattle.cdc_book_log.specs.Tracked.{TrackedState}

-- these changes, of which no account occurs twice, make of one follower another one
abbrev pub Leads : FollowState → FollowState → FollowState → Type 0
Leads past change now = (are_distinct (ids_of change.kept.book) ≡ true) × (with_changes past change ≡ now)

-- the follower was this one once, and if it kept what changed since, that leads from the one to the other
abbrev pub HasChanged : FollowState → TrackedState → Type 0
HasChanged past now = IfSome now.changes (λ change. Leads past change now.follower)

-- From a subscriber to a later one: it took these items, and if what they show of accounts is kept, it was put into what
-- was known before.
pub record Shows (old new : SubscriberState) (before after : Option (List (ℕ × Details))) : Type 0 where
  pub items : List Item
  pub taken : new ≡ fold next_state old items
  pub shown : after ≡ option_map (λ known. fold show_item known items) before

-- The follower was this one once. If it kept what changed since, that leads from the one to the other; and if it kept
-- what was shown of accounts, this is what the items show that its subscriber took since.
pub record IsSince (past : FollowState) (now : TrackedState) : Type 0 where
  pub changes : HasChanged past now
  pub shows : Shows past.kept now.follower.kept (option_map (λ _. []) now.shown) now.shown

-- if the later follower keeps its changes, so did the earlier one, and they lead to it from where they did
abbrev pub ChangesOn : TrackedState → TrackedState → Type 0
ChangesOn old new =
    IfSome new.changes (λ later. IsSomeAnd old.changes (λ change. (past : FollowState)
    → Leads past change old.follower → Leads past later new.follower))

-- From one follower to a later one: what changed of it, and what was shown of accounts.
pub record GoesOn (old new : TrackedState) : Type 0 where
  pub changes : ChangesOn old new
  pub shows : Shows old.follower.kept new.follower.kept old.shown new.shown

-- a follower that takes nothing goes on
pub stays_so : (it : TrackedState) → GoesOn it it
stays_so it = record {
  changes = same it.changes;
  shows = record { items = []; taken = refl; shown = kept it.shown };
}
  where
    same : (changes : Option FollowState)
        → IfSome changes (λ later. IsSomeAnd changes (λ change. (past : FollowState)
        → Leads past change it.follower → Leads past later it.follower))
    same None = tt
    same (Some change) = λ past leads. leads

    kept : (shown : Option (List (ℕ × Details))) → shown ≡ option_map (λ known. fold show_item known []) shown
    kept None = refl
    kept (Some known) = refl
