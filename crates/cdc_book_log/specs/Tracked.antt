-- What a follower keeps besides its book and its place.
use Rattle.std.specs.Prelude.{ℕ, List, Option}
use Rattle.cdc_follow.specs.Following.{FollowState}
use Rattle.cdc_book_log.specs.declared.details.Details.{Details}

-- the follower, what changed of it, and what events have shown of accounts since it was saved, by the accounts' numbers
pub record TrackedState : Type 0 where
  pub follower : FollowState
  pub changes : Option FollowState
  pub shown : Option (List (ℕ × Details))
