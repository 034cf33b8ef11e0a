-- Laws of states that are saved.
use Rattle.std.specs.Prelude.{◌≡◌, ℕ, ◌<◌, ◌^◌, Bool, true, List}
use Rattle.std.specs.List.{AllByRecursion, list_all}
use Rattle.std.specs.Map.{keys_of}
use Rattle.cdc_message.specs.Widths.{EventFits}
use Rattle.cdc_codec.specs.Texts.{is_in_line}
use Rattle.cdc_match.specs.Arguments.{Arguments}
use Rattle.cdc_audit_state.specs.Saveable.{AreDistinct}
use Rattle.cdc_checked_follow.specs.Checking.{CheckedState, bytes_checked}
use Rattle.cdc_checked_follow.specs.Standing.{CheckedFollowerState, StandsFor}
use Rattle.cdc_checked_state.specs.Saveable.{CanBeSaved}

-- the applied events have numbers of their fields' widths
abbrev pub AppliedFit : CheckedState → Type 0
AppliedFit state = AllByRecursion EventFits state.applied

-- so they have after any bytes
abbrev pub FollowedEventsFit : Type 0
FollowedEventsFit = (skips : Bool) (state : CheckedState) (bytes : List ℕ) → AppliedFit state
    → AppliedFit (bytes_checked skips state bytes).state

-- the keys of a map of ids have their width and are distinct, as is known of every such map
pub record AreIds {V : Type 0} (entries : List (ℕ × V)) : Type 0 where
  pub fit : AllByRecursion (λ id. id < 2 ^ 128) (keys_of entries)
  pub distinct : AreDistinct entries

-- a follower that stands for such events can be saved with a binding of one line
abbrev pub FollowersCanBeSaved : Type 0
FollowersCanBeSaved = (taking : Arguments) (binding : List ℕ) (follower : CheckedFollowerState) (state : CheckedState)
    → StandsFor taking follower state → AppliedFit state → list_all is_in_line binding ≡ true
    → AreIds follower.book → AreIds follower.checker.accounts → AreIds follower.checker.open_ones
    → CanBeSaved binding follower
