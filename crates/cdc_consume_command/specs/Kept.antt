-- A follower with its store.
use Rattle.std.specs.Prelude.{ℕ, List, Bool, if◌then◌else◌, Option, Some, None}
use Rattle.cdc_amqp_dialogue.specs.Taking.{EntryRules}
use Rattle.cdc_follow.specs.declared.entries.Entry.{Entry}
use Rattle.cdc_follow.specs.declared.follower.Following.{Following}
use Rattle.cdc_follow.specs.declared.streams.Stop.{Stop}
use Rattle.cdc_follow.specs.Following.{FollowState, next_follow, outcome_of, stops_at}
use Rattle.cdc_follow.specs.Stops.{stop_by}
use Rattle.cdc_follow_command.specs.declared.followers.FollowSetup.{FollowSetup}
use Rattle.cdc_follow_command.specs.declared.followers.Followed.{Followed}
use Rattle.cdc_follow_command.specs.Following.{counts_after, followed_of}
use Rattle.cdc_consume_command.specs.declared.keepers.KeptFollower.{KeptFollower}

-- the follower
abbrev pub follower_of : {K : Type 0} → KeptFollower K → FollowState
follower_of it = it.followed.tracked.follower

-- what following has come to: the follower, and how many deliveries came to what
abbrev pub place_of : {K : Type 0} → KeptFollower K → Followed
place_of it = followed_of it.followed

-- One came from the other, and meanwhile the store was given these followers, with their counts, one after another: it
-- kept them.
abbrev pub HasKeptFollowers : {K : Type 0} → (K → K → List Followed → Type 0) → KeptFollower K → KeptFollower K
    → List Followed → Type 0
HasKeptFollowers Kept old new given = Kept old.store new.store given

-- why following stops at the entry of the delivery with this tag, of which this becomes, if it does
abbrev pub stop_for : Bool → ℕ → Entry → Following → Option Stop
stop_for skips tag entry outcome =
    if stops_at skips outcome then Some (stop_by outcome (record { line = tag; entry = entry })) else None

-- what following has come to after an entry: it is counted, unless following stops at it
abbrev pub place_after : FollowSetup → Followed → Entry → Followed
place_after setup place entry = record {
  follower = next_follow setup.binding place.follower entry;
  counts = counts_after setup.rules (outcome_of setup.binding place.follower entry) entry place.counts;
}

-- how the entries of a queue are followed, and counted
abbrev pub rules_of : FollowSetup → EntryRules Followed Stop
rules_of setup = record {
  chained = setup.rules.chained;
  next = place_after setup;
  stop = λ place entry tag.
      stop_for setup.rules.skips_gaps tag entry (outcome_of setup.binding place.follower entry);
}
