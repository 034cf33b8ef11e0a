-- What the command `consume` does.
use Rattle.std.specs.Prelude.{◌≡◌, ℕ, List, Bool, Option}
use Rattle.cdc_amqp_consumer.specs.declared.replies.Settings.{Settings}
use Rattle.cdc_amqp_dialogue.specs.declared.dialogue.Pace.{Pace}
use Rattle.cdc_amqp_dialogue.specs.Dialogues.{Converses}
use Rattle.cdc_amqp_dialogue.specs.Laws.{IsSound}
use Rattle.cdc_amqp_dialogue.specs.Taking.{Plan}
use Rattle.cdc_amqp_dialogue.specs.Worlds.{Sight, begins, run}
use Rattle.cdc_follow.specs.declared.streams.Stop.{Stop}
use Rattle.cdc_follow_command.specs.declared.followers.Followed.{Followed}
use Rattle.cdc_follow_command.specs.declared.followers.FollowSetup.{FollowSetup}
use Rattle.cdc_consume_command.specs.declared.endings.ConsumeEnding.{ConsumeEnding}
use Rattle.cdc_consume_command.specs.declared.keepers.KeptFollower.{KeptFollower}
use Rattle.cdc_consume_command.specs.Kept.{HasKeptFollowers, follower_of, place_of, rules_of}

-- a queue is followed by these rules, from this follower on; `parks`: messages that carry no entry are parked
abbrev pub plan_of : {K : Type 0} → FollowSetup → Bool → KeptFollower K → Plan Followed Stop
plan_of setup parks start = record { rules = rules_of setup; parks = parks; start = place_of start }

-- one is at this place
abbrev pub StandsAt : {K : Type 0} → KeptFollower K → Followed → Type 0
StandsAt it place = place_of it ≡ place

-- There are steps such that the server's bytes begin with the frames that come, what was written are the requests of
-- these steps, the follower and its counts are the fold over the entries of their deliveries, the store was given these
-- and held each, and what was taken is saved and acknowledged before a frame is awaited (`talk`). In these steps each
-- acknowledgement is of deliveries whose entries the follower has taken that the store was given last, and only messages
-- that carry no entry are rejected (`sound`).
pub record Consumes {K D : Type 0} (settings : Settings) (pace : Pace) (setup : FollowSetup)
    (Kept : K → K → List Followed → Type 0) (HasAnswered : D → List Sight → Type 0)
    (known writer written : Option (List ℕ)) (old new : KeptFollower K) (ending : ConsumeEnding)
    : Type 0 where
  pub talk : Converses settings (plan_of setup pace.parks old) pace.every (HasKeptFollowers Kept old) StandsAt
      HasAnswered known writer written new ending.stop ending.how
  pub sound : IsSound (plan_of setup pace.parks old) (run settings (plan_of setup pace.parks old) begins talk.steps)
  pub ended : ending.ended ≡ (follower_of new).kept.ended
