-- Consuming from a follower that keeps no changes, and from the one before.
use Rattle.std.proofs.Common.{◌≡◌, ℕ, List, Bool, Option, Result, subst}
use Rattle.cdc_amqp_consumer.specs.declared.consumer.End.{End}
use Rattle.cdc_amqp_consumer.specs.declared.replies.Settings.{Settings}
use Rattle.cdc_amqp_dialogue.specs.Dialogues.{Converses}
use Rattle.cdc_amqp_dialogue.specs.Laws.{AcknowledgedIsSaved}
use Rattle.cdc_amqp_dialogue.specs.Worlds.{Sight}
use Rattle.cdc_amqp_dialogue.specs.declared.dialogue.Pace.{Pace}
use Rattle.cdc_amqp_dialogue.specs.declared.errors.ConsumeFailure.{ConsumeFailure}
use Rattle.cdc_amqp_dialogue.specs.declared.taking.Refusal.{Refusal}
use Rattle.cdc_follow.specs.declared.streams.Stop.{Stop}
use Rattle.cdc_follow_command.specs.declared.followers.Followed.{Followed}
use Rattle.cdc_follow_command.specs.declared.followers.FollowSetup.{FollowSetup}
use Rattle.cdc_consume_command.specs.declared.keepers.KeptFollower.{KeptFollower}
use Rattle.cdc_consume_command.specs.Consuming.{Consumes, StandsAt, plan_of}
use Rattle.cdc_consume_command.specs.Kept.{HasKeptFollowers, follower_of, place_of, rules_of}

-- what a store was given since it was this one
HasKeptSince : {K : Type 0} → (K → K → List Followed → Type 0) → K → KeptFollower K → List Followed → Type 0
HasKeptSince Kept store new given = Kept store new.store given

-- a follower at the same place with the same store begins the same talk
pub consumes : {K D : Type 0} (settings : Settings) (pace : Pace) (setup : FollowSetup)
    (Kept : K → K → List Followed → Type 0) (HasAnswered : D → List Sight → Type 0)
    (known writer written : Option (List ℕ)) (old mid new : KeptFollower K)
    (how : Result End ConsumeFailure) (stop : Option (Refusal Stop)) (ended : Bool)
    → AcknowledgedIsSaved Followed Stop → place_of mid ≡ place_of old → mid.store ≡ old.store
    → Converses settings (plan_of setup pace.parks mid) pace.every (HasKeptFollowers Kept mid) StandsAt HasAnswered known
    writer written new stop how
    → ended ≡ (follower_of new).kept.ended
    → Consumes settings pace setup Kept HasAnswered known writer written old new
    (record { how = how; stop = stop; ended = ended })
unfolding HasKeptSince
consumes settings pace setup Kept HasAnswered known writer written old mid new how stop ended law same store talk
    is =
    let placed = subst (λ (start : Followed). Converses settings
    (record { rules = rules_of setup; parks = pace.parks; start = start }) pace.every (HasKeptSince Kept mid.store)
    StandsAt HasAnswered known writer written new stop how) same talk in
    let stored = subst (λ held. Converses settings (plan_of setup pace.parks old) pace.every (HasKeptSince Kept held)
    StandsAt HasAnswered known writer written new stop how) store placed in
    record { talk = stored; sound = law settings (plan_of setup pace.parks old) stored.steps; ended = is }
