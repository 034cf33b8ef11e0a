-- What a follower is after an entry, unless it stops at it.
use Rattle.std.proofs.Common.{◌≡◌, ℕ, Bool, true, false, cond, Option, Some, None, refl, sym, ap, ◌∙◌}
use Rattle.cdc_amqp_dialogue.specs.Taking.{state_after}
use Rattle.cdc_follow.specs.Counts.{counts_with, saturated}
use Rattle.cdc_follow.specs.declared.counts.Counts.{Counts}
use Rattle.cdc_follow.specs.declared.entries.Content.{Content}
use Rattle.cdc_follow.specs.declared.entries.Entry.{Entry}
use Rattle.cdc_follow.specs.declared.follower.Following.{Following}
use Rattle.cdc_follow.specs.declared.follower.Following.TheVariants.{Applied, PassedBy, Duplicate, Gap, Ended}
use Rattle.cdc_follow.specs.declared.follower.Following.TheVariants.{AfterEnd, OutOfRange}
use Rattle.cdc_follow.specs.declared.streams.Taken.TheVariants as taken
use Rattle.cdc_follow.specs.Following.{FollowState, next_follow, outcome_of, state_by, stops_at}
use Rattle.cdc_follow.specs.Stops.{stop_by}
use Rattle.cdc_follow_command.specs.Following.{counts_after}
use Rattle.cdc_follow_command.specs.declared.followers.Followed.{Followed}
use Rattle.cdc_follow_command.specs.declared.followers.FollowSetup.{FollowSetup}
use Rattle.cdc_consume_command.specs.Kept.{rules_of, stop_for}

-- an entry at which following stops changes nothing
stays : (skips : Bool) (outcome : Following) (state : FollowState) (previous : Option ℕ) (c : Content)
    → stops_at skips outcome ≡ true → state_by outcome state previous c ≡ state
stays skips Gap state previous c is = refl
stays skips AfterEnd state previous c is = refl
stays skips OutOfRange state previous c is = refl
stays skips Duplicate state previous c is = refl
stays skips Applied state previous c is = absurd cc
stays skips PassedBy state previous c is = absurd cc
stays skips Ended state previous c is = absurd cc

-- this follower, with these counts
abbrev Made : FollowState → Counts → Followed
Made follower counts = record { follower = follower; counts = counts }

after_case : (setup : FollowSetup) (old : Followed) (new : FollowState) (counts : Counts) (entry : Entry) (tag : ℕ)
    (outcome : Following) (b : Bool)
    → stops_at setup.rules.skips_gaps outcome ≡ b → outcome ≡ outcome_of setup.binding old.follower entry
    → new ≡ next_follow setup.binding old.follower entry
    → counts ≡ counts_after setup.rules outcome entry old.counts
    → Made new counts ≡ state_after (rules_of setup) old entry
    (cond b (Some (stop_by outcome (record { line = tag; entry = entry }))) None)
after_case setup old new counts entry tag outcome true stops is next counted =
    ap (λ (f : FollowState). Made f counts)
    (next ∙ ap (λ (o : Following). state_by o old.follower entry.previous entry.content) (sym is)
    ∙ stays setup.rules.skips_gaps outcome old.follower entry.previous entry.content stops)
    ∙ ap (Made old.follower)
    (counted ∙ ap (λ (b : Bool). cond b old.counts (counts_with saturated (taken.Entry entry outcome) old.counts)) stops)
after_case setup old new counts entry tag outcome false stops is next counted =
    ap (λ (f : FollowState). Made f counts) next
    ∙ ap (Made (next_follow setup.binding old.follower entry))
    (counted ∙ ap (λ (o : Following). counts_after setup.rules o entry old.counts) is)

-- the follower and its counts after an entry
pub after_by : (setup : FollowSetup) (old : Followed) (new : FollowState) (counts : Counts) (entry : Entry) (tag : ℕ)
    (outcome : Following)
    → outcome ≡ outcome_of setup.binding old.follower entry → new ≡ next_follow setup.binding old.follower entry
    → counts ≡ counts_after setup.rules outcome entry old.counts
    → Made new counts ≡ state_after (rules_of setup) old entry (stop_for setup.rules.skips_gaps tag entry outcome)
after_by setup old new counts entry tag outcome is next counted =
    after_case setup old new counts entry tag outcome (stops_at setup.rules.skips_gaps outcome) refl is next counted
