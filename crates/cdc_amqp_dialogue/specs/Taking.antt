-- What becomes of a delivery: the follower takes its entry, or stops at it, or it is parked.
use Rattle.std.specs.Prelude.{ℕ, List, Bool, fold, if◌then◌else◌, Option, Some, None, Ok, Err}
use Rattle.cdc_amqp_consumer.specs.declared.consumer.Outcome.{Outcome}
use Rattle.cdc_amqp_consumer.specs.declared.consumer.Outcome.TheVariants.{GoesOn, Delivered, Ended}
use Rattle.cdc_amqp_consumer.specs.Machine.{State}
use Rattle.cdc_follow.specs.declared.entries.Entry.{Entry}
use Rattle.cdc_follow.specs.declared.errors.LineError.{LineError}
use Rattle.cdc_follow.specs.Entries.{Read}
use Rattle.cdc_amqp_dialogue.specs.Deliveries.{Delivery, delivery_count, delivery_entry}
use Rattle.cdc_amqp_dialogue.specs.declared.taking.Reason.{Reason}
use Rattle.cdc_amqp_dialogue.specs.declared.taking.Reason.TheVariants.{BadMessage, Stopped}
use Rattle.cdc_amqp_dialogue.specs.declared.taking.Refusal.{Refusal}
use Rattle.cdc_amqp_dialogue.specs.declared.taking.Taking.{Taking}
use Rattle.cdc_amqp_dialogue.specs.declared.taking.Taking.TheVariants.{Taken, Parked, Refused, Ignored}

-- How entries are followed: whether each names its predecessor; what a follower is after an entry; and why following
-- stops at the entry of the delivery with this tag, if it does.
pub record EntryRules (S R : Type 0) : Type 0 where
  pub chained : Bool
  pub next : S → Entry → S
  pub stop : S → Entry → ℕ → Option R

-- a queue is followed by these rules, from this follower on; `parks`: a message that carries no entry is parked
pub record Plan (S R : Type 0) : Type 0 where
  pub rules : EntryRules S R
  pub parks : Bool
  pub start : S

-- the last delivery of a consumer
abbrev pub delivery_of : State → Delivery
delivery_of s = record { headers = s.headers; message_type = s.message_type; content = s.content }

-- following stops at the last delivery of a consumer for this reason
abbrev pub refusal_of : {R : Type 0} → State → Reason R → Refusal R
refusal_of s reason = record {
  tag = s.tag;
  redelivered = s.redelivered;
  delivery_count = delivery_count s.headers;
  reason = reason;
}

-- an entry is taken, unless following stops at it
abbrev pub taking_by : {R : Type 0} → State → Entry → Option R → Taking R
taking_by s entry None = Taken entry
taking_by s entry (Some why) = Refused (refusal_of s (Stopped why))

-- a delivery that carries no entry is parked, or following stops at it
abbrev pub bad_taking : {R : Type 0} → Bool → State → LineError → Taking R
bad_taking parks s error = if parks then Parked s.tag error else Refused (refusal_of s (BadMessage error))

abbrev pub taking_of_read : {S R : Type 0} → EntryRules S R → Bool → S → State → Read Entry → Taking R
taking_of_read rules parks follower s (Err error) = bad_taking parks s error
taking_of_read rules parks follower s (Ok entry) = taking_by s entry (rules.stop follower entry s.tag)

-- what becomes of a delivery: after the follower has stopped, deliveries are ignored
unfoldable pub taking_of : {S R : Type 0} → EntryRules S R → Bool → S → Option (Refusal R) → State → Taking R
taking_of rules parks follower (Some stop) s = Ignored
taking_of rules parks follower None s =
    taking_of_read rules parks follower s (delivery_entry rules.chained (delivery_of s))

-- the same after a frame: a delivery is taken when it is complete
abbrev pub taking_after : {S R : Type 0} → EntryRules S R → Bool → S → Option (Refusal R) → Outcome → State → Taking R
taking_after rules parks follower stop Delivered s = taking_of rules parks follower stop s
taking_after rules parks follower stop GoesOn s = Ignored
taking_after rules parks follower stop (Ended end) s = Ignored

-- the follower after an entry, unless it stops at it
abbrev pub state_after : {S R : Type 0} → EntryRules S R → S → Entry → Option R → S
state_after rules follower entry None = rules.next follower entry
state_after rules follower entry (Some why) = follower

-- the follower after it
abbrev pub follower_after : {S R : Type 0} → EntryRules S R → S → Taking R → S
follower_after rules follower (Taken entry) = rules.next follower entry
follower_after rules follower (Parked tag error) = follower
follower_after rules follower (Refused stop) = follower
follower_after rules follower Ignored = follower

-- the follower after entries
abbrev pub follow_entries : {S R : Type 0} → Plan S R → List Entry → S
follow_entries plan entries = fold plan.rules.next plan.start entries
