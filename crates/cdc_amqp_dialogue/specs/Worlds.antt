-- What happens while a queue is consumed, one step after another.
use Rattle.std.specs.Prelude.{ℕ, List, [], ◌∷◌, ◌++◌, ◌==◌, Bool, false, take, if◌then◌else◌, Option, Some, None}
use Rattle.std.specs.Prelude.{Result, Ok, Err}
use Rattle.std.specs.Option.{option_to_list}
use Rattle.cdc_amqp_frames.specs.Frames.{Parts, frame}
use Rattle.cdc_amqp_methods.specs.declared.requests.Request.{Request}
use Rattle.cdc_amqp_methods.specs.declared.requests.Request.TheVariants as sent
use Rattle.cdc_amqp_consumer.specs.declared.consumer.Done.{Done}
use Rattle.cdc_amqp_consumer.specs.declared.consumer.End.{End}
use Rattle.cdc_amqp_consumer.specs.declared.consumer.Outcome.{Outcome}
use Rattle.cdc_amqp_consumer.specs.declared.consumer.Outcome.TheVariants.{GoesOn, Delivered, Ended}
use Rattle.cdc_amqp_consumer.specs.declared.errors.ConsumeFault.{ConsumeFault}
use Rattle.cdc_amqp_consumer.specs.declared.replies.Settings.{Settings}
use Rattle.cdc_amqp_consumer.specs.Machine as machine
use Rattle.cdc_amqp_consumer.specs.Machine.{State, Turn, closing, received}
use Rattle.cdc_amqp_dialogue.specs.Deliveries.{Delivery, entries_of}
use Rattle.cdc_amqp_dialogue.specs.Taking.{Plan, delivery_of, follow_entries, taking_after}
use Rattle.cdc_amqp_dialogue.specs.declared.taking.Refusal.{Refusal}
use Rattle.cdc_amqp_dialogue.specs.declared.taking.Taking.{Taking}
use Rattle.cdc_amqp_dialogue.specs.declared.taking.Taking.TheVariants.{Taken, Parked, Refused, Ignored}

-- The reader is asked whether a whole frame is waiting. A frame comes from the server. The follower is given to the
-- store, which holds it. What the store holds is acknowledged. The consumer begins to close.
pub data Step : Type 0 where
  Looks : (waiting : Bool) → Step
  Comes : (arrival : Parts) → Step
  Saves : Step
  Acknowledges : Step
  Closes : Step

-- The consumer; all complete deliveries; how many of the first ones were handled, that is taken or parked; the tag of the
-- last one that was taken, 0 before the first; why no more are handled; the followers that the store was given; the tag
-- of the last delivery that the last of these had taken; the tag that was acknowledged last; all that was sent; whether a
-- whole frame was waiting when the reader was asked last; how the server ended.
pub record World (S R : Type 0) : Type 0 where
  pub state : State
  pub deliveries : List Delivery
  pub handled : ℕ
  pub taken : ℕ
  pub stop : Option (Refusal R)
  pub kept : List S
  pub saved : ℕ
  pub acknowledged : ℕ
  pub sent : List Request
  pub waiting : Bool
  pub end : Option End

abbrev pub begins : {S R : Type 0} → World S R
begins = record {
  state = machine.begins;
  deliveries = [];
  handled = 0;
  taken = 0;
  stop = None;
  kept = [];
  saved = 0;
  acknowledged = 0;
  sent = [];
  waiting = false;
  end = None;
}

-- the follower is the fold over the entries of the deliveries that were handled, in order
abbrev pub follower_of : {S R : Type 0} → Plan S R → World S R → S
follower_of plan w = follow_entries plan (entries_of plan.rules.chained (take w.handled w.deliveries))

abbrev pub requests_of : Done → List Request
requests_of done = option_to_list done.first ++ option_to_list done.second

-- a delivery that is parked is rejected
abbrev pub rejections_of : {R : Type 0} → Taking R → List Request
rejections_of (Taken entry) = []
rejections_of (Parked tag error) = sent.Reject tag ∷ []
rejections_of (Refused stop) = []
rejections_of Ignored = []

-- a delivery is parked
abbrev pub IsParked : {R : Type 0} → Taking R → Type 0
IsParked (Parked tag error) = Unit {0}
IsParked (Taken entry) = ⊥
IsParked (Refused stop) = ⊥
IsParked Ignored = ⊥

-- what is sent after a frame
abbrev pub answers_of : {R : Type 0} → Done → Taking R → List Request
answers_of done taking = requests_of done ++ rejections_of taking

-- the deliveries after a frame
abbrev pub deliveries_after : List Delivery → Outcome → State → List Delivery
deliveries_after deliveries Delivered s = deliveries ++ delivery_of s ∷ []
deliveries_after deliveries GoesOn s = deliveries
deliveries_after deliveries (Ended end) s = deliveries

-- how many are handled, if there are so many of them; the tag of the last one taken; and why no more are
abbrev pub handled_after : {R : Type 0} → ℕ → ℕ → Taking R → ℕ
handled_after handled delivered (Taken entry) = delivered
handled_after handled delivered (Parked tag error) = delivered
handled_after handled delivered (Refused stop) = handled
handled_after handled delivered Ignored = handled

abbrev pub taken_after : {R : Type 0} → ℕ → ℕ → Taking R → ℕ
taken_after taken delivered (Taken entry) = delivered
taken_after taken delivered (Parked tag error) = taken
taken_after taken delivered (Refused stop) = taken
taken_after taken delivered Ignored = taken

abbrev pub stop_after : {R : Type 0} → Option (Refusal R) → Taking R → Option (Refusal R)
stop_after stop (Taken entry) = stop
stop_after stop (Parked tag error) = stop
stop_after stop (Refused why) = Some why
stop_after stop Ignored = stop

abbrev pub end_after : Option End → Outcome → Option End
end_after end (Ended how) = Some how
end_after end GoesOn = end
end_after end Delivered = end

-- a frame made this of the consumer, and this became of its delivery
abbrev pub came : {S R : Type 0} → World S R → Turn → Taking R → World S R
came w t taking = record {
  state = t.state;
  deliveries = deliveries_after w.deliveries t.done.outcome t.state;
  handled = handled_after w.handled t.state.delivered taking;
  taken = taken_after w.taken t.state.delivered taking;
  stop = stop_after w.stop taking;
  kept = w.kept;
  saved = w.saved;
  acknowledged = w.acknowledged;
  sent = w.sent ++ answers_of t.done taking;
  waiting = w.waiting;
  end = end_after w.end t.done.outcome;
}

-- a frame that may not come changes nothing
abbrev pub comes : {S R : Type 0} → Plan S R → World S R → Result Turn ConsumeFault → World S R
comes plan w (Err fault) = w
comes plan w (Ok t) =
    came w t (taking_after plan.rules plan.parks (follower_of plan w) w.stop t.done.outcome t.state)

-- the store is given the follower
abbrev pub saves : {S R : Type 0} → Plan S R → World S R → World S R
saves plan w = record w { kept = w.kept ++ follower_of plan w ∷ []; saved = w.taken }

-- what is saved is acknowledged, if there is something
abbrev pub acknowledges : {S R : Type 0} → World S R → World S R
acknowledges w =
    if w.saved == 0 then w else record w { sent = w.sent ++ sent.Ack w.saved ∷ []; acknowledged = w.saved }

-- the consumer begins to close
abbrev pub closes : {S R : Type 0} → World S R → World S R
closes w = record w { state = closing w.state; sent = w.sent ++ sent.Cancel ∷ [] }

abbrev pub happens : {S R : Type 0} → Settings → Plan S R → World S R → Step → World S R
happens settings plan w (Looks waiting) = record w { waiting = waiting }
happens settings plan w (Comes f) = comes plan w (received settings w.state f.kind f.channel f.payload)
happens settings plan w Saves = saves plan w
happens settings plan w Acknowledges = acknowledges w
happens settings plan w Closes = closes w

-- after steps, one after another
unfoldable pub run : {S R : Type 0} → Settings → Plan S R → World S R → List Step → World S R
run settings plan w [] = w
run settings plan w (step ∷ steps) = run settings plan (happens settings plan w step) steps

-- the bytes of the frames that come
abbrev pub its_bytes : Step → List ℕ
its_bytes (Comes f) = frame f
its_bytes (Looks waiting) = []
its_bytes Saves = []
its_bytes Acknowledges = []
its_bytes Closes = []

unfoldable pub bytes_of : List Step → List ℕ
bytes_of [] = []
bytes_of (step ∷ steps) = its_bytes step ++ bytes_of steps

-- What is seen of a reader of frames: it is asked whether a whole frame is waiting, and answers so; or it gives a frame.
pub data Sight : Type 0 where
  Asked : (waiting : Bool) → Sight
  Gave : (arrival : Parts) → Sight

-- what is seen of the reader, in order
abbrev pub its_sight : Step → List Sight
its_sight (Looks waiting) = Asked waiting ∷ []
its_sight (Comes f) = Gave f ∷ []
its_sight Saves = []
its_sight Acknowledges = []
its_sight Closes = []

unfoldable pub sights_of : List Step → List Sight
sights_of [] = []
sights_of (step ∷ steps) = its_sight step ++ sights_of steps
