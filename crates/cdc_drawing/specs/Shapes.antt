-- The shape of a step: an arrow between lanes, or a mark on one. Lanes are 90 apart; a message takes two steps, one to
-- half the way and one from there.
use Rattle.std.specs.Prelude.{ℕ, ◌+◌, ◌*◌, List, ◌++◌, codes, decimal, Bool, true, false, if◌then◌else◌}
use Rattle.cdc_subscriber.specs.declared.subscriber.Taking.{Taking}
use Rattle.cdc_subscriber.specs.declared.subscriber.Taking.TheVariants.{Applied, Repeat, Ended, AfterClose}
use Rattle.cdc_types.specs.declared.steps.Step.{Step}
use Rattle.cdc_types.specs.declared.steps.Step.TheVariants.{Submit, CloseLedger, Start, StartAt, Crash, Poll, Publish, Arrive, Answer, Save, Send, Rewind, Break, Take, Ack, Close}
use Rattle.cdc_world.specs.declared.steps.Did.{Did}
use Rattle.cdc_world.specs.declared.steps.Did.TheVariants as did

-- the lanes of a subscriber's queue and of the subscriber, and half the way between them
abbrev pub queue : ℕ → ℕ
queue i = i * 180 + 135

abbrev pub subscriber : ℕ → ℕ
subscriber i = i * 180 + 225

abbrev pub middle : ℕ → ℕ
middle i = i * 180 + 180

-- a delivery that changes its subscriber
abbrev pub is_new : Taking → Bool
is_new Applied = true
is_new Ended = true
is_new Repeat = false
is_new AfterClose = false

-- what came was taken, counted or applied
abbrev pub counts : Did → Bool
counts (did.Arrived taken) = taken
counts (did.Counted counted) = counted
counts (did.Took taking) = is_new taking
counts (did.Submitted results) = false
counts did.Done = false

abbrev pub arrow : Did → List ℕ → List ℕ → List ℕ
arrow answer counted other = if counts answer then counted else other

abbrev pub between : List ℕ → ℕ → ℕ → List ℕ
between front from to = front ++ decimal from ++ codes " 0H" ++ decimal to ++ codes "\"/>"

-- the shape of a step with this answer
abbrev pub shape : Step → Did → List ℕ
shape (Submit batch) answer = codes "<use href=\"#batch\" x=\"45\"/>"
shape CloseLedger answer = codes "<use href=\"#close\" x=\"45\"/>"
shape Start answer = codes "<use href=\"#start\" x=\"135\"/>"
shape (StartAt timestamp) answer = codes "<use href=\"#start\" x=\"135\"/>"
shape Crash answer = codes "<use href=\"#crash\" x=\"135\"/>"
shape Poll answer = codes "<path class=\"whole\" d=\"M45 0H135\"/>"
shape Publish answer = codes "<path class=\"out\" d=\"M135 0H180\"/>"
shape (Arrive k) answer =
    arrow answer (codes "<path class=\"in\" d=\"M180 0H225\"/>") (codes "<path class=\"no\" d=\"M180 0H225\"/>")
shape (Answer k) answer =
    arrow answer (codes "<path class=\"in\" d=\"M180 0H135\"/>") (codes "<path class=\"no\" d=\"M180 0H135\"/>")
shape Save answer = codes "<use href=\"#save\" x=\"135\"/>"
shape (Send i) answer = between (codes "<path class=\"out\" d=\"M") (queue i) (middle i)
shape (Rewind i) answer = codes "<use href=\"#rewind\" x=\"" ++ decimal (queue i) ++ codes "\"/>"
shape (Break i) answer = codes "<use href=\"#lost\" x=\"" ++ decimal (middle i) ++ codes "\"/>"
shape (Take i) answer =
    between (if counts answer then codes "<path class=\"in\" d=\"M" else codes "<path class=\"no\" d=\"M") (middle i) (subscriber i)
shape (Ack i k) answer = between (codes "<path class=\"ack\" d=\"M") (subscriber i) (queue i)
shape (Close i) answer = codes "<use href=\"#close\" x=\"" ++ decimal (subscriber i) ++ codes "\"/>"
