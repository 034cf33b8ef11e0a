-- What comes before an event in each queue that takes it.
use Rattle.std.specs.Prelude.{ℕ, ◌+◌, List, [], ◌∷◌, if◌then◌else◌, map}
use Rattle.cdc_types.specs.declared.events.Event.{Event}
use Rattle.cdc_types.specs.Timestamps.{last_timestamp}
use Rattle.cdc_match.specs.Arguments.{Arguments}
use Rattle.cdc_match.specs.Queue.{feed, takes_event}
use Rattle.cdc_queue_lines.specs.declared.predecessors.Predecessor.{Predecessor}

-- the timestamps of the last events of the queues of these bindings; 0 stands for no event
abbrev pub last_timestamps : List Arguments → List Event → List ℕ
last_timestamps bindings events = map (λ binding. last_timestamp (feed events binding)) bindings

-- the queues that take an event after these events, and the timestamp of the event before it in each; the queue of the
-- first binding has this number
abbrev pub predecessors : ℕ → List Arguments → List Event → Event → List Predecessor
predecessors n [] events event = []
predecessors n (binding ∷ rest) events event =
    if takes_event binding event
    then record { queue = n; previous = last_timestamp (feed events binding) }
    ∷ predecessors (n + 1) rest events event
    else predecessors (n + 1) rest events event

-- what is kept between two events: the last timestamp of each queue, and the queues that took the last event
pub record PredecessorState : Type 0 where
  pub last : List ℕ
  pub found : List Predecessor
