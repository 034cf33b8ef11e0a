-- One step from an event to the next one, over the timestamps that are kept. Cited by private contracts alone.
use Rattle.std.specs.Prelude.{ℕ, ◌+◌, List, [], ◌∷◌, if◌then◌else◌}
use Rattle.cdc_types.specs.declared.events.Event.{Event}
use Rattle.cdc_match.specs.Arguments.{Arguments}
use Rattle.cdc_match.specs.Queue.{takes_event}
use Rattle.cdc_queue_lines.specs.declared.predecessors.Predecessor.{Predecessor}

-- the last timestamp of a queue after an event
abbrev pub last_with : Event → Arguments → ℕ → ℕ
last_with event binding last = if takes_event binding event then event.timestamp else last

-- the last timestamps of queues after an event
abbrev pub last_after : Event → List Arguments → List ℕ → List ℕ
last_after event [] last = last
last_after event (binding ∷ rest) [] = []
last_after event (binding ∷ rest) (last ∷ others) = last_with event binding last ∷ last_after event rest others

-- what is found for one queue, in front of what is found for the others
abbrev pub found_with : Event → Arguments → ℕ → ℕ → List Predecessor → List Predecessor
found_with event binding queue last found =
    if takes_event binding event then record { queue = queue; previous = last } ∷ found else found

-- what is found for queues, the first of which has this number
abbrev pub found_after : Event → ℕ → List Arguments → List ℕ → List Predecessor
found_after event queue [] last = []
found_after event queue (binding ∷ rest) [] = []
found_after event queue (binding ∷ rest) (last ∷ others) =
    found_with event binding queue last (found_after event (queue + 1) rest others)
