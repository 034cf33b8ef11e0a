-- Small lists of items with redeliveries: the first occurrences of each item, and the events that rise.
use Rattle.std.proofs.Common.{◌≡◌, ℕ, List, [], ◌∷◌, refl}
use Rattle.cdc_types.specs.declared.events.Event.{Event}
use Rattle.cdc_message.specs.declared.items.Item.{Item}
use Rattle.cdc_message.specs.declared.items.Item.TheVariants.{Event as OfEvent, EndMark}
use Rattle.cdc_message.specs.Items.{events_of, same_item, rises}
use Rattle.cdc_message.specs.Replays.{firsts}
use Rattle.cdc_message.proofs.Examples.{first_event}

-- an event of this timestamp, and one of this timestamp and ledger
abbrev at : ℕ → Event
at t = record first_event { timestamp = t }

-- with a ledger of its own, so that two events may share a timestamp
abbrev on : ℕ → ℕ → Event
on t ledger = record first_event { timestamp = t; ledger = ledger }

-- a session breaks off after two items, and the next one sends them again before it goes on
abbrev sent_again : List Item
sent_again = OfEvent (at 5) ∷ OfEvent (at 8) ∷ OfEvent (at 5) ∷ OfEvent (at 8) ∷ OfEvent (at 9) ∷ EndMark ∷ EndMark ∷ []

-- without duplicates, each event occurs once and so does the end mark
each_once : firsts same_item sent_again ≡ OfEvent (at 5) ∷ OfEvent (at 8) ∷ OfEvent (at 9) ∷ EndMark ∷ []
each_once = refl

-- by timestamps alone the same events are new
by_timestamps : rises (events_of sent_again) ≡ at 5 ∷ at 8 ∷ at 9 ∷ []
by_timestamps = refl

-- different events with the same timestamp are no duplicates, though they don't rise
two_of_a_time : firsts same_item (OfEvent (on 5 1) ∷ OfEvent (on 5 2) ∷ []) ≡ OfEvent (on 5 1) ∷ OfEvent (on 5 2) ∷ []
two_of_a_time = refl

-- by timestamps alone the second of them counts as a duplicate
one_rises : rises (on 5 1 ∷ on 5 2 ∷ []) ≡ on 5 1 ∷ []
one_rises = refl

-- a timestamp of 0 rises nowhere
none_at_zero : rises (at 0 ∷ at 3 ∷ at 0 ∷ []) ≡ at 3 ∷ []
none_at_zero = refl
