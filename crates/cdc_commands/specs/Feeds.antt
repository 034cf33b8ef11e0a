-- What subscribers receive of what is published: each takes the queue of its binding, from its first item to its
-- last.
use Rattle.std.specs.Prelude.{ℕ, ◌+◌, List, [], ◌∷◌, ◌++◌, fold}
use Rattle.cdc_match.specs.Arguments.{Arguments}
use Rattle.cdc_match.specs.Queue.{queue}
use Rattle.cdc_message.specs.declared.items.Item.{Item}
use Rattle.cdc_subscriber.specs.Reception.{Reception, nothing, next, kept_of}
use Rattle.cdc_subscriber.specs.SubscriberState.{SubscriberState}
use Rattle.cdc_subscriber.specs.Lines.{subscriber_text}

-- what a subscriber has received after these items were delivered to it, in order
abbrev pub receiving : List Item → Reception
receiving items = fold next nothing items

-- what a subscriber with this binding has received of all that was published
abbrev pub received_of : List Item → Arguments → Reception
received_of items binding = receiving (queue items binding)

-- what it keeps of that
abbrev pub kept_by : List Item → Arguments → SubscriberState
kept_by items binding = kept_of (received_of items binding)

-- the lines of the subscribers of these bindings, of which the first has this number
abbrev pub subscribers_text : ℕ → List Item → List Arguments → List ℕ
subscribers_text n items [] = []
subscribers_text n items (binding ∷ rest) =
    subscriber_text n (kept_by items binding) ++ subscribers_text (n + 1) items rest
