-- What holds of the definitions themselves.
use Rattle.std.specs.Prelude.{◌≡◌, List}
use Rattle.cdc_message.specs.declared.items.Item.{Item}
use Rattle.cdc_message.specs.Items.{events_of}
use Rattle.cdc_message.specs.Replays.{IsReplay}
use Rattle.cdc_match.specs.Arguments.{Arguments}
use Rattle.cdc_match.specs.Queue.{queue, feed}

-- if items are received late, redelivered or lost, the same happens to those of each queue, and nothing worse
abbrev pub QueuesReplay : Type 0
QueuesReplay = (w f : List Item) (binding : Arguments) → IsReplay w f → IsReplay (queue w binding) (queue f binding)

-- the events of a queue are those events of the whole list that the binding takes
abbrev pub QueuesHoldFeeds : Type 0
QueuesHoldFeeds = (items : List Item) (binding : Arguments)
    → events_of (queue items binding) ≡ feed (events_of items) binding
