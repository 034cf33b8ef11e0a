-- What holds of the definitions themselves.
use Rattle.std.specs.Prelude.{◌≡◌, List, Ok}
use Rattle.std.specs.Bool.{Decides}
use Rattle.cdc_types.specs.declared.events.Event.{Event}
use Rattle.cdc_message.specs.declared.items.Item.{Item}
use Rattle.cdc_message.specs.Bodies.{body}
use Rattle.cdc_message.specs.Items.{events_of, same_item, rises, TimestampsRise}
use Rattle.cdc_message.specs.Reading.{read}
use Rattle.cdc_message.specs.Replays.{HasNoneTwice, IsReplay, IsPrefix, firsts}
use Rattle.cdc_message.specs.Widths.{EventFits}

-- reading the text of an event gives the event, whatever it holds
abbrev pub BodiesReadBack : Type 0
BodiesReadBack = (event : Event) → EventFits event → read (body event) ≡ Ok event

-- items agree in every field if and only if they are equal
abbrev pub SameItemsAreEqual : Type 0
SameItemsAreEqual = (a b : Item) → Decides (same_item a b) (a ≡ b)

-- if a list has no duplicates, a replay of it is a prefix of it once the replay's duplicates are removed: nothing is
-- left out, and the order is kept
abbrev pub FirstsAreAPrefix : Type 0
FirstsAreAPrefix = (w f : List Item) → HasNoneTwice f → IsReplay w f → IsPrefix (firsts same_item w) f

-- if timestamps rise as well, the events of that prefix are those that are new by their timestamps alone
abbrev pub FirstsRise : Type 0
FirstsRise = (w f : List Item) → HasNoneTwice f → TimestampsRise (events_of f) → IsReplay w f
    → events_of (firsts same_item w) ≡ rises (events_of w)

-- a replay of a replay is a replay
abbrev pub ReplaysCompose : Type 0
ReplaysCompose = (w v f : List Item) → IsReplay w v → IsReplay v f → IsReplay w f
