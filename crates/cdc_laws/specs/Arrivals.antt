-- What a broker makes of the packets that arrive.
use Rattle.std.specs.Prelude.{ℕ, List, [], ◌∷◌, ◌++◌, Contains, fold, if◌then◌else◌}
use Rattle.cdc_broker.specs.Packets.{is_taken}
use Rattle.cdc_laws.specs.ConnectorRuns.{IsConfirmed}
use Rattle.cdc_message.specs.declared.items.Item.{Item}
use Rattle.cdc_message.specs.declared.packets.Confirm.{Confirm}
use Rattle.cdc_message.specs.declared.packets.Packet.{Packet}
use Rattle.cdc_message.specs.declared.packets.Packet.TheVariants.{Publish}

-- what a broker has taken after one more packet that arrived
abbrev pub taken_after : List Packet → Packet → List Packet
taken_after taken packet = if is_taken taken packet then taken ++ packet ∷ [] else taken

-- what a broker takes of packets that arrive one after another
abbrev pub taken_of : List Packet → List Packet
taken_of arrived = fold taken_after [] arrived

-- whatever is in the one list is in the other, in whatever order and number
abbrev pub AreAmong : {X : Type 0} → List X → List X → Type 0
AreAmong {X} some all = (x : X) → Contains some x → Contains all x

-- each tag that the confirms have is that of a publish that was taken
abbrev pub AreOfTaken : List Confirm → List Packet → Type 0
AreOfTaken confirms taken = (session tag : ℕ) → IsConfirmed confirms session tag
    → (item : Item) × Contains taken (Publish session tag item)
