-- What a step moved, in a few words.
use Rattle.std.specs.Prelude.{ℕ, List, [], ◌++◌, codes, decimal, Option, None, Some}
use Rattle.cdc_world.specs.declared.moved.ItemName.{ItemName}
use Rattle.cdc_world.specs.declared.moved.ItemName.TheVariants as item
use Rattle.cdc_world.specs.declared.moved.Moved.{Moved}
use Rattle.cdc_world.specs.declared.moved.Moved.TheVariants.{SessionStarted, SessionLost, EventsOffered, PacketSent, PacketTaken, PacketIgnored, ConfirmReceived, ProgressSaved, DeliverySent, QueueRewound, FlightLost, DeliveryTaken, Acknowledged}
use Rattle.cdc_world.specs.declared.moved.PacketName.{PacketName}
use Rattle.cdc_world.specs.declared.moved.PacketName.TheVariants as packet

abbrev pub sent_item : ℕ → ItemName → List ℕ
sent_item number (item.Event timestamp) =
    codes ": packet " ++ decimal number ++ codes ", event " ++ decimal timestamp
sent_item number item.EndMark = codes ": packet " ++ decimal number ++ codes ", end mark"

-- a packet that was sent, under its number
abbrev pub sent_label : ℕ → PacketName → List ℕ
sent_label number (packet.Connect session) =
    codes ": packet " ++ decimal number ++ codes ", connect " ++ decimal session
sent_label number (packet.Publish session tag i) = sent_item number i

abbrev pub came_item : ItemName → List ℕ
came_item (item.Event timestamp) = codes ": event " ++ decimal timestamp
came_item item.EndMark = codes ": end mark"

-- a packet that came to the broker
abbrev pub packet_label : PacketName → List ℕ
packet_label (packet.Connect session) = codes ": connect " ++ decimal session
packet_label (packet.Publish session tag i) = came_item i

-- an item at its position of a queue
abbrev pub item_label : ℕ → ItemName → List ℕ
item_label position (item.Event timestamp) =
    codes ": position " ++ decimal position ++ codes ", event " ++ decimal timestamp
item_label position item.EndMark = codes ": position " ++ decimal position ++ codes ", end mark"

-- a confirm of a session and its tag
abbrev pub confirm_label : ℕ → ℕ → List ℕ
confirm_label session tag = codes ": tag " ++ decimal tag ++ codes ", session " ++ decimal session

abbrev pub moved_label : Moved → List ℕ
moved_label (SessionStarted session after) =
    codes ": session " ++ decimal session ++ codes ", after " ++ decimal after
moved_label (SessionLost session) = codes ": session " ++ decimal session
moved_label (EventsOffered count first last complete) = codes ": events " ++ decimal count
moved_label (PacketSent number p) = sent_label number p
moved_label (PacketTaken p) = packet_label p
moved_label (PacketIgnored p connection next) = packet_label p
moved_label (ConfirmReceived session tag running) = confirm_label session tag
moved_label (ProgressSaved session timestamp) = codes ": up to " ++ decimal timestamp
moved_label (DeliverySent position i) = item_label position i
moved_label (QueueRewound acked) = codes ": acknowledged up to " ++ decimal acked
moved_label (FlightLost count acked) = codes ": lost " ++ decimal count
moved_label (DeliveryTaken position i) = item_label position i
moved_label (Acknowledged acked) = codes ": up to " ++ decimal acked

-- what a step moved, or nothing
abbrev pub label : Option Moved → List ℕ
label None = []
label (Some moved) = moved_label moved
