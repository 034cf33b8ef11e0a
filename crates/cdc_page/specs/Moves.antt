-- What a step moved, in the data of a page.
use Rattle.std.specs.Prelude.{ℕ, List, [], ◌++◌, codes, decimal, Option, None, Some, Bool, true, false}
use Rattle.cdc_world.specs.declared.moved.ItemName.{ItemName}
use Rattle.cdc_world.specs.declared.moved.ItemName.TheVariants as item
use Rattle.cdc_world.specs.declared.moved.Moved.{Moved}
use Rattle.cdc_world.specs.declared.moved.Moved.TheVariants.{SessionStarted, SessionLost, EventsOffered, PacketSent, PacketTaken, PacketIgnored, ConfirmReceived, ProgressSaved, DeliverySent, QueueRewound, FlightLost, DeliveryTaken, Acknowledged}
use Rattle.cdc_world.specs.declared.moved.PacketName.{PacketName}
use Rattle.cdc_world.specs.declared.moved.PacketName.TheVariants as packet

-- a number as a string of digits
abbrev pub number_json : ℕ → List ℕ
number_json n = codes "\"" ++ decimal n ++ codes "\""

abbrev pub number_or_null : Option ℕ → List ℕ
number_or_null (Some n) = number_json n
number_or_null None = codes "null"

-- an item: the timestamp of its event, or `end`
abbrev pub item_json : ItemName → List ℕ
item_json (item.Event timestamp) = number_json timestamp
item_json item.EndMark = codes "\"end\""

-- an item under a tag of a session
abbrev pub publish_json : ℕ → ℕ → ItemName → List ℕ
publish_json session tag (item.Event timestamp) =
    codes "{\"session\":\"" ++ decimal session ++ codes "\",\"tag\":\"" ++ decimal tag
    ++ codes "\",\"item\":\"" ++ decimal timestamp ++ codes "\"}"
publish_json session tag item.EndMark =
    codes "{\"session\":\"" ++ decimal session ++ codes "\",\"tag\":\"" ++ decimal tag ++ codes "\",\"item\":\"end\"}"

-- a packet: the session that connects, or an item under its session and its tag
abbrev pub packet_json : PacketName → List ℕ
packet_json (packet.Connect session) = codes "{\"connect\":\"" ++ decimal session ++ codes "\"}"
packet_json (packet.Publish session tag item) = publish_json session tag item

-- a confirm of a session and its tag, which the session `running` received
abbrev pub confirm_head : ℕ → ℕ → ℕ → List ℕ
confirm_head session tag running =
    codes "{\"move\":\"confirm_received\",\"session\":\"" ++ decimal session ++ codes "\",\"tag\":\"" ++ decimal tag
    ++ codes "\",\"running\":\"" ++ decimal running ++ codes "\""

-- the object's members up to its packet or its item
abbrev pub head : Moved → List ℕ
head (SessionStarted session after) =
    codes "{\"move\":\"session_started\",\"session\":\"" ++ decimal session ++ codes "\",\"after\":\"" ++ decimal after
    ++ codes "\""
head (SessionLost session) = codes "{\"move\":\"session_lost\",\"session\":\"" ++ decimal session ++ codes "\""
head (EventsOffered count first last complete) =
    codes "{\"move\":\"events_offered\",\"count\":\"" ++ decimal count ++ codes "\",\"last\":\"" ++ decimal last
    ++ codes "\",\"first\":"
head (PacketSent number p) =
    codes "{\"move\":\"packet_sent\",\"number\":\"" ++ decimal number ++ codes "\",\"packet\":"
head (PacketTaken p) = codes "{\"move\":\"packet_taken\",\"packet\":"
head (PacketIgnored p connection next) =
    codes "{\"move\":\"packet_ignored\",\"connection\":\"" ++ decimal connection ++ codes "\",\"packet\":"
head (ConfirmReceived session tag running) = confirm_head session tag running
head (ProgressSaved session timestamp) =
    codes "{\"move\":\"progress_saved\",\"session\":\"" ++ decimal session ++ codes "\",\"timestamp\":\""
    ++ decimal timestamp ++ codes "\""
head (DeliverySent position i) =
    codes "{\"move\":\"delivery_sent\",\"position\":\"" ++ decimal position ++ codes "\",\"item\":"
head (QueueRewound acked) = codes "{\"move\":\"queue_rewound\",\"acked\":\"" ++ decimal acked ++ codes "\""
head (FlightLost count acked) =
    codes "{\"move\":\"flight_lost\",\"count\":\"" ++ decimal count ++ codes "\",\"acked\":\"" ++ decimal acked
    ++ codes "\""
head (DeliveryTaken position i) =
    codes "{\"move\":\"delivery_taken\",\"position\":\"" ++ decimal position ++ codes "\",\"item\":"
head (Acknowledged acked) = codes "{\"move\":\"acknowledged\",\"acked\":\"" ++ decimal acked ++ codes "\""

-- its packet or its item, or the first timestamp of the events that were offered
abbrev pub content : Moved → List ℕ
content (EventsOffered count first last complete) = number_or_null first
content (PacketSent number p) = packet_json p
content (PacketTaken p) = packet_json p
content (PacketIgnored p connection next) = packet_json p
content (DeliverySent position i) = item_json i
content (DeliveryTaken position i) = item_json i
content _ = []

-- whether the events that were offered are all
abbrev pub complete_tail : Bool → List ℕ
complete_tail true = codes ",\"complete\":true}"
complete_tail false = codes ",\"complete\":false}"

-- the tag that the broker takes next
abbrev pub tag_tail : Option ℕ → List ℕ
tag_tail (Some tag) = codes ",\"next_tag\":\"" ++ decimal tag ++ codes "\"}"
tag_tail None = codes ",\"next_tag\":null}"

-- the rest of the object
abbrev pub tail : Moved → List ℕ
tail (EventsOffered count first last complete) = complete_tail complete
tail (PacketIgnored p connection next) = tag_tail next
tail _ = codes "}"

-- what a step moved: an object, or null
abbrev pub moved_json : Option Moved → List ℕ
moved_json None = codes "null"
moved_json (Some moved) = head moved ++ (content moved ++ tail moved)
