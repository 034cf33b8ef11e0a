-- What packets make of a broker: which of them it takes, and what is in those.
use Rattle.std.specs.Prelude.{ℕ, ◌+◌, ◌==◌, ◌&&◌, nat_lt, Bool, false, Option, Some, None, List, fold, if◌then◌else◌}
use Rattle.std.specs.List.{filter_map}
use Rattle.cdc_match.specs.Widths.{max_64}
use Rattle.cdc_message.specs.declared.items.Item.{Item}
use Rattle.cdc_message.specs.declared.packets.Packet.{Packet}
use Rattle.cdc_message.specs.declared.packets.Packet.TheVariants.{Connect, Publish}

-- the item of a packet, if it has one
abbrev pub packet_item : Packet → Option Item
packet_item (Connect session) = None
packet_item (Publish session tag item) = Some item

-- the items of packets, in order
abbrev pub items_of : List Packet → List Item
items_of packets = filter_map packet_item packets

-- the tag that comes after this one; the greatest number of 64 bits is no tag
abbrev pub tag_after : ℕ → Option ℕ
tag_after tag = if nat_lt (tag + 1) max_64 then Some (tag + 1) else None

-- this is the tag that is taken next
abbrev pub is_tag : Option ℕ → ℕ → Bool
is_tag None tag = false
is_tag (Some expected) tag = expected == tag

-- whether a broker takes a packet, by its current session, 0 before the first, and the tag that it takes next, if one
-- is: a session that connects has to have a greater number, and an item comes under that session and that tag
abbrev pub is_taken_at : ℕ → Option ℕ → Packet → Bool
is_taken_at current expected (Connect session) = nat_lt current session
is_taken_at current expected (Publish session tag item) = (session == current) && is_tag expected tag

-- the current session after one more packet that was taken
abbrev pub session_after : ℕ → Packet → ℕ
session_after current (Connect session) = session
session_after current (Publish session tag item) = current

-- the session that is current after these packets were taken: the one that connected last, or 0 before the first
abbrev pub current_session : List Packet → ℕ
current_session accepted = fold session_after 0 accepted

-- the tag that is taken next after one more packet that was taken: they begin at 1 for each session
abbrev pub expected_after : Option ℕ → Packet → Option ℕ
expected_after expected (Connect session) = Some 1
expected_after expected (Publish session tag item) = tag_after tag

-- the tag that is taken next after these packets were taken, if one is
abbrev pub expected_tag : List Packet → Option ℕ
expected_tag accepted = fold expected_after None accepted

-- whether the broker takes a packet after these
abbrev pub is_taken : List Packet → Packet → Bool
is_taken accepted packet = is_taken_at (current_session accepted) (expected_tag accepted) packet
