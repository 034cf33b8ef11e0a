-- A reader over the blocks that a thread has read.
use Rattle.std.specs.Prelude.{◌==◌, ◌||◌, nat_lt, is_some, ℕ, Bool, Option, List, drop, length}
use Rattle.std.specs.List.{list_any}
use Rattle.std.specs.Option.{option_map}
use Rattle.std.specs.Io.KnownBytes.{prepend_known}
use Rattle.cdc_read_ahead.specs.Pieces.{Received}
use Rattle.cdc_read_ahead.specs.declared.readers.AheadReader.{AheadReader}
use Rattle.cdc_read_ahead.specs.declared.readers.TheConstants.{LINE_BYTES}

-- the bytes that were received and not yet consumed
abbrev pub held_by : {O R : Type 0} → AheadReader O R → List ℕ
held_by reader = drop reader.held.taken reader.held.bytes.items

-- what a reader gives after these bytes
abbrev pub unreceived : Option (List ℕ) → List ℕ → Option (List ℕ)
unreceived known bytes = option_map (λ all. drop (length bytes) all) known

-- what is left of what a reader gives: what is held, and what was not received yet
abbrev pub left_of : {O R : Type 0} → Option (List ℕ) → AheadReader O R → Option (List ℕ)
left_of known reader = prepend_known (held_by reader) (unreceived known reader.blocks.bytes)

-- a byte is a line feed
abbrev pub is_feed : ℕ → Bool
is_feed byte = byte == 10

-- bytes begin with a whole line, or with more than a line may have
abbrev pub has_line_in : List ℕ → Bool
has_line_in bytes = nat_lt LINE_BYTES (length bytes) || list_any is_feed bytes

-- the next line can be had without waiting: it is held, or nothing follows what is held
abbrev pub is_ready_in : List ℕ → Received → Bool
is_ready_in held received = has_line_in held || is_some received.ending

-- the same of what a reader holds and has received
abbrev pub line_is_ready : {O R : Type 0} → AheadReader O R → Bool
line_is_ready reader = is_ready_in (held_by reader) reader.blocks
