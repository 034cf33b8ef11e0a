-- A reader of frames over the blocks that a thread has read.
use Rattle.std.specs.Prelude.{◌≡◌, ◌||◌, ℕ, List, [], ◌∷◌, Bool, true, false, Option, Result, Ok, Err, drop, is_some}
use Rattle.std.specs.Io.KnownBytes.{Consumes, prepend_known}
use Rattle.cdc_read_ahead.specs.Pieces.{Received}
use Rattle.cdc_read_ahead.specs.Readers.{unreceived}
use Rattle.cdc_amqp_frames.specs.Frames.{Parts, frame, frame_at}
use Rattle.cdc_amqp_frames.specs.declared.errors.FrameFault.{FrameFault}
use Rattle.cdc_amqp_frames.specs.declared.errors.FrameFault.TheVariants.{Incomplete, UnknownKind, TooLong, NoEnd}
use Rattle.cdc_amqp_consumer.specs.declared.replies.TheConstants.{FRAME_MAX}
use Rattle.cdc_amqp_dialogue.specs.Worlds.{Sight, Asked, Gave}
use Rattle.cdc_amqp_ahead.specs.declared.readers.FramesAhead.{FramesAhead}

-- the bytes that were received and not yet consumed
abbrev pub held_by : {O R : Type 0} → FramesAhead O R → List ℕ
held_by reader = drop reader.held.taken reader.held.bytes.items

-- what is left of what a reader gives: what is held, and what was not received yet
abbrev pub left_of : {O R : Type 0} → Option (List ℕ) → FramesAhead O R → Option (List ℕ)
left_of known reader = prepend_known (held_by reader) (unreceived known reader.blocks.bytes)

-- more bytes wouldn't change what was read: a whole frame, or a fault
abbrev pub is_whole : Result (Parts × List ℕ) FrameFault → Bool
is_whole (Ok read) = true
is_whole (Err Incomplete) = false
is_whole (Err UnknownKind) = true
is_whole (Err TooLong) = true
is_whole (Err NoEnd) = true

-- bytes begin with a whole frame, or with bytes that begin none
abbrev pub has_frame_in : List ℕ → Bool
has_frame_in bytes = is_whole (frame_at FRAME_MAX bytes)

-- the next frame can be had without waiting: it is held, or what is held begins none, or nothing follows what is held
abbrev pub is_ready_in : List ℕ → Received → Bool
is_ready_in held received = has_frame_in held || is_some received.ending

-- the same of what a reader holds and has received
abbrev pub frame_is_ready : {O R : Type 0} → FramesAhead O R → Bool
frame_is_ready reader = is_ready_in (held_by reader) reader.blocks

-- A reader was seen so, from where so much was left of the server's bytes to where this is left: each answer was right
-- for what it held and had received, which left just that; and each frame was the next one.
abbrev pub WasSeen : Option (List ℕ) → Option (List ℕ) → List Sight → Option (List ℕ) → Type 0
WasSeen known left [] now = now ≡ left
WasSeen known left (Asked answer ∷ later) now =
    (held : List ℕ) × (received : Received) × (prepend_known held (unreceived known received.bytes) ≡ left)
    × (answer ≡ is_ready_in held received) × WasSeen known left later now
WasSeen known left (Gave f ∷ later) now =
    (rest : Option (List ℕ)) × Consumes left rest (frame f) × WasSeen known rest later now
