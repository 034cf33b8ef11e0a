-- Faults of frames that are read from a reader whose bytes are known.
use Rattle.std.specs.Prelude.{◌≡◌, ◌<◌, ℕ, List, Option, IfSome, Result, Ok, Err, length}
use Rattle.cdc_amqp_frames.specs.declared.errors.FrameFault.TheVariants.{Incomplete, UnknownKind, TooLong, NoEnd}
use Rattle.cdc_amqp_frames.specs.declared.errors.ReadFrameError.{ReadFrameError}
use Rattle.cdc_amqp_frames.specs.declared.errors.ReadFrameError.TheVariants.{Read, Fault, OutOfMemory}
use Rattle.cdc_amqp_frames.specs.Frames.{frame_at}

-- reading so many bytes has no fault, except that the reader has fewer
abbrev pub EndsWithin : {T : Type 0} → ℕ → Option (List ℕ) → Result T ReadFrameError → Type 0
EndsWithin size known (Ok x) = Unit {0}
EndsWithin size known (Err (Read why)) = Unit {0}
EndsWithin size known (Err OutOfMemory) = Unit {0}
EndsWithin size known (Err (Fault Incomplete)) = IfSome known (λ bytes. length bytes < size)
EndsWithin size known (Err (Fault UnknownKind)) = ⊥
EndsWithin size known (Err (Fault TooLong)) = ⊥
EndsWithin size known (Err (Fault NoEnd)) = ⊥

-- a fault is that of the bytes
abbrev pub IsFault : {T : Type 0} → ℕ → Option (List ℕ) → Result T ReadFrameError → Type 0
IsFault limit known (Ok x) = Unit {0}
IsFault limit known (Err (Read why)) = Unit {0}
IsFault limit known (Err OutOfMemory) = Unit {0}
IsFault limit known (Err (Fault fault)) = IfSome known (λ bytes. frame_at limit bytes ≡ Err fault)
