-- Each frame can be read back.
use Rattle.std.specs.Prelude.{◌≡◌, ◌<◌, ◌^◌, ℕ, List, ◌++◌, Ok}
use Rattle.cdc_amqp_frames.specs.Frames.{Parts, Fits, frame, frame_at}

-- the bytes of a frame are read as this frame, whatever bytes follow them
abbrev pub FramesAreReadBack : Type 0
FramesAreReadBack = (limit : ℕ) (f : Parts) (rest : List ℕ) → limit < 2 ^ 32 → Fits limit f
    → frame_at limit (frame f ++ rest) ≡ Ok (f, rest)
