-- Frames: their bytes, and the frame that bytes begin with.
use Rattle.std.specs.Prelude.{◌≡◌, ◌≤◌, ◌<◌, ◌^◌, ◌==◌, ℕ, List, [], ◌∷◌, ◌++◌, length, nat_lt}
use Rattle.std.specs.Prelude.{if◌then◌else◌, Option, Some, None, Result, Ok, Err}
use Rattle.std.specs.Int.{w16, w32, to_be_bytes}
use Rattle.cdc_amqp_frames.specs.declared.errors.FrameFault.{FrameFault}
use Rattle.cdc_amqp_frames.specs.declared.errors.FrameFault.TheVariants.{Incomplete, UnknownKind, TooLong, NoEnd}
use Rattle.cdc_amqp_frames.specs.declared.frames.Frame as declared
use Rattle.cdc_amqp_frames.specs.declared.frames.FrameRef.{FrameRef}
use Rattle.cdc_amqp_frames.specs.declared.frames.FrameKind.{FrameKind}
use Rattle.cdc_amqp_frames.specs.declared.frames.FrameKind.TheVariants.{Method, Header, Body, Heartbeat}
use Rattle.cdc_amqp_frames.specs.Fields.{u8_at, number_at, bytes_at}

-- a frame, wherever its payload is stored
pub record Parts : Type 0 where
  pub kind : FrameKind
  pub channel : ℕ
  pub payload : List ℕ

abbrev pub view : declared.Frame → Parts
view f = record { kind = f.kind; channel = f.channel; payload = f.payload.items }

abbrev pub view_of : FrameRef → Parts
view_of f = record { kind = f.kind; channel = f.channel; payload = f.payload.now }

-- the first byte of a frame
abbrev pub kind_byte : FrameKind → ℕ
kind_byte Method = 1
kind_byte Header = 2
kind_byte Body = 3
kind_byte Heartbeat = 8

abbrev pub kind_of : ℕ → Option FrameKind
kind_of byte =
    if byte == 1 then Some Method else (if byte == 2 then Some Header else (if byte == 3 then Some Body
    else (if byte == 8 then Some Heartbeat else None)))

-- the bytes of a frame: kind, channel, size, payload, and the end octet
abbrev pub frame : Parts → List ℕ
frame f =
    kind_byte f.kind ∷ (to_be_bytes w16 f.channel ++ (to_be_bytes w32 (length f.payload) ++ (f.payload ++ 206 ∷ [])))

-- a frame has a channel of 16 bits, and a payload of at most this size
pub record Fits (limit : ℕ) (f : Parts) : Type 0 where
  pub channel : f.channel < 2 ^ 16
  pub payload : length f.payload ≤ limit

infixl 10 ◌>>=◌
-- reads on, unless there was a fault
abbrev pub ◌>>=◌ : {A B : Type 0} → Result A FrameFault → (A → Result B FrameFault) → Result B FrameFault
(Ok x) >>= f = f x
(Err e) >>= f = Err e

infixl 20 ◌or◌
-- a field, or this fault if there is none
abbrev pub ◌or◌ : {A : Type 0} → Option A → FrameFault → Result A FrameFault
(Some x) or fault = Ok x
None or fault = Err fault

-- what a function returns, seen through a view, is what these bytes have
abbrev pub Gives : {X Y : Type 0} → (X → Y) → Result X FrameFault → Result Y FrameFault → Type 0
Gives view (Ok x) read = read ≡ Ok (view x)
Gives view (Err e) read = read ≡ Err e

-- a payload of this size, which may not be above the limit
abbrev pub payload_at : ℕ → ℕ → List ℕ → Result (List ℕ × List ℕ) FrameFault
payload_at limit size bytes = if nat_lt limit size then Err TooLong else bytes_at size bytes or Incomplete

-- the frame at the front of some bytes, and the bytes after it; or the first fault
unfoldable pub frame_at : ℕ → List ℕ → Result (Parts × List ℕ) FrameFault
frame_at limit bytes = do
  first ← u8_at bytes or Incomplete
  kind ← kind_of first.0 or UnknownKind
  channel ← number_at w16 first.1 or Incomplete
  size ← number_at w32 channel.1 or Incomplete
  payload ← payload_at limit size.0 size.1
  end ← u8_at payload.1 or Incomplete
  (if end.0 == 206 then Ok (record { kind = kind; channel = channel.0; payload = payload.0 }, end.1) else Err NoEnd)
