-- The bytes of a frame are read back.
use Rattle.std.proofs.Common.{◌≡◌, ℕ, ◌^◌, ◌<◌, false, ltb, List, [], ◌∷◌}
use Rattle.std.proofs.Common.{◌++◌, length, Some, Ok, refl, ap, ◌∙◌}
use Rattle.std.proofs.Common.{append_assoc, arith}
use Rattle.std.specs.Int.{w16, w32, to_be_bytes}
use Rattle.std.proofs.lemmas.Bool.{le-ltb}
use Rattle.cdc_amqp_frames.specs.declared.frames.FrameKind.{FrameKind}
use Rattle.cdc_amqp_frames.specs.declared.frames.FrameKind.TheVariants.{Method, Header, Body, Heartbeat}
use Rattle.cdc_amqp_frames.specs.Frames.{Parts, Fits, frame, frame_at, kind_byte, kind_of}
use Rattle.cdc_amqp_frames.proofs.FieldLaws.{wide16, wide32, number_again, bytes_again}

-- the byte of a kind is read as this kind
kind_again : (kind : FrameKind) → kind_of (kind_byte kind) ≡ Some kind
kind_again Method = refl
kind_again Header = refl
kind_again Body = refl
kind_again Heartbeat = refl

-- the parts of a frame, and what follows them
regrouped : (f : Parts) (rest : List ℕ) → frame f ++ rest ≡ kind_byte f.kind
    ∷ (to_be_bytes w16 f.channel ++ (to_be_bytes w32 (length f.payload) ++ (f.payload ++ 206 ∷ rest)))
regrouped f rest =
    ap (λ (l : List ℕ). kind_byte f.kind ∷ (to_be_bytes w16 f.channel ++ (to_be_bytes w32 (length f.payload) ++ l)))
    (append_assoc f.payload (206 ∷ []) rest)

-- the frame is read back
pub frame_again : (limit : ℕ) (f : Parts) (rest : List ℕ) → Fits limit f → limit < 2 ^ 32
    → frame_at limit (frame f ++ rest) ≡ Ok (f, rest)
unfolding frame_at
frame_again limit f rest fits bound =
    let within : ltb limit (length f.payload) ≡ false = le-ltb _ _ fits.payload in
    let small : length f.payload < 2 ^ 32 = omega (arith, fits.payload) in
    ap (frame_at limit) (regrouped f rest)
    ∙ rw (
      kind_again f.kind,
      number_again w16 (2 ^ 16) wide16 f.channel (to_be_bytes w32 (length f.payload) ++ (f.payload ++ 206 ∷ rest))
          fits.channel,
      number_again w32 (2 ^ 32) wide32 (length f.payload) (f.payload ++ 206 ∷ rest) small,
      within,
      bytes_again f.payload (206 ∷ rest),
    ) refl
