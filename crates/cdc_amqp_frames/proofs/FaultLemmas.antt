-- Bytes that don't begin with a frame, by how much of one they have.
use Rattle.std.proofs.Common.{◌≡◌, ℕ, ◌^◌, ◌<◌, true, false, ltb, eqb, List, [], ◌∷◌, ◌++◌, length}
use Rattle.std.proofs.Common.{Option, Some, None, Err, refl, ap, ◌∙◌, arith, append_assoc}
use Rattle.std.specs.Prelude.{IfSome}
use Rattle.std.specs.Int.{Width, w16, w32, byte_len, to_be_bytes}
use Rattle.std.specs.Io.KnownBytes.{Consumes}
use Rattle.std.proofs.lemmas.Bool.{lt-ltb}
use Rattle.cdc_amqp_frames.specs.declared.errors.FrameFault.{FrameFault}
use Rattle.cdc_amqp_frames.specs.declared.errors.FrameFault.TheVariants.{Incomplete, UnknownKind, TooLong, NoEnd}
use Rattle.cdc_amqp_frames.specs.declared.errors.ReadFrameError.{ReadFrameError}
use Rattle.cdc_amqp_frames.specs.declared.errors.ReadFrameError.TheVariants.{Read, Fault, OutOfMemory}
use Rattle.cdc_amqp_frames.specs.declared.frames.FrameKind.{FrameKind}
use Rattle.cdc_amqp_frames.specs.Fields.{number_at, bytes_at}
use Rattle.cdc_amqp_frames.specs.Frames.{frame_at, kind_of}
use Rattle.cdc_amqp_frames.specs.Reading.{EndsWithin, IsFault}
use Rattle.cdc_amqp_frames.proofs.FieldLaws.{wide16, wide32, number_again, bytes_again}

-- too few bytes for a number, or for so many bytes
number_short : (w : Width) (bytes : List ℕ) → length bytes < byte_len w → number_at w bytes ≡ None
number_short w bytes short = rw (lt-ltb _ _ short) refl

bytes_short : (count : ℕ) (bytes : List ℕ) → length bytes < count → bytes_at count bytes ≡ None
bytes_short count bytes short = rw (lt-ltb _ _ short) refl

-- the first bytes were read, and what is left makes a fault
pub fault_after : (limit : ℕ) (known left : Option (List ℕ)) (front : List ℕ) (fault : FrameFault)
    → Consumes known left front
    → ((rest : List ℕ) → frame_at limit (front ++ rest) ≡ Err fault)
    → IfSome known (λ bytes. frame_at limit bytes ≡ Err fault)
fault_after limit None left front fault reads is = tt
fault_after limit (Some bytes) None front fault reads is = absurd reads
fault_after limit (Some bytes) (Some rest) front fault reads is = ap (frame_at limit) reads ∙ is rest

-- the first bytes were read, and too few are left
pub ends_within : (T U : Type 0) (limit size : ℕ) (known left : Option (List ℕ)) (front : List ℕ) (e : ReadFrameError)
    → Consumes known left front
    → ((rest : List ℕ) → length rest < size → frame_at limit (front ++ rest) ≡ Err Incomplete)
    → EndsWithin {T = T} size left (Err e) → IsFault {T = U} limit known (Err e)
ends_within T U limit size known left front (Read why) reads short ends = tt
ends_within T U limit size known left front OutOfMemory reads short ends = tt
ends_within T U limit size None left front (Fault Incomplete) reads short ends = tt
ends_within T U limit size (Some bytes) None front (Fault Incomplete) reads short ends = absurd reads
ends_within T U limit size (Some bytes) (Some rest) front (Fault Incomplete) reads short ends =
    ap (frame_at limit) reads ∙ short rest ends
ends_within T U limit size known left front (Fault UnknownKind) reads short ends = absurd ends
ends_within T U limit size known left front (Fault TooLong) reads short ends = absurd ends
ends_within T U limit size known left front (Fault NoEnd) reads short ends = absurd ends

-- nothing
pub nothing : (limit : ℕ) (rest : List ℕ) → length rest < 1 → frame_at limit rest ≡ Err Incomplete
unfolding frame_at
nothing limit [] short = refl
nothing limit (byte ∷ rest) short = absurd (omega (arith, short))

-- a byte that is of no kind
pub no_kind : (limit byte : ℕ) (rest : List ℕ) → kind_of byte ≡ None
    → frame_at limit ((byte ∷ []) ++ rest) ≡ Err UnknownKind
unfolding frame_at
no_kind limit byte rest none = rw none refl

-- no channel
pub no_channel : (limit byte : ℕ) (kind : FrameKind) → kind_of byte ≡ Some kind
    → (rest : List ℕ) → length rest < 2 → frame_at limit ((byte ∷ []) ++ rest) ≡ Err Incomplete
unfolding frame_at
no_channel limit byte kind is rest short = rw (is, number_short w16 rest short) refl

-- no size
pub no_size : (limit byte channel : ℕ) (kind : FrameKind) → kind_of byte ≡ Some kind → channel < 2 ^ 16
    → (rest : List ℕ) → length rest < 4
    → frame_at limit (((byte ∷ []) ++ to_be_bytes w16 channel) ++ rest) ≡ Err Incomplete
unfolding frame_at
no_size limit byte channel kind is fits rest short =
    rw (is, number_again w16 (2 ^ 16) wide16 channel rest fits, number_short w32 rest short) refl

-- the kind, the channel and the size
abbrev pub head : ℕ → ℕ → ℕ → List ℕ
head byte channel size = ((byte ∷ []) ++ to_be_bytes w16 channel) ++ to_be_bytes w32 size

-- the same, and what follows
regrouped : (byte channel size : ℕ) (rest : List ℕ) → head byte channel size ++ rest
    ≡ byte ∷ (to_be_bytes w16 channel ++ (to_be_bytes w32 size ++ rest))
regrouped byte channel size rest =
    ap (λ (l : List ℕ). byte ∷ l) (append_assoc (to_be_bytes w16 channel) (to_be_bytes w32 size) rest)

-- a size above the limit
pub too_long : (limit byte channel size : ℕ) (kind : FrameKind) (rest : List ℕ) → kind_of byte ≡ Some kind
    → channel < 2 ^ 16 → size < 2 ^ 32 → ltb limit size ≡ true
    → frame_at limit (head byte channel size ++ rest) ≡ Err TooLong
unfolding frame_at
too_long limit byte channel size kind rest is fits small above =
    ap (frame_at limit) (regrouped byte channel size rest)
    ∙ rw (
      is,
      number_again w16 (2 ^ 16) wide16 channel (to_be_bytes w32 size ++ rest) fits,
      number_again w32 (2 ^ 32) wide32 size rest small,
      above,
    ) refl

-- not the whole payload
pub no_payload : (limit byte channel size : ℕ) (kind : FrameKind) → kind_of byte ≡ Some kind
    → channel < 2 ^ 16 → size < 2 ^ 32 → ltb limit size ≡ false → (rest : List ℕ) → length rest < size
    → frame_at limit (head byte channel size ++ rest) ≡ Err Incomplete
unfolding frame_at
no_payload limit byte channel size kind is fits small within rest short =
    ap (frame_at limit) (regrouped byte channel size rest)
    ∙ rw (
      is,
      number_again w16 (2 ^ 16) wide16 channel (to_be_bytes w32 size ++ rest) fits,
      number_again w32 (2 ^ 32) wide32 size rest small,
      within,
      bytes_short size rest short,
    ) refl

-- no end octet
pub no_last : (limit byte channel : ℕ) (kind : FrameKind) (payload : List ℕ) → kind_of byte ≡ Some kind
    → channel < 2 ^ 16 → length payload < 2 ^ 32 → ltb limit (length payload) ≡ false
    → (rest : List ℕ) → length rest < 1
    → frame_at limit ((head byte channel (length payload) ++ payload) ++ rest) ≡ Err Incomplete
unfolding frame_at
no_last limit byte channel kind payload is fits small within [] short =
    ap (frame_at limit) (append_assoc (head byte channel (length payload)) payload []
    ∙ regrouped byte channel (length payload) (payload ++ []))
    ∙ rw (
      is,
      number_again w16 (2 ^ 16) wide16 channel (to_be_bytes w32 (length payload) ++ (payload ++ [])) fits,
      number_again w32 (2 ^ 32) wide32 (length payload) (payload ++ []) small,
      within,
      bytes_again payload [],
    ) refl
no_last limit byte channel kind payload is fits small within (last ∷ rest) short = absurd (omega (arith, short))

-- another byte in its place
pub other_last : (limit byte channel last : ℕ) (kind : FrameKind) (payload rest : List ℕ) → kind_of byte ≡ Some kind
    → channel < 2 ^ 16 → length payload < 2 ^ 32 → ltb limit (length payload) ≡ false → eqb last 206 ≡ false
    → frame_at limit (((head byte channel (length payload) ++ payload) ++ (last ∷ [])) ++ rest) ≡ Err NoEnd
unfolding frame_at
other_last limit byte channel last kind payload rest is fits small within other =
    ap (frame_at limit) (append_assoc (head byte channel (length payload) ++ payload) (last ∷ []) rest
    ∙ append_assoc (head byte channel (length payload)) payload (last ∷ rest)
    ∙ regrouped byte channel (length payload) (payload ++ (last ∷ rest)))
    ∙ rw (
      is,
      number_again w16 (2 ^ 16) wide16 channel (to_be_bytes w32 (length payload) ++ (payload ++ (last ∷ rest))) fits,
      number_again w32 (2 ^ 32) wide32 (length payload) (payload ++ (last ∷ rest)) small,
      within,
      bytes_again payload (last ∷ rest),
      other,
    ) refl
