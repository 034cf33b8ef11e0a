-- The bytes of a field are read back.
use Rattle.std.proofs.Common.{◌≡◌, ℕ, ◌^◌, ◌<◌, false, ltb, List, ◌++◌, length, Some, refl, arith}
use Rattle.std.specs.Int.{Width, w16, w32, byte_len, from_be_bytes, to_be_bytes}
use Rattle.std.proofs.lemmas.Bool.{le-ltb}
use Rattle.std.proofs.lemmas.List.{take_at, drop_at, length-append}
use Rattle.std.proofs.lemmas.Nat.{from_be_bytes-to_be_bytes_2, from_be_bytes-to_be_bytes_4}
use Rattle.cdc_amqp_frames.specs.Fields.{number_at, bytes_at}

-- numbers below a limit have bytes of this width, from which they are read back
pub record IsWide (w : Width) (limit : ℕ) : Type 0 where
  pub len : (n : ℕ) → length (to_be_bytes w n) ≡ byte_len w
  pub again : (n : ℕ) → n < limit → from_be_bytes w (to_be_bytes w n) ≡ n

pub wide16 : IsWide w16 (2 ^ 16)
wide16 = record { len = λ n. refl; again = λ n lt. from_be_bytes-to_be_bytes_2 n lt }

pub wide32 : IsWide w32 (2 ^ 32)
wide32 = record { len = λ n. refl; again = λ n lt. from_be_bytes-to_be_bytes_4 n lt }

-- the bytes of a number are read as this number, whatever follows them
pub number_again : (w : Width) (limit : ℕ) (wide : IsWide w limit) (n : ℕ) (rest : List ℕ) → n < limit
    → number_at w (to_be_bytes w n ++ rest) ≡ Some (n, rest)
number_again w limit wide n rest lt =
    let len = wide.len n in
    let long : ltb (length (to_be_bytes w n ++ rest)) (byte_len w) ≡ false =
    le-ltb _ _ (omega (arith, length-append (to_be_bytes w n) rest)) in
    rw (
      long,
      take_at (to_be_bytes w n) rest (byte_len w) len,
      drop_at (to_be_bytes w n) rest (byte_len w) len,
      wide.again n lt,
    ) refl

-- so are bytes
pub bytes_again : (text rest : List ℕ) → bytes_at (length text) (text ++ rest) ≡ Some (text, rest)
bytes_again text rest =
    let long : ltb (length (text ++ rest)) (length text) ≡ false =
    le-ltb _ _ (omega (arith, length-append text rest)) in
    rw (long, take_at text rest (length text) refl, drop_at text rest (length text) refl) refl
