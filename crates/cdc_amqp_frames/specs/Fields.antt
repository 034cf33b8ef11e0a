-- Fields at the front of some bytes, each with the bytes after it; and the bytes of strings.
use Rattle.std.specs.Prelude.{◌≡◌, ℕ, List, [], ◌∷◌, ◌++◌, length, take, drop, Option, Some, None, nat_lt}
use Rattle.std.specs.Prelude.{if◌then◌else◌}
use Rattle.std.specs.Int.{Width, w32, byte_len, from_be_bytes, to_be_bytes}

infixl 10 ◌>>=◌
-- reads on, unless nothing was read
abbrev pub ◌>>=◌ : {A B : Type 0} → Option A → (A → Option B) → Option B
(Some x) >>= f = f x
None >>= f = None

-- what a function returns, seen through a view, is what these bytes have
abbrev pub Finds : {X Y : Type 0} → (X → Y) → Option X → Option Y → Type 0
Finds view (Some x) read = read ≡ Some (view x)
Finds view None read = read ≡ None

-- a number of one byte
abbrev pub u8_at : List ℕ → Option (ℕ × List ℕ)
u8_at [] = None
u8_at (byte ∷ rest) = Some (byte, rest)

-- a number of this width, in big-endian order
abbrev pub number_at : Width → List ℕ → Option (ℕ × List ℕ)
number_at w bytes =
    if nat_lt (length bytes) (byte_len w) then None
    else Some (from_be_bytes w (take (byte_len w) bytes), drop (byte_len w) bytes)

-- this many bytes
abbrev pub bytes_at : ℕ → List ℕ → Option (List ℕ × List ℕ)
bytes_at count bytes = if nat_lt (length bytes) count then None else Some (take count bytes, drop count bytes)

-- a short string: its length in one byte, then its bytes
unfoldable pub short_at : List ℕ → Option (List ℕ × List ℕ)
short_at bytes = do
  count ← u8_at bytes
  bytes_at count.0 count.1

-- a long string: its length in four bytes, then its bytes
unfoldable pub long_at : List ℕ → Option (List ℕ × List ℕ)
long_at bytes = do
  count ← number_at w32 bytes
  bytes_at count.0 count.1

-- the bytes of a short string and of a long one
abbrev pub short : List ℕ → List ℕ
short text = length text ∷ text

abbrev pub long : List ℕ → List ℕ
long text = to_be_bytes w32 (length text) ++ text
