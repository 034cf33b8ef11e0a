-- Bytes as they are written inside a string.
use Rattle.std.proofs.Common.{◌≡◌, ◌∙◌, ℕ, ◌+◌, ◌*◌, ◌/◌, ◌%◌, ◌<◌, ◌&&◌, Bool, List, [], ◌∷◌, ◌++◌, All, ap, append_assoc, append-nil, arith, codes, if◌then◌else◌, length, map, not, refl, subst, sym, take, true, false}
use Rattle.std.proofs.lemmas.Bool.Decides.{nat_tests}
use Rattle.std.proofs.lemmas.List.Elements.{All-append, All-cons, All-from_get_or, All-head, All-nil, All-tail}
use Rattle.cdc_page_text.specs.Reading.{Reads, closed, plain, numbered}
use Rattle.cdc_page_text.specs.Strings.{IsSafe, QUOTE, digit, escaped, is_markup, is_plain, is_printable, unit}

-- a hexadecimal digit is safe
safe_digit : (n : ℕ) → n < 16 → IsSafe (digit n)
safe_digit n below = grind (arith, nat_tests, below)

-- a byte that stands for itself is safe
safe_plain : (byte : ℕ) → is_plain byte ≡ true → IsSafe byte
safe_plain byte is = grind (arith, nat_tests, is)

-- the bytes of a number are safe
safe_numbered : (byte : ℕ) → byte < 256 → All IsSafe (codes "\\u00" ++ digit (byte / 16) ∷ digit (byte % 16) ∷ [])
safe_numbered byte below =
    let high = digit (byte / 16) in
    let low = digit (byte % 16) in
    All-cons IsSafe 92 (117 ∷ 48 ∷ 48 ∷ high ∷ low ∷ []) refl (All-cons IsSafe 117 (48 ∷ 48 ∷ high ∷ low ∷ []) refl
    (All-cons IsSafe 48 (48 ∷ high ∷ low ∷ []) refl (All-cons IsSafe 48 (high ∷ low ∷ []) refl
    (All-cons IsSafe high (low ∷ []) (safe_digit (byte / 16) (omega (arith, below)))
    (All-cons IsSafe low [] (safe_digit (byte % 16) (omega (arith, below))) (All-nil IsSafe))))))

-- each character of a byte is safe, whether or not the byte stands for itself
safe_either : (b : Bool) (byte : ℕ) → is_plain byte ≡ b → byte < 256
    → All IsSafe (if b then byte ∷ [] else codes "\\u00" ++ digit (byte / 16) ∷ digit (byte % 16) ∷ [])
safe_either true byte is below = All-cons IsSafe byte [] (safe_plain byte is) (All-nil IsSafe)
safe_either false byte is below = safe_numbered byte below

-- so each character of a string is
pub safe_escaped : (bytes : List ℕ) → All (λ b. b < 256) bytes → All IsSafe (escaped bytes)
safe_escaped [] all = All-nil IsSafe
safe_escaped (byte ∷ rest) all =
    All-append IsSafe (unit byte) (escaped rest)
    (safe_either (is_plain byte) byte refl (All-head (λ b. b < 256) byte rest all))
    (safe_escaped rest (All-tail (λ b. b < 256) byte rest all))

-- a reader takes a byte that is a number
read_numbered : (byte : ℕ) (text read rest : List ℕ) → byte < 256 → Reads text read rest
    → Reads ((codes "\\u00" ++ digit (byte / 16) ∷ digit (byte % 16) ∷ []) ++ text) (byte ∷ read) rest
read_numbered byte text read rest below reads =
    let same : (byte / 16) * 16 + byte % 16 ≡ byte = omega (arith) in
    subst (λ b. Reads ((codes "\\u00" ++ digit (byte / 16) ∷ digit (byte % 16) ∷ []) ++ text) (b ∷ read) rest) same
    (numbered (byte / 16) (byte % 16) text read rest (omega (arith, below)) (omega (arith, below)) reads)

-- a reader takes a byte, whether or not it stands for itself
read_either : (b : Bool) (byte : ℕ) (text read rest : List ℕ) → is_plain byte ≡ b → byte < 256 → Reads text read rest
    → Reads ((if b then byte ∷ [] else codes "\\u00" ++ digit (byte / 16) ∷ digit (byte % 16) ∷ []) ++ text)
    (byte ∷ read) rest
read_either true byte text read rest is below reads = plain byte text read rest is reads
read_either false byte text read rest is below reads = read_numbered byte text read rest below reads

-- and so all of them, up to the closing quote
pub read_escaped : (bytes rest : List ℕ) → All (λ b. b < 256) bytes → Reads (escaped bytes ++ QUOTE ∷ rest) bytes rest
read_escaped [] rest all = closed rest
read_escaped (byte ∷ bytes) rest all =
    subst (λ text. Reads text (byte ∷ bytes) rest) (sym (append_assoc (unit byte) (escaped bytes) (QUOTE ∷ rest)))
    (read_either (is_plain byte) byte (escaped bytes ++ QUOTE ∷ rest) bytes rest refl
    (All-head (λ b. b < 256) byte bytes all) (read_escaped bytes rest (All-tail (λ b. b < 256) byte bytes all)))
