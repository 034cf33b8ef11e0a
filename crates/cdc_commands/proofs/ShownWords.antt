-- Words of a file as they are shown.
use Rattle.cdc_commands.proofs.Terms.{All-cons, All-nil, Bool, IsUtf8, List, [], ap, append_assoc, arith, codes, if◌then◌else◌, length, map, map-append, nat_lt, nat_tests, shown_byte, shown_bytes, slice_index, sym, take, take_more, true, ℕ, ◌++◌, ◌+◌, ◌<◌, ◌∙◌, ◌∷◌, ◌≡◌}
use Rattle.std.proofs.lemmas.Str.{IsUtf8-from_ascii}
use Rattle.std.proofs.lemmas.Str.Ascii.{IsAscii-from_all}
use Rattle.cdc_commands.specs.declared.words.TheConstants.{MOST_SHOWN}

-- a byte is shown as ASCII
ascii_byte : (byte : ℕ) → shown_byte byte < 128
ascii_byte byte = grind (arith)

-- so it is a text
pub shown_utf8 : (byte : ℕ) → IsUtf8 (shown_byte byte ∷ [])
shown_utf8 byte =
    IsUtf8-from_ascii _ (IsAscii-from_all (shown_byte byte ∷ [])
    (All-cons (λ b. b < 128) _ [] (ascii_byte byte) (All-nil _)))

-- one byte more is shown
pub one_more : (bytes : List ℕ) (i : ℕ) → i < length bytes
    → map shown_byte (take (i + 1) bytes) ≡ map shown_byte (take i bytes) ++ shown_byte (slice_index bytes i) ∷ []
one_more bytes i below =
    ap (map shown_byte) (take_more bytes i 0 below) ∙ map-append shown_byte (take i bytes) (slice_index bytes i ∷ [])

-- a word that is cut is shown with two dots
pub cut_off : (before word : List ℕ) → MOST_SHOWN < length word
    → (before ++ map shown_byte (take MOST_SHOWN word)) ++ codes ".." ≡ before ++ shown_bytes word
cut_off before word long =
    let test : nat_lt MOST_SHOWN (length word) ≡ true = grind (arith, nat_tests, long) in
    append_assoc before (map shown_byte (take MOST_SHOWN word)) (codes "..")
    ∙ ap (λ (b : Bool). before ++ (map shown_byte (take MOST_SHOWN word) ++ (if b then codes ".." else []))) (sym test)
