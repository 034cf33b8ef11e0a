-- Lines, where their first one is known up to its line feed, up to the end, or in part.
use Rattle.std.proofs.Common.{◌≡◌, ◌≢◌, ℕ, ◌<◌, ◌≤◌, ◌+◌, List, [], ◌∷◌, ◌++◌, length, take, drop, refl, sym, ap}
use Rattle.std.proofs.Common.{subst, ◌∙◌, arith, ne_eqb, eq-eqb, zero-le, get_or-take, length-take-le}
use Rattle.std.proofs.Common.{take-append-drop, append_assoc, append-nil, length-append, true, Bool, None, Some}
use Rattle.std.proofs.Common.{Option}
use Rattle.std.specs.Prelude.{◌==◌, IfSome, not}
use Rattle.std.specs.Io.{StartsWith}
use Rattle.std.specs.Io.KnownBytes.{Consumes, IsAtEnd}
use Rattle.std.proofs.KnownBytes.{starts_with_rest}
use Rattle.std.proofs.lemmas.List.Elements.{All-head, All-tail, All-append, All-same, All-from_get_or}
use Rattle.memchr.specs.Find.{Nowhere, Passes, is_byte}
use Rattle.cdc_follow.specs.declared.entries.TheConstants.{LONGEST_LINE}
use Rattle.cdc_follow.specs.declared.lines.Part.{Part}
use Rattle.cdc_follow.specs.declared.lines.PartEnd.{PartEnd}
use Rattle.cdc_follow.specs.declared.lines.PartEnd.TheVariants.{Feed, Stream}
use Rattle.cdc_follow.specs.LineParts.{AddsPart, HasNoFeed, IsPart, PartIsLong, feed_of}
use Rattle.cdc_follow.specs.Lines.{FirstLineIsLong, TakesLine, join_first, lines_of}

-- a byte that is no line feed joins the first line
lines_of-byte : (byte : ℕ) (rest : List ℕ) → byte ≢ 10 → lines_of (byte ∷ rest) ≡ join_first byte (lines_of rest)
unfolding lines_of
lines_of-byte byte rest other = rw (ne_eqb byte 10 other) refl

-- a line that ends with its line feed
pub lines_of-feed : (line rest : List ℕ) → HasNoFeed line → lines_of (line ++ 10 ∷ rest) ≡ line ∷ lines_of rest
unfolding lines_of
lines_of-feed [] rest clean = refl
lines_of-feed (byte ∷ line) rest clean =
    lines_of-byte byte (line ++ 10 ∷ rest) (All-head (λ b. b ≢ 10) byte line clean)
    ∙ ap (join_first byte) (lines_of-feed line rest (All-tail (λ b. b ≢ 10) byte line clean))

-- the last line, where no line feed ends it
pub lines_of-last : (byte : ℕ) (line : List ℕ) → HasNoFeed (byte ∷ line) → lines_of (byte ∷ line) ≡ (byte ∷ line) ∷ []
unfolding lines_of
lines_of-last byte [] clean = lines_of-byte byte [] (All-head (λ b. b ≢ 10) byte [] clean)
lines_of-last byte (next ∷ line) clean =
    lines_of-byte byte (next ∷ line) (All-head (λ b. b ≢ 10) byte (next ∷ line) clean)
    ∙ ap (join_first byte) (lines_of-last next line (All-tail (λ b. b ≢ 10) byte (next ∷ line) clean))

-- the first line begins with bytes that have no line feed
pub record Begins (front : List ℕ) (lines : List (List ℕ)) : Type 0 where
  pub more : List ℕ
  pub others : List (List ℕ)
  pub is : lines ≡ (front ++ more) ∷ others

-- one more byte in front of it
begins-byte : (byte : ℕ) (front : List ℕ) (lines : List (List ℕ)) → Begins front lines
    → Begins (byte ∷ front) (join_first byte lines)
begins-byte byte front lines begins = record {
  more = begins.more;
  others = begins.others;
  is = ap (join_first byte) begins.is;
}

-- what joins a first line begins one
begins-join : (byte : ℕ) (lines : List (List ℕ)) → Begins (byte ∷ []) (join_first byte lines)
begins-join byte [] = record { more = []; others = []; is = refl }
begins-join byte (line ∷ rest) = record { more = line; others = rest; is = refl }

pub lines_of-front : (byte : ℕ) (front rest : List ℕ) → HasNoFeed (byte ∷ front)
    → Begins (byte ∷ front) (lines_of (byte ∷ (front ++ rest)))
lines_of-front byte [] rest clean =
    rw (lines_of-byte byte rest (All-head (λ b. b ≢ 10) byte [] clean)) (begins-join byte (lines_of rest))
lines_of-front byte (next ∷ front) rest clean =
    rw (lines_of-byte byte (next ∷ (front ++ rest)) (All-head (λ b. b ≢ 10) byte (next ∷ front) clean))
    (begins-byte byte (next ∷ front) _
    (lines_of-front next front rest (All-tail (λ b. b ≢ 10) byte (next ∷ front) clean)))

-- so a line of which too many bytes are known is too long
pub too_long : (front rest : List ℕ) → HasNoFeed front → LONGEST_LINE < length front → FirstLineIsLong (front ++ rest)
too_long [] rest clean long = absurd (omega (arith, long))
too_long (byte ∷ front) rest clean long =
    let begins = lines_of-front byte front rest clean in (
      (byte ∷ front) ++ begins.more,
      begins.others,
      begins.is,
      omega (arith, long, length-append (byte ∷ front) begins.more),
    )

-- before the first line feed there is none
pub clean_before : (bytes : List ℕ) (n : ℕ) → n ≤ length bytes → Nowhere (Passes (is_byte 10) bytes) 0 n
    → HasNoFeed (take n bytes)
clean_before bytes n within nowhere =
    All-from_get_or (λ b. b ≢ 10) (take n bytes) 0 (λ i below.
    let short : i < n = omega (arith, below, length-take-le n bytes within) in
    λ same. nowhere i zero-le short (eq-eqb _ _ (sym (get_or-take n bytes i 0 short) ∙ same)))

-- parts of a line that follow each other
clean_both : (line part after : List ℕ) → after ≡ line ++ part → HasNoFeed line → HasNoFeed part → HasNoFeed after
clean_both line part after added clean more =
    All-same (λ b. b ≢ 10) after (line ++ part) added (All-append (λ b. b ≢ 10) line part clean more)

pub clean_after : (old new : Option (List ℕ)) (line after : List ℕ) (end : PartEnd) → HasNoFeed line
    → AddsPart old new line after end → HasNoFeed after
clean_after old new line after end clean adds = clean_both line adds.part after adds.added clean adds.clean

-- what was read of a line, and then the rest of it with its line feed
pub line_fed : (old mid new : Option (List ℕ)) (line part after : List ℕ) → Consumes old mid line → HasNoFeed line
    → after ≡ line ++ part → HasNoFeed part → Consumes mid new (part ++ 10 ∷ [])
    → IfSome old (λ bytes. TakesLine true bytes after new)
line_fed None mid new line part after first clean added more second = tt
line_fed (Some x) None new line part after first clean added more second = absurd first
line_fed (Some x) (Some y) None line part after first clean added more second = absurd second
line_fed (Some x) (Some y) (Some z) line part after first clean added more second =
    let whole : x ≡ after ++ 10 ∷ z =
    first ∙ ap (λ l. line ++ l) (second ∙ append_assoc part (10 ∷ []) z) ∙ sym (append_assoc line part (10 ∷ z))
    ∙ ap (λ l. l ++ 10 ∷ z) (sym added) in
    (z, refl, ap lines_of whole ∙ lines_of-feed after z (clean_both line part after added clean more))

-- no line is in no bytes
pub lines_of-none : lines_of [] ≡ []
unfolding lines_of
lines_of-none = refl

-- bytes without a line feed, behind which there are none, are the last line, or none
last_of : (line : List ℕ) → HasNoFeed line → TakesLine (not (length line == 0)) line line (Some [])
last_of [] clean = refl
last_of (byte ∷ line) clean =
    let some : not (length (byte ∷ line) == 0) ≡ true = grind arith in
    subst (λ b. TakesLine b (byte ∷ line) (byte ∷ line) (Some [])) (sym some)
    ([], refl, lines_of-last byte line clean ∙ ap (λ rest. (byte ∷ line) ∷ rest) (sym lines_of-none))

pub line_last : (old mid new : Option (List ℕ)) (line part after : List ℕ) (more : Bool) → Consumes old mid line
    → HasNoFeed line → after ≡ line ++ part → part ≡ [] → IsAtEnd mid → Consumes mid new (part ++ [])
    → more ≡ not (length after == 0) → IfSome old (λ bytes. TakesLine more bytes after new)
line_last None mid new line part after more first clean added none end second is = tt
line_last (Some x) None new line part after more first clean added none end second is = absurd first
line_last (Some x) (Some y) None line part after more first clean added none end second is = absurd second
line_last (Some x) (Some y) (Some z) line part after more first clean added none end second is =
    let same : after ≡ line = added ∙ ap (λ l. line ++ l) none ∙ append-nil line in
    let whole : x ≡ line = first ∙ ap (λ l. line ++ l) end ∙ append-nil line in
    let left : z ≡ [] = sym (second ∙ ap (λ l. (l ++ []) ++ z) none) ∙ end in
    rw (is, whole, left, same) (last_of line clean)

-- what was read of a line, and then too much
pub line_long : (old mid : Option (List ℕ)) (line : List ℕ) → Consumes old mid line → HasNoFeed line
    → PartIsLong mid line → IfSome old FirstLineIsLong
line_long None mid line first clean long = tt
line_long (Some x) None line first clean long = absurd first
line_long (Some x) (Some y) line first clean long =
    let part = long.0 in
    let rest = long.1 in
    let whole : x ≡ (line ++ part) ++ rest =
    first ∙ ap (λ l. line ++ l) long.2 ∙ sym (append_assoc line part rest) in
    subst FirstLineIsLong (sym whole) (too_long (line ++ part) rest
    (All-append (λ b. b ≢ 10) line part clean long.3)
    (omega (arith, long.4, length-append line part)))

-- bytes in a reader's buffer that are too many for a line
pub long_part : (old : Option (List ℕ)) (available before : List ℕ) (part : Part)
    → IfSome old (λ bytes. StartsWith bytes available) → IsPart available part
    → LONGEST_LINE < length before + part.length → PartIsLong old before
long_part None available before part front is long = tt
long_part (Some bytes) available before part front is long =
    let rest = drop (length available) bytes in (
      take part.length available,
      drop part.length available ++ rest,
      starts_with_rest bytes available front
          ∙ ap (λ l. l ++ rest) (sym (take-append-drop part.length available))
          ∙ append_assoc (take part.length available) (drop part.length available) rest,
      is.clean,
      omega (arith, long, length-take-le part.length available is.inside),
    )

-- ---- a part that was added to what was read of a line

-- with the line feed
pub fed : (old mid new : Option (List ℕ)) (line after : List ℕ) (end : PartEnd) → end ≡ Feed → Consumes old mid line
    → HasNoFeed line → AddsPart mid new line after end → IfSome old (λ bytes. TakesLine true bytes after new)
fed old mid new line after end is first clean adds =
    line_fed old mid new line adds.part after first clean adds.added adds.clean
    (subst (λ e. Consumes mid new (adds.part ++ feed_of e)) is adds.reads)

-- at the end of the stream
pub ended : (old mid new : Option (List ℕ)) (line after : List ℕ) (end : PartEnd) (more : Bool) → end ≡ Stream
    → Consumes old mid line → HasNoFeed line → AddsPart mid new line after end → more ≡ not (length after == 0)
    → IfSome old (λ bytes. TakesLine more bytes after new)
ended old mid new line after end more is first clean adds takes =
    line_last old mid new line adds.part after more first clean adds.added (adds.last is).0 (adds.last is).1
    (subst (λ e. Consumes mid new (adds.part ++ feed_of e)) is adds.reads) takes
