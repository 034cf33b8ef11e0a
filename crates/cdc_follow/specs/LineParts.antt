-- What reading a part of a line does to known bytes. Cited by private contracts alone.
use Rattle.std.specs.Prelude.{◌≡◌, ◌≢◌, ℕ, ◌+◌, ◌<◌, ◌≤◌, List, [], ◌∷◌, ◌++◌, All, IfSome, Option, length, take}
use Rattle.std.specs.Io.KnownBytes.{Consumes, IsAtEnd}
use Rattle.cdc_follow.specs.declared.entries.TheConstants.{LONGEST_LINE}
use Rattle.cdc_follow.specs.declared.lines.Part.{Part}
use Rattle.cdc_follow.specs.declared.lines.PartEnd.{PartEnd}
use Rattle.cdc_follow.specs.declared.lines.PartEnd.TheVariants.{More, Feed, Stream}

-- no byte is a line feed
abbrev pub HasNoFeed : List ℕ → Type 0
HasNoFeed bytes = All (λ b. b ≢ 10) bytes

-- the line feed of a part, if one ends it
abbrev pub feed_of : PartEnd → List ℕ
feed_of More = []
feed_of Feed = 10 ∷ []
feed_of Stream = []

-- bytes begin with this part of a line
pub record IsPart (bytes : List ℕ) (part : Part) : Type 0 where
  pub inside : part.length ≤ length bytes
  pub within : part.taken ≤ length bytes
  pub takes : take part.taken bytes ≡ take part.length bytes ++ feed_of part.end
  pub clean : HasNoFeed (take part.length bytes)
  pub last : part.end ≡ Stream → length bytes ≡ 0

-- a part was read and added
pub record AddsPart (old new : Option (List ℕ)) (before after : List ℕ) (end : PartEnd) : Type 0 where
  pub part : List ℕ
  pub added : after ≡ before ++ part
  pub clean : HasNoFeed part
  pub reads : Consumes old new (part ++ feed_of end)
  pub last : end ≡ Stream → (part ≡ []) × IsAtEnd old

-- the next bytes of the line are too many
abbrev pub PartIsLong : Option (List ℕ) → List ℕ → Type 0
PartIsLong old before = IfSome old (λ bytes. (part : List ℕ) × (rest : List ℕ) × (bytes ≡ part ++ rest)
    × HasNoFeed part × (LONGEST_LINE < length before + length part))
