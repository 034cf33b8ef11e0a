-- What the reading thread sends, and what is received of it.
use Rattle.std.specs.Prelude.{◌≡◌, ◌<◌, ◌≤◌, ℕ, Option, Some, None, IfSome, List, [], ◌∷◌, ◌++◌, length}
use Rattle.std.specs.Io.{StartsWith}
use Rattle.std.specs.Io.KnownBytes.{Consumes, IsAtEnd, Keeps}
use Rattle.cdc_links.specs.Links.{Incoming, of_sender}
use Rattle.cdc_read_ahead.specs.declared.pieces.Piece.{Piece}
use Rattle.cdc_read_ahead.specs.declared.pieces.Piece.TheVariants.{Block, Last}
use Rattle.cdc_read_ahead.specs.declared.pieces.Ending.{Ending}
use Rattle.cdc_read_ahead.specs.declared.pieces.Ending.TheVariants.{AtEnd, Failed}
use Rattle.cdc_read_ahead.specs.declared.pieces.Sent.{Sent}
use Rattle.cdc_read_ahead.specs.declared.pieces.TheConstants.{BLOCK_BYTES}

-- the bytes of a piece
abbrev pub bytes_of : Piece → List ℕ
bytes_of (Block block) = block.items
bytes_of (Last ending) = []

-- how reading ends with a piece, if it is the last one
abbrev pub ending_of : Piece → Option Ending
ending_of (Block block) = None
ending_of (Last ending) = Some ending

-- these bytes are a prefix of what a reader gives, if that is known
abbrev pub IsFront : Option (List ℕ) → List ℕ → Type 0
IsFront known bytes = IfSome known (λ all. StartsWith all bytes)

-- reading can end so after these bytes: at the end they are all that the reader gives
abbrev pub EndsAfter : Option (List ℕ) → List ℕ → Ending → Type 0
EndsAfter known bytes AtEnd = IfSome known (λ all. all ≡ bytes)
EndsAfter known bytes (Failed error) = IsFront known bytes

-- this piece may follow these bytes: a block of the next ones, or the last piece
abbrev pub MayFollow : Option (List ℕ) → List ℕ → Piece → Type 0
MayFollow known before (Block block) =
    (0 < length block.items) × (length block.items ≤ BLOCK_BYTES) × IsFront known (before ++ block.items)
MayFollow known before (Last ending) = EndsAfter known before ending

-- What was received so far of what a reader gives: the bytes of all blocks, joined, and how reading ended.
pub record Received : Type 0 where
  pub bytes : List ℕ
  pub ending : Option Ending

-- What a receive answers, of a reader that gives these bytes: a piece that may follow what was received before, which
-- grows by its bytes. After the last piece there is no other.
abbrev pub Answers : Option (List ℕ) → Received → Piece → Received → Type 0
Answers known old piece new =
    (new ≡ record { bytes = old.bytes ++ bytes_of piece; ending = ending_of piece })
    × MayFollow known old.bytes piece
    × IfSome old.ending (λ ending. piece ≡ Last ending)

-- the same of a receive that may find nothing ready: then nothing has changed
abbrev pub AnswersIfSome : Option (List ℕ) → Received → Option Piece → Received → Type 0
AnswersIfSome known old None new = (new ≡ old) × (old.ending ≡ None)
AnswersIfSome known old (Some piece) new = Answers known old piece new

-- the bytes are those that a reader will give, if they are known
abbrev pub AreBytesOf : Option (List ℕ) → Option (List ℕ) → Type 0
AreBytesOf known remaining = Keeps known remaining

-- a failure
abbrev pub IsFailure : Piece → Type 0
IsFailure (Block block) = ⊥
IsFailure (Last AtEnd) = ⊥
IsFailure (Last (Failed error)) = Unit {0}

-- a block of these bytes, or a failure
abbrev pub IsBlockOf : List ℕ → Piece → Type 0
IsBlockOf bytes (Block block) = block.items ≡ bytes
IsBlockOf bytes (Last ending) = IsFailure (Last ending)

-- what is read of a reader that has these bytes left, and what is left then
abbrev pub ReadsPiece : Option (List ℕ) → Piece → Option (List ℕ) → Type 0
ReadsPiece old (Block block) new =
    (0 < length block.items) × (length block.items ≤ BLOCK_BYTES) × Consumes old new block.items
ReadsPiece old (Last AtEnd) new = IsAtEnd old
ReadsPiece old (Last (Failed error)) new = Unit {0}

-- the same of a read that may be interrupted: then nothing was read
abbrev pub ReadsIfSome : Option (List ℕ) → Option Piece → Option (List ℕ) → Type 0
ReadsIfSome old None new = Keeps old new
ReadsIfSome old (Some piece) new = ReadsPiece old piece new

-- the bytes of these pieces, joined
abbrev pub bytes_sent : {O N : Type 0} → List (Sent O × N) → List ℕ
bytes_sent [] = []
bytes_sent (next ∷ later) = bytes_of next.0.piece ++ bytes_sent later

-- what was received over a link with one sender, joined
abbrev pub bytes_received : {O N : Type 0} → Incoming (Sent O) N → List ℕ
bytes_received into = bytes_sent (of_sender 0 into.received)

-- what contracts see of a link and of how reading ended
abbrev pub received_by : {O N : Type 0} → Incoming (Sent O) N → Option Ending → Received
received_by into ending = record { bytes = bytes_received into; ending = ending }

-- a link with one sender, over which a prefix of what a reader gives was received; and how reading ended
abbrev pub KeepsBlocks : {O N : Type 0} → Option (List ℕ) → Incoming (Sent O) N → Option Ending → Type 0
KeepsBlocks known into ending =
    (into.senders ≡ 1) × IsFront known (bytes_received into) × IfSome ending (EndsAfter known (bytes_received into))

-- a piece was received over the link
abbrev pub Receives : {O N : Type 0} → Option (List ℕ) → Incoming (Sent O) N → Piece → Incoming (Sent O) N → Type 0
Receives known old piece new =
    (bytes_received new ≡ bytes_received old ++ bytes_of piece)
    × MayFollow known (bytes_received old) piece
    × (new.senders ≡ old.senders)

-- the same, or nothing has changed
abbrev pub ReceivesIfSome : {O N : Type 0} → Option (List ℕ) → Incoming (Sent O) N → Option Piece
    → Incoming (Sent O) N → Type 0
ReceivesIfSome known old None new = new ≡ old
ReceivesIfSome known old (Some piece) new = Receives known old piece new
