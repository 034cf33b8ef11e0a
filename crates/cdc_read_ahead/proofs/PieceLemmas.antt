-- Pieces: what is read, sent and received one after another stays a prefix of what the reader gives.
use Rattle.std.proofs.Common.{◌≡◌, ◌<◌, ◌≤◌, ℕ, false, List, [], ◌∷◌, ◌++◌, Option, None, Some, length, take}
use Rattle.std.proofs.Common.{refl, sym, ap, subst, ◌∙◌, append_assoc, append-nil, arith}
use Rattle.std.specs.Prelude.{IfSome, is_some}
use Rattle.std.specs.Io.KnownBytes.{Consumes, IsAtEnd, Keeps}
use Rattle.std.proofs.KnownBytes.{Consumes-trans}
use Rattle.std.proofs.Math.Seq.{take-append_seam, take-length}
use Rattle.cdc_links.specs.Links.{Incoming, Outgoing, Takes, of_sender, with_received, with_sent}
use Rattle.cdc_links.proofs.Entries.{of_sender-snoc_own}
use Rattle.cdc_read_ahead.specs.declared.pieces.Piece.{Piece}
use Rattle.cdc_read_ahead.specs.declared.pieces.Piece.TheVariants.{Block, Last}
use Rattle.cdc_read_ahead.specs.declared.pieces.Ending.{Ending}
use Rattle.cdc_read_ahead.specs.declared.pieces.Ending.TheVariants.{AtEnd, Failed}
use Rattle.cdc_read_ahead.specs.declared.pieces.Sent.{Sent}
use Rattle.cdc_read_ahead.specs.declared.pieces.TheConstants.{BLOCK_BYTES}
use Rattle.cdc_read_ahead.specs.Pieces.{Answers, EndsAfter, IsBlockOf, IsFront, KeepsBlocks, MayFollow, ReadsPiece}
use Rattle.cdc_read_ahead.specs.Pieces.{Received, Receives, bytes_of, bytes_received, bytes_sent, ending_of, received_by}

-- one more piece was sent
pub bytes_sent-snoc : {O N : Type 0} (before : List (Sent O × N)) (next : Sent O × N)
    → bytes_sent (before ++ next ∷ []) ≡ bytes_sent before ++ bytes_of next.0.piece
bytes_sent-snoc [] next = append-nil (bytes_of next.0.piece)
bytes_sent-snoc (x ∷ xs) next =
    ap (λ (l : List ℕ). bytes_of x.0.piece ++ l) (bytes_sent-snoc xs next)
    ∙ sym (append_assoc (bytes_of x.0.piece) (bytes_sent xs) (bytes_of next.0.piece))

-- a piece came over a link with one sender
pub received : {O N : Type 0} (known : Option (List ℕ)) (old new : Incoming (Sent O) N) (value : Sent O)
    → old.senders ≡ 1 → Takes (λ _ before next. MayFollow known (bytes_sent before) next.0.piece) old value new
    → Receives known old value.piece new
received {O} {N} known old new value one takes =
    let first : takes.0 ≡ 0 = omega (arith, takes.2, one) in
    let after : new ≡ with_received old (0, (value, takes.1)) =
    subst (λ (j : ℕ). new ≡ with_received old (j, (value, takes.1))) first takes.4 in (
      ap (λ (it : Incoming (Sent O) N). bytes_received it) after
          ∙ ap (λ (l : List (Sent O × N)). bytes_sent l) (of_sender-snoc_own (0, (value, takes.1)) old.received)
          ∙ bytes_sent-snoc (of_sender 0 old.received) (value, takes.1),
      subst (λ (j : ℕ). MayFollow known (bytes_sent (of_sender j old.received)) value.piece) first takes.3,
      ap (λ (it : Incoming (Sent O) N). it.senders) after,
    )

-- a reader at its end had nothing left
pub at_end : (old new : Option (List ℕ)) (bytes : List ℕ) → Consumes old new bytes → bytes ≡ [] → IsAtEnd new
    → IsAtEnd old
at_end None new bytes reads none end = tt
at_end (Some xs) None bytes reads none end = absurd reads
at_end (Some xs) (Some ys) bytes reads none end = reads ∙ ap (λ (l : List ℕ). l ++ ys) none ∙ end

-- a block is made of the bytes that were read
pub reads_block : (old new : Option (List ℕ)) (bytes : List ℕ) (piece : Piece) → 0 < length bytes
    → length bytes ≤ BLOCK_BYTES → Consumes old new bytes → IsBlockOf bytes piece → ReadsPiece old piece new
reads_block old new bytes (Block block) some few reads is = (
  subst (λ (l : List ℕ). 0 < length l) (sym is) some,
  subst (λ (l : List ℕ). length l ≤ BLOCK_BYTES) (sym is) few,
  subst (Consumes old new) (sym is) reads,
)
reads_block old new bytes (Last AtEnd) some few reads is = absurd is
reads_block old new bytes (Last (Failed error)) some few reads is = tt

-- nothing was read yet
pub nothing_read : (known remaining : Option (List ℕ)) → Keeps known remaining → Consumes known remaining []
nothing_read None remaining kept = tt
nothing_read (Some all) None kept = absurd kept
nothing_read (Some all) (Some rest) kept = sym kept

-- what was read is a prefix
pub front : (known new : Option (List ℕ)) (bytes : List ℕ) → Consumes known new bytes → IsFront known bytes
front None new bytes reads = tt
front (Some all) None bytes reads = absurd reads
front (Some all) (Some rest) bytes reads = ap (take (length bytes)) reads ∙ take-append_seam bytes rest

-- at the end all was read
all_read : (known old : Option (List ℕ)) (bytes : List ℕ) → Consumes known old bytes → IsAtEnd old
    → IfSome known (λ all. all ≡ bytes)
all_read None old bytes reads end = tt
all_read (Some all) None bytes reads end = absurd reads
all_read (Some all) (Some rest) bytes reads end = reads ∙ ap (λ (l : List ℕ). bytes ++ l) end ∙ append-nil bytes

-- a piece that was read may be sent
pub may_send : (known old new : Option (List ℕ)) (before : List ℕ) (piece : Piece) → Consumes known old before
    → ReadsPiece old piece new → MayFollow known before piece
may_send known old new before (Block block) reads more = (
  more.0,
  more.1,
  front known new (before ++ block.items) (Consumes-trans known old new before block.items reads more.2),
)
may_send known old new before (Last AtEnd) reads more = all_read known old before reads more
may_send known old new before (Last (Failed error)) reads more = front known old before reads

-- after a block that was sent, so many bytes more were read
pub reads_on : (known old new : Option (List ℕ)) (before : List ℕ) (piece : Piece) → Consumes known old before
    → ReadsPiece old piece new → is_some (ending_of piece) ≡ false → Consumes known new (before ++ bytes_of piece)
reads_on known old new before (Block block) reads more goes =
    Consumes-trans known old new before block.items reads more.2
reads_on known old new before (Last ending) reads more goes = cc

-- what was read is what was sent, after one more block
pub sent_on : {O N : Type 0} (known old new : Option (List ℕ)) (before after : Outgoing (Sent O) N) (value : Sent O)
    (name : N) (piece : Piece) → after ≡ with_sent before (value, name) → value.piece ≡ piece
    → Consumes known old (bytes_sent before.sent) → ReadsPiece old piece new → is_some (ending_of piece) ≡ false
    → Consumes known new (bytes_sent after.sent)
sent_on {O} {N} known old new before after value name piece is same reads more goes =
    let grown : bytes_sent after.sent ≡ bytes_sent before.sent ++ bytes_of piece =
    ap (λ (it : Outgoing (Sent O) N). bytes_sent it.sent) is ∙ bytes_sent-snoc before.sent (value, name)
    ∙ ap (λ (p : Piece). bytes_sent before.sent ++ bytes_of p) same in
    subst (λ (l : List ℕ). Consumes known new l) (sym grown)
    (reads_on known old new (bytes_sent before.sent) piece reads more goes)

-- what was received when reading ended is a prefix
ended_front : (known : Option (List ℕ)) (bytes : List ℕ) (ending : Ending) → EndsAfter known bytes ending
    → IsFront known bytes
ended_front None bytes AtEnd ends = tt
ended_front (Some all) bytes AtEnd ends = ap (take (length bytes)) ends ∙ take-length bytes
ended_front known bytes (Failed error) ends = ends

-- the invariant after one more piece
pub keeps_on : {O N : Type 0} (known : Option (List ℕ)) (old new : Incoming (Sent O) N) (piece : Piece)
    → old.senders ≡ 1 → Receives known old piece new → KeepsBlocks known new (ending_of piece)
keeps_on known old new (Block block) one receives =
    (receives.2 ∙ one, subst (IsFront known) (sym receives.0) receives.1.2, tt)
keeps_on known old new (Last ending) one receives =
    let same : bytes_received new ≡ bytes_received old = receives.0 ∙ append-nil (bytes_received old) in (
      receives.2 ∙ one,
      subst (IsFront known) (sym same) (ended_front known (bytes_received old) ending receives.1),
      subst (λ (l : List ℕ). EndsAfter known l ending) (sym same) receives.1,
    )

-- the answer of a receive
pub answers : {O N : Type 0} (known : Option (List ℕ)) (old new : Incoming (Sent O) N) (piece : Piece)
    → Receives known old piece new
    → Answers known (received_by old None) piece (received_by new (ending_of piece))
answers known old new piece receives = (
  ap (λ (l : List ℕ). (let it : Received = record { bytes = l; ending = ending_of piece } in it)) receives.0,
  receives.1,
  tt,
)

-- the answer after the last piece
pub answers_last : {O N : Type 0} (known : Option (List ℕ)) (into : Incoming (Sent O) N) (ending : Ending)
    → KeepsBlocks known into (Some ending)
    → Answers known (received_by into (Some ending)) (Last ending) (received_by into (Some ending))
answers_last known into ending keeps = (
  ap (λ (l : List ℕ). (let it : Received = record { bytes = l; ending = Some ending } in it))
      (sym (append-nil (bytes_received into))),
  keeps.2,
  refl,
)
