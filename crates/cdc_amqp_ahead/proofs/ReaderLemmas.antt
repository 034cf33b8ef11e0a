-- A reader over blocks: what is left of the bytes stays the same while blocks are received.
use Rattle.std.proofs.Common.{◌≡◌, ◌<◌, ℕ, List, [], ◌∷◌, ◌++◌, Bool, Option, None, Some, Result, Ok, Err, length, drop}
use Rattle.std.proofs.Common.{refl, sym, subst, ap, ◌∙◌, append_assoc, append-nil, arith, length-append}
use Rattle.std.specs.Prelude.{IfOk}
use Rattle.std.specs.Io.KnownBytes.{Consumes, IsAtEnd, Keeps, prepend_known}
use Rattle.std.proofs.KnownBytes.{starts_with_rest}
use Rattle.std.proofs.Math.Seq.{drop-append_seam, drop-length}
use Rattle.cdc_read_ahead.specs.declared.pieces.Piece.{Piece}
use Rattle.cdc_read_ahead.specs.declared.pieces.Piece.TheVariants.{Block, Last}
use Rattle.cdc_read_ahead.specs.declared.pieces.Ending.TheVariants.{AtEnd}
use Rattle.cdc_read_ahead.specs.Pieces.{Answers, MayFollow, Received, bytes_of}
use Rattle.cdc_read_ahead.specs.Readers.{unreceived}
use Rattle.cdc_amqp_frames.specs.Frames.{Parts, frame, view}
use Rattle.cdc_amqp_frames.specs.declared.errors.ReadFrameError.{ReadFrameError}
use Rattle.cdc_amqp_frames.specs.declared.frames.Frame.{Frame}
use Rattle.cdc_amqp_dialogue.specs.Worlds.{Sight, Asked, Gave}
use Rattle.cdc_amqp_ahead.specs.Readers.{WasSeen, is_ready_in}

-- what a receive takes of what was not received
takes : (known : Option (List ℕ)) (before : List ℕ) (piece : Piece) → MayFollow known before piece
    → Consumes (unreceived known before) (unreceived known (before ++ bytes_of piece)) (bytes_of piece)
takes None before piece may = tt
takes (Some all) before (Block block) may =
    let rest = drop (length (before ++ block.items)) all in
    ap (drop (length before))
    (starts_with_rest all (before ++ block.items) may.2 ∙ append_assoc before block.items rest)
    ∙ drop-append_seam before (block.items ++ rest)
takes (Some all) before (Last ending) may =
    ap (λ (l : List ℕ). drop (length l) all) (sym (append-nil before))

-- bytes move from one end to the other
moved : (a b : Option (List ℕ)) (held block : List ℕ) → Consumes a b block
    → Keeps (prepend_known held a) (prepend_known (held ++ block) b)
moved None b held block consumes = tt
moved (Some xs) None held block consumes = absurd consumes
moved (Some xs) (Some ys) held block consumes =
    append_assoc held block ys ∙ ap (λ (l : List ℕ). held ++ l) (sym consumes)

-- where the same bytes are known before and after, what is kept is the same
same_left : (known : Option (List ℕ)) (held after before now : List ℕ)
    → Keeps (prepend_known held (unreceived known before)) (prepend_known after (unreceived known now))
    → prepend_known after (unreceived known now) ≡ prepend_known held (unreceived known before)
same_left None held after before now kept = refl
same_left (Some all) held after before now kept = ap Some kept

-- a piece that was received and added to what is held
pub left_kept : (known : Option (List ℕ)) (old new : Received) (piece : Piece) (held after : List ℕ)
    → Answers known old piece new → after ≡ held ++ bytes_of piece
    → prepend_known after (unreceived known new.bytes) ≡ prepend_known held (unreceived known old.bytes)
left_kept known old new piece held after answers added =
    let grown : new.bytes ≡ old.bytes ++ bytes_of piece = ap (λ (it : Received). it.bytes) answers.0 in
    ap (λ (l : List ℕ). prepend_known l (unreceived known new.bytes)) added
    ∙ ap (λ (l : List ℕ). prepend_known (held ++ bytes_of piece) (unreceived known l)) grown
    ∙ same_left known held (held ++ bytes_of piece) old.bytes (old.bytes ++ bytes_of piece)
    (moved (unreceived known old.bytes) (unreceived known (old.bytes ++ bytes_of piece)) held (bytes_of piece)
    (takes known old.bytes piece answers.1))

-- a block that is added to what is held
pub added_to : (held mid after block bytes : List ℕ) → after ≡ mid ++ block → mid ≡ held → block ≡ bytes
    → after ≡ held ++ bytes
added_to held mid after block bytes added same is =
    added ∙ ap (λ (l : List ℕ). l ++ block) same ∙ ap (λ (l : List ℕ). held ++ l) is

-- after a block was added something is held
pub some_held : (held after block : List ℕ) → after ≡ held ++ block → 0 < length block → length after ≡ 0 → ⊥
some_held held after block added some none = omega (arith, ap length added, length-append held block, some, none)

-- at the start all is left
pub all_left : (known : Option (List ℕ)) (held bytes : List ℕ) → held ≡ [] → bytes ≡ []
    → prepend_known held (unreceived known bytes) ≡ known
all_left None held bytes none nothing = refl
all_left (Some all) held bytes none nothing =
    ap Some (ap (λ (l : List ℕ). l ++ drop (length bytes) all) none
    ∙ ap (λ (l : List ℕ). drop (length l) all) nothing)

-- after the last piece nothing is left but what is held
pub at_last : (known : Option (List ℕ)) (old new : Received) (held : List ℕ) → Answers known old (Last AtEnd) new
    → held ≡ [] → IsAtEnd (prepend_known held (unreceived known new.bytes))
at_last None old new held answers none = tt
at_last (Some all) old new held answers none =
    let whole : all ≡ new.bytes =
    answers.1 ∙ sym (append-nil old.bytes) ∙ sym (ap (λ (it : Received). it.bytes) answers.0) in
    ap (λ (l : List ℕ). l ++ drop (length new.bytes) all) none
    ∙ ap (drop (length new.bytes)) whole ∙ drop-length new.bytes

module _ (known : Option (List ℕ)) where
  -- a reader that was seen so is asked, and answers right
  pub seen_asked : (left : Option (List ℕ)) (sights : List Sight) (now new : Option (List ℕ)) (held : List ℕ)
      (received : Received) (answer : Bool) → prepend_known held (unreceived known received.bytes) ≡ new → new ≡ now
      → answer ≡ is_ready_in held received → WasSeen known left sights now
      → WasSeen known left (sights ++ Asked answer ∷ []) new
  seen_asked left [] now new held received answer has same right seen =
      (held, received, has ∙ same ∙ seen, right, same ∙ seen)
  seen_asked left (Asked other ∷ later) now new held received answer has same right seen =
      (seen.0, seen.1, seen.2, seen.3, seen_asked left later now new held received answer has same right seen.4)
  seen_asked left (Gave f ∷ later) now new held received answer has same right seen =
      (seen.0, seen.1, seen_asked seen.0 later now new held received answer has same right seen.2)

  -- it gives the next frame
  pub seen_gave : (left : Option (List ℕ)) (sights : List Sight) (now rest : Option (List ℕ)) (f : Parts)
      → Consumes now rest (frame f) → WasSeen known left sights now
      → WasSeen known left (sights ++ Gave f ∷ []) rest
  seen_gave left [] now rest f reads seen =
      (rest, subst (λ (o : Option (List ℕ)). Consumes o rest (frame f)) seen reads, refl)
  seen_gave left (Asked other ∷ later) now rest f reads seen =
      (seen.0, seen.1, seen.2, seen.3, seen_gave left later now rest f reads seen.4)
  seen_gave left (Gave g ∷ later) now rest f reads seen =
      (seen.0, seen.1, seen_gave seen.0 later now rest f reads seen.2)

  -- the same of a frame that may not be read
  pub gives : {D : Type 0} (left : D → Option (List ℕ)) (old new : Option (List ℕ)) (read : Result Frame ReadFrameError)
      → IfOk read (λ it. Consumes old new (frame (view it)))
      → IfOk read (λ it. (first : D) (sights : List Sight) → WasSeen known (left first) sights old
      → WasSeen known (left first) (sights ++ Gave (view it) ∷ []) new)
  gives left old new (Ok it) reads = λ first sights seen. seen_gave (left first) sights old new (view it) reads seen
  gives left old new (Err error) reads = tt
