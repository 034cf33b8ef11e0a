-- Frames are read back, wherever they are cut off.
use Rattle.std.proofs.Common.{◌≡◌, ℕ, ◌+◌, ◌-◌, ◌<◌, ◌≤◌, ◌^◌, List, [], ◌∷◌, ◌++◌, length, take, drop}
use Rattle.std.proofs.Common.{refl, sym, ap, ◌∙◌, arith, subst, append_assoc, append-nil, inl, inr}
use Rattle.std.specs.Prelude.{codes}
use Rattle.std.specs.List.{AllByRecursion}
use Rattle.std.proofs.lemmas.Bool.{cases_lt}
use Rattle.std.proofs.lemmas.List.{append_cancel_left, length-append, length-take-le, take-append-drop, take_all}
use Rattle.std.proofs.Math.Seq.{drop-append_seam, take-append-add, take-append_seam}
use Rattle.cdc_codec.specs.Parts.{number_at}
use Rattle.cdc_codec.specs.Texts.{spaced}
use Rattle.cdc_codec.proofs.PartLemmas.{reads_number}
use Rattle.cdc_frames.specs.Frames.{BeginsNoFrame, IsSplit, IsTorn, closing, frame, frame_line, frames, opening}
use Rattle.cdc_frames.specs.FrameParts.{size_at}
use Rattle.cdc_frames.specs.Laws.{CutsKeepWhatWasWritten, CutsKeepWholeFrames, FramesAreSplit, FramesCanBeAdded, IsCut}
use Rattle.cdc_frames.specs.Laws.{OtherContentsAreTorn, SplitsAreUnique, TornEndsCanBeCut}

-- ---- a frame's size

-- a line before other bytes, part by part
line_parts : (name : List ℕ) (number size : ℕ) (rest : List ℕ)
    → frame_line name number size ++ rest
    ≡ name ++ (spaced number ++ (codes " bytes" ++ (spaced size ++ (codes "\n" ++ rest))))
unfolding frame_line
line_parts name number size rest =
    let end = codes "\n" in
    let bytes = codes " bytes" in
    append_assoc (name ++ spaced number) ((bytes ++ spaced size) ++ end) rest
    ∙ append_assoc name (spaced number) (((bytes ++ spaced size) ++ end) ++ rest)
    ∙ ap (λ l. name ++ (spaced number ++ l)) (append_assoc (bytes ++ spaced size) end rest
    ∙ append_assoc bytes (spaced size) (end ++ rest))

-- the size that an opening line has is read back
opening_size : (name : List ℕ) (number size : ℕ) (rest : List ℕ) → number < 2 ^ 64 → size < 2 ^ 64
    → size_at (length name) (opening name number size ++ rest) ≡ size
unfolding size_at
opening_size name number size rest fits small =
    let t2 = 10 ∷ rest in
    let t1 = codes " bytes" ++ (spaced size ++ t2) in
    let skipped : drop (length name) (opening name number size ++ rest) ≡ spaced number ++ t1 =
    ap (drop (length name)) (line_parts name number size rest) ∙ drop-append_seam name (spaced number ++ t1) in
    let one : (number_at (spaced number ++ t1)).rest ≡ t1 =
    (reads_number (2 ^ 64) (spaced number ++ t1) _ _ (omega arith) refl refl number 32 (drop 1 t1) fits refl refl).1 in
    let two : (number_at (spaced size ++ t2)).value ≡ size =
    (reads_number (2 ^ 64) (spaced size ++ t2) _ _ (omega arith) refl refl size 10 rest small refl refl).0 in
    ap (λ t. (number_at (drop 6 (number_at t).rest)).value) skipped
    ∙ ap (λ t. (number_at (drop 6 t)).value) one ∙ two

-- a frame before other bytes
frame_parts : (name : List ℕ) (number : ℕ) (content rest : List ℕ)
    → frame name number content ++ rest
    ≡ opening name number (length content) ++ (content ++ (closing number (length content) ++ rest))
unfolding frame
frame_parts name number content rest =
    let first = opening name number (length content) in
    let last = closing number (length content) in
    append_assoc first (content ++ last) rest ∙ ap (λ l. first ++ l) (append_assoc content last rest)

pub frame_size : (name : List ℕ) (number : ℕ) (content rest : List ℕ) → number < 2 ^ 64 → length content < 2 ^ 64
    → size_at (length name) (frame name number content ++ rest) ≡ length content
frame_size name number content rest fits small =
    ap (size_at (length name)) (frame_parts name number content rest)
    ∙ opening_size name number (length content) _ fits small

-- a cut is no longer than what it is cut from
length-take-within : (n : ℕ) (l : List ℕ) → length (take n l) ≤ length l
length-take-within n l =
    let all = length-append (take n l) (drop n l) in
    let same : length (take n l ++ drop n l) ≡ length l = ap length (take-append-drop n l) in
    omega (arith, all, same)

-- ---- one frame

-- a text begins with one frame of a number at most
pub frame_unique : (name : List ℕ) (number : ℕ) (a b rest others : List ℕ) → number < 2 ^ 64
    → length a < 2 ^ 64 → length b < 2 ^ 64
    → frame name number a ++ rest ≡ frame name number b ++ others → a ≡ b
frame_unique name number a b rest others fits small other_small same =
    let size : length a ≡ length b =
    sym (frame_size name number a rest fits small) ∙ ap (size_at (length name)) same
    ∙ frame_size name number b others fits other_small in
    let more : opening name number (length a) ++ (a ++ (closing number (length a) ++ rest))
    ≡ opening name number (length a) ++ (b ++ (closing number (length b) ++ others)) =
    sym (frame_parts name number a rest) ∙ same ∙ frame_parts name number b others
    ∙ ap (λ n. opening name number n ++ (b ++ (closing number (length b) ++ others))) (sym size) in
    let content = append_cancel_left (opening name number (length a)) _ _ more in
    sym (take-append_seam a _) ∙ ap (take (length a)) content
    ∙ ap (λ n. take n (b ++ (closing number (length b) ++ others))) size ∙ take-append_seam b _

-- a frame has bytes, and at least those of its content
line_some : (name : List ℕ) (number size : ℕ) → 0 < length (frame_line name number size)
unfolding frame_line
line_some name number size =
    let all = length-append (name ++ spaced number) ((codes " bytes" ++ spaced size) ++ codes "\n") in
    let end = length-append (codes " bytes" ++ spaced size) (codes "\n") in
    omega (arith, all, end)

pub frame_bytes : (name : List ℕ) (number : ℕ) (content : List ℕ) → length content < length (frame name number content)
unfolding frame
frame_bytes name number content =
    let all = length-append (opening name number (length content)) (content ++ closing number (length content)) in
    let more = length-append content (closing number (length content)) in
    let some = line_some name number (length content) in
    omega (arith, all, more, some)

-- the same in a text that begins with it
pub content_within : (name : List ℕ) (number : ℕ) (content text rest : List ℕ)
    → text ≡ frame name number content ++ rest → length content + length rest < length text
content_within name number content text rest is =
    let bytes = frame_bytes name number content in
    let all = length-append (frame name number content) rest in
    let size : length text ≡ length (frame name number content ++ rest) = ap length is in
    omega (arith, bytes, all, size)

-- a text that begins with a frame of other bytes, which aren't a content, is torn if nothing follows the frame
pub other_torn : (name : List ℕ) (IsContent : List ℕ → Type 0) (number : ℕ) (text content rest : List ℕ)
    → number < 2 ^ 64 → length text < 2 ^ 64 → text ≡ frame name number content ++ rest → rest ≡ []
    → ¬ IsContent content → IsTorn name IsContent number text
other_torn name IsContent number text content rest fits small is none other content_too rest_too is_too =
    let same : content ≡ content_too =
    frame_unique name number content content_too rest rest_too fits
    (omega (arith, small, content_within name number content text rest is))
    (omega (arith, small, content_within name number content_too text rest_too is_too)) (sym is ∙ is_too) in
    let left : rest ≡ rest_too =
    append_cancel_left (frame name number content) _ _
    (sym is ∙ is_too ∙ ap (λ l. frame name number l ++ rest_too) (sym same)) in
    (sym left ∙ none, subst (λ l. ¬ IsContent l) same other)

-- and so is one that begins with no frame
pub none_torn : (name : List ℕ) (IsContent : List ℕ → Type 0) (number : ℕ) (text : List ℕ)
    → BeginsNoFrame name number text → IsTorn name IsContent number text
none_torn name IsContent number text none content rest is = absurd (none content rest is)

-- ---- frames

none_left : (name : List ℕ) (number : ℕ) → BeginsNoFrame name number []
none_left name number content rest is =
    let bytes = frame_bytes name number content in
    let all = length-append (frame name number content) rest in
    let none : 0 ≡ length (frame name number content ++ rest) = ap length is in
    absurd (omega (arith, bytes, all, none))

-- frames before others
pub frames-append : (name : List ℕ) (number : ℕ) (contents others : List (List ℕ))
    → frames name number (contents ++ others)
    ≡ frames name number contents ++ frames name (number + length contents) others
frames-append name number [] others = ap (λ n. frames name n others) (omega arith)
frames-append name number (content ∷ contents) others =
    let shift : (number + 1) + length contents ≡ number + length (content ∷ contents) = omega arith in
    ap (λ l. frame name number content ++ l) (frames-append name (number + 1) contents others
    ∙ ap (λ n. frames name (number + 1) contents ++ frames name n others) shift)
    ∙ sym (append_assoc (frame name number content) (frames name (number + 1) contents)
    (frames name (number + length (content ∷ contents)) others))

pub frames_split : (IsContent : List ℕ → Type 0) → FramesAreSplit IsContent
frames_split IsContent name number contents = record {
  whole = sym (append-nil (frames name number contents));
  rest = none_torn name IsContent (number + length contents) [] (none_left name (number + length contents));
}

-- one frame in front of a split text
pub split-first : (name : List ℕ) (IsContent : List ℕ → Type 0) (number : ℕ) (content text : List ℕ)
    (contents : List (List ℕ)) (torn : List ℕ) → IsSplit name IsContent (number + 1) text contents torn
    → IsSplit name IsContent number (frame name number content ++ text) (content ∷ contents) torn
split-first name IsContent number content text contents torn split =
    let shift : (number + 1) + length contents ≡ number + length (content ∷ contents) = omega arith in
    record {
      whole = ap (λ l. frame name number content ++ l) split.whole
          ∙ sym (append_assoc (frame name number content) (frames name (number + 1) contents) torn);
      rest = subst (λ n. IsTorn name IsContent n torn) shift split.rest;
    }

-- the split of what follows a first frame
pub split-rest : (name : List ℕ) (IsContent : List ℕ → Type 0) (number : ℕ) (content text : List ℕ)
    (contents : List (List ℕ)) (torn : List ℕ)
    → IsSplit name IsContent number (frame name number content ++ text) (content ∷ contents) torn
    → IsSplit name IsContent (number + 1) text contents torn
split-rest name IsContent number content text contents torn split =
    let shift : number + length (content ∷ contents) ≡ (number + 1) + length contents = omega arith in
    record {
      whole = append_cancel_left (frame name number content) _ _
          (split.whole ∙ append_assoc (frame name number content) (frames name (number + 1) contents) torn);
      rest = subst (λ n. IsTorn name IsContent n torn) shift split.rest;
    }

-- a cut in the first frame leaves none
pub cut_first : (name : List ℕ) (number : ℕ) (content others : List ℕ) (n : ℕ) → number < 2 ^ 64
    → length (frame name number content ++ others) < 2 ^ 64 → n < length (frame name number content)
    → BeginsNoFrame name number (take n (frame name number content ++ others))
cut_first name number content others n fits small early other rest is =
    let text = frame name number content ++ others in
    let long = length-append (frame name number content) others in
    let size : length (take n text) ≡ n = length-take-le n text (omega (arith, early, long)) in
    let long_too = length-append (frame name number other) rest in
    let read : length (take n text) ≡ length (frame name number other ++ rest) = ap length is in
    let bytes = frame_bytes name number content in
    let bytes_too = frame_bytes name number other in
    let whole : frame name number content ++ others ≡ frame name number other ++ (rest ++ drop n text) =
    sym (take-append-drop n text) ∙ ap (λ l. l ++ drop n text) is
    ∙ append_assoc (frame name number other) rest (drop n text) in
    let same : content ≡ other =
    frame_unique name number content other others (rest ++ drop n text) fits (omega (arith, small, long, bytes))
    (omega (arith, small, long, early, size, read, long_too, bytes_too)) whole in
    let equal : length (frame name number content) ≡ length (frame name number other) =
    ap (λ l. length (frame name number l)) same in
    absurd (omega (arith, early, size, read, long_too, equal))

-- a cut after the first frame is a cut of the others
cut_later : (name : List ℕ) (number : ℕ) (content others : List ℕ) (n : ℕ) → length (frame name number content) ≤ n
    → take n (frame name number content ++ others)
    ≡ frame name number content ++ take (n - length (frame name number content)) others
cut_later name number content others n late =
    let first = frame name number content in
    let sum : n ≡ length first + (n - length first) = omega (arith, late) in
    ap (λ k. take k (first ++ others)) sum ∙ take-append-add first others (n - length first)

-- which frames are kept of a cut after the first one
cut-first : (name : List ℕ) (IsContent : List ℕ → Type 0) (number : ℕ) (content : List ℕ)
    (contents : List (List ℕ)) (n : ℕ) → length (frame name number content) ≤ n
    → IsCut name IsContent (number + 1) contents (n - length (frame name number content))
    → IsCut name IsContent number (content ∷ contents) n
cut-first name IsContent number content contents n late cut =
    let first = frame name number content in
    let ended = cut.ended in
    let all = length-append first (frames name (number + 1) cut.kept) in
    record {
      kept = content ∷ cut.kept;
      lost = cut.lost;
      torn = cut.torn;
      parted = ap (λ l. content ∷ l) cut.parted;
      split = subst (λ text. IsSplit name IsContent number text (content ∷ cut.kept) cut.torn)
          (sym (cut_later name number content (frames name (number + 1) contents) n late))
          (split-first name IsContent number content _ cut.kept cut.torn cut.split);
      ended = omega (arith, late, ended, all);
      next = λ one others is.
          let early = cut.next one others is in
          let more = length-append first (frames name (number + 1) (cut.kept ++ one ∷ [])) in
          omega (arith, late, early, more);
    }

pub cuts : (IsContent : List ℕ → Type 0) → CutsKeepWholeFrames IsContent
cuts IsContent name number [] n fits = record {
  kept = [];
  lost = [];
  torn = [];
  parted = refl;
  split = record {
    whole = take_all n [] (omega arith);
    rest = none_torn name IsContent (number + 0) [] (none_left name (number + 0));
  };
  ended = omega arith;
  next = λ one others is. cc;
}
cuts IsContent name number (content ∷ contents) n fits =
    let first = frame name number content in
    let others = frames name (number + 1) contents in
    let all = length-append first others in
    let bytes = frame_bytes name number content in
    elim (cases_lt n (length first)) [
      | inl early ↦ record {
        kept = [];
        lost = content ∷ contents;
        torn = take n (first ++ others);
        parted = refl;
        split = record {
          whole = refl;
          rest = none_torn name IsContent (number + 0) (take n (first ++ others))
              (subst (λ k. BeginsNoFrame name k (take n (first ++ others))) (omega arith)
              (cut_first name number content others n (omega (arith, fits)) (omega (arith, fits)) early));
        };
        ended = omega arith;
        next = λ one later is. is_first n name number content contents early one later is;
      }
      | inr late ↦ cut-first name IsContent number content contents n late
          (cuts IsContent name (number + 1) contents (n - length first) (omega (arith, fits, all, bytes)))
    ]
  where
    is_first : (n : ℕ) (name : List ℕ) (number : ℕ) (content : List ℕ) (contents : List (List ℕ))
        → n < length (frame name number content)
        → (one : List ℕ) (later : List (List ℕ)) → content ∷ contents ≡ one ∷ later
        → n < length (frame name number one ++ [])
    is_first n name number content contents early one later is =
        let same : content ≡ one = cc in
        let bytes : length (frame name number content) ≡ length (frame name number one) =
        ap (λ l. length (frame name number l)) same in
        let all = length-append (frame name number one) [] in
        omega (arith, early, bytes, all)

-- ---- what a text is split into

-- a text that begins with a frame of a content is split into it and further ones
pub split_begins : (name : List ℕ) (IsContent : List ℕ → Type 0) (number : ℕ) (content text : List ℕ)
    (kept : List (List ℕ)) (torn : List ℕ) → number < 2 ^ 64
    → length (frame name number content ++ text) < 2 ^ 64 → IsContent content
    → IsSplit name IsContent number (frame name number content ++ text) kept torn
    → (others : List (List ℕ)) × (kept ≡ content ∷ others) × IsSplit name IsContent (number + 1) text others torn
split_begins name IsContent number content text [] torn fits small is split =
    let last : IsTorn name IsContent number torn = subst (λ n. IsTorn name IsContent n torn) (omega arith) split.rest in
    absurd ((last content text (sym split.whole)).1 is)
split_begins name IsContent number content text (k ∷ kept) torn fits small is split =
    let rest = frames name (number + 1) kept ++ torn in
    let first : frame name number content ++ text ≡ frame name number k ++ rest =
    split.whole ∙ append_assoc (frame name number k) (frames name (number + 1) kept) torn in
    let same : content ≡ k =
    frame_unique name number content k text rest fits
    (omega (arith, small, content_within name number content _ text refl))
    (omega (arith, small, content_within name number k _ rest first)) first in (
      kept,
      ap (λ l. l ∷ kept) (sym same),
      split-rest name IsContent number content text kept torn
          (subst (λ l. IsSplit name IsContent number (frame name number content ++ text) (l ∷ kept) torn)
          (sym same) split),
    )

pub split_unique : (IsContent : List ℕ → Type 0) → SplitsAreUnique IsContent
split_unique IsContent name number text [] [] torn torn_too fits are are_too one other =
    (refl, sym one.whole ∙ other.whole)
split_unique IsContent name number text [] (b ∷ others) torn torn_too fits are are_too one other =
    let last : IsTorn name IsContent number torn = subst (λ n. IsTorn name IsContent n torn) (omega arith) one.rest in
    absurd ((last b (frames name (number + 1) others ++ torn_too)
    (sym one.whole ∙ other.whole
    ∙ append_assoc (frame name number b) (frames name (number + 1) others) torn_too)).1 are_too.0)
split_unique IsContent name number text (a ∷ contents) others torn torn_too fits are are_too one other =
    let rest = frames name (number + 1) contents ++ torn in
    let first : text ≡ frame name number a ++ rest =
    one.whole ∙ append_assoc (frame name number a) (frames name (number + 1) contents) torn in
    let within = content_within name number a text rest first in
    let small : length (frame name number a ++ rest) < 2 ^ 64 =
    subst (λ t. length t < 2 ^ 64) first (omega (arith, fits)) in
    let later = split-rest name IsContent number a rest contents torn
    (subst (λ t. IsSplit name IsContent number t (a ∷ contents) torn) first one) in
    let begins = split_begins name IsContent number a rest others torn_too (omega (arith, fits)) small are.0
    (subst (λ t. IsSplit name IsContent number t others torn_too) first other) in
    let are_later : AllByRecursion IsContent begins.0 =
    (subst (AllByRecursion IsContent) begins.1 are_too).1 in
    let more = split_unique IsContent name (number + 1) rest contents begins.0 torn torn_too
    (omega (arith, fits, within)) are.1 are_later later begins.2 in
    (ap (λ l. a ∷ l) more.0 ∙ sym begins.1, more.1)

pub written_kept : (IsContent : List ℕ → Type 0) → CutsKeepWhatWasWritten IsContent
written_kept IsContent name number [] later kept torn n fits are late split = (kept, refl)
written_kept IsContent name number (content ∷ written) later kept torn n fits are late split =
    let first = frame name number content in
    let others = frames name (number + 1) (written ++ later) in
    let all = length-append first others in
    let all_written = length-append first (frames name (number + 1) written) in
    let bytes = frame_bytes name number content in
    let cut = take (n - length first) others in
    let after : take n (first ++ others) ≡ first ++ cut =
    cut_later name number content others n (omega (arith, late, all_written)) in
    let long = length-append first cut in
    let less = length-take-within (n - length first) others in
    let begins = split_begins name IsContent number content cut kept torn (omega (arith, fits))
    (omega (arith, fits, all, long, less)) are.0
    (subst (λ t. IsSplit name IsContent number t kept torn) after split) in
    let more = written_kept IsContent name (number + 1) written later begins.0 torn (n - length first)
    (omega (arith, fits, all, bytes)) are.1 (omega (arith, late, all_written)) begins.2 in
    (more.0, begins.1 ∙ ap (λ l. content ∷ l) more.1)

-- ---- a torn end

-- what is in front of nothing is nothing
front_none : (a b : List ℕ) → a ++ b ≡ [] → a ≡ []
front_none [] b none = refl
front_none (x ∷ a) b none = absurd cc

-- a torn end is torn still once it is cut
cut_torn : (name : List ℕ) (IsContent : List ℕ → Type 0) (number : ℕ) (torn : List ℕ) (n : ℕ)
    → IsTorn name IsContent number torn → IsTorn name IsContent number (take n torn)
cut_torn name IsContent number torn n last content rest is =
    let was = last content (rest ++ drop n torn)
    (sym (take-append-drop n torn) ∙ ap (λ l. l ++ drop n torn) is
    ∙ append_assoc (frame name number content) rest (drop n torn)) in
    (front_none rest (drop n torn) was.0, was.1)

pub torn_cut : (IsContent : List ℕ → Type 0) → TornEndsCanBeCut IsContent
torn_cut IsContent name number text contents torn n split late =
    let whole = frames name number contents in
    let sum : n ≡ length whole + (n - length whole) = omega (arith, late) in (
      take (n - length whole) torn,
      record {
        whole = ap (take n) split.whole ∙ ap (λ k. take k (whole ++ torn)) sum
            ∙ take-append-add whole torn (n - length whole);
        rest = cut_torn name IsContent (number + length contents) torn (n - length whole) split.rest;
      },
    )

pub frame_added : (IsContent : List ℕ → Type 0) → FramesCanBeAdded IsContent
frame_added IsContent name number text contents torn content split =
    let whole = frames name number contents in
    let last = number + length contents in
    let cut : take (length whole) text ≡ whole = ap (take (length whole)) split.whole ∙ take-append_seam whole torn in
    let text_is : take (length whole) text ++ frame name last content ≡ frames name number (contents ++ content ∷ []) =
    ap (λ l. l ++ frame name last content) cut
    ∙ ap (λ l. whole ++ l) (sym (append-nil (frame name last content)))
    ∙ sym (frames-append name number contents (content ∷ [])) in
    subst (λ t. IsSplit name IsContent number t (contents ++ content ∷ []) []) (sym text_is)
    (frames_split IsContent name number (contents ++ content ∷ []))

-- ---- a last frame with something else

-- each frame has a byte
frames_count : (name : List ℕ) (number : ℕ) (contents : List (List ℕ))
    → length contents ≤ length (frames name number contents)
frames_count name number [] = omega arith
frames_count name number (content ∷ contents) =
    let bytes = frame_bytes name number content in
    let all = length-append (frame name number content) (frames name (number + 1) contents) in
    let more = frames_count name (number + 1) contents in
    omega (arith, bytes, all, more)

pub last_torn : (IsContent : List ℕ → Type 0) → OtherContentsAreTorn IsContent
last_torn IsContent name number contents content fits other =
    let whole = frames name number contents in
    let last = number + length contents in
    let added : frames name number (contents ++ content ∷ []) ≡ whole ++ frame name last content =
    frames-append name number contents (content ∷ []) ∙ ap (λ l. whole ++ l) (append-nil (frame name last content)) in
    let size : length (frames name number (contents ++ content ∷ [])) ≡ length (whole ++ frame name last content) =
    ap length added in
    let all = length-append whole (frame name last content) in
    let count = frames_count name number contents in
    let bytes = frame_bytes name last content in
    record {
      whole = added;
      rest = other_torn name IsContent last (frame name last content) content []
          (omega (arith, fits, size, all, count, bytes)) (omega (arith, fits, size, all))
          (sym (append-nil (frame name last content))) refl other;
    }

-- ---- for the code that reads a frame

-- a text that begins with a frame, by its parts; its size is the one that is read
pub record Parts (name : List ℕ) (number size : ℕ) (text content rest : List ℕ) : Type 0 where
  pub size_is : size ≡ length content
  pub text_is : text ≡ opening name number size ++ (content ++ (closing number size ++ rest))

pub parts_of : (name : List ℕ) (number size : ℕ) (text content rest : List ℕ) → number < 2 ^ 64
    → length text < 2 ^ 64 → size ≡ size_at (length name) text → text ≡ frame name number content ++ rest
    → Parts name number size text content rest
parts_of name number size text content rest fits small reads is =
    let within = content_within name number content text rest is in
    let size_is : size ≡ length content =
    reads ∙ ap (size_at (length name)) is
    ∙ frame_size name number content rest fits (omega (arith, small, within)) in
    record {
      size_is = size_is;
      text_is = is ∙ frame_parts name number content rest
          ∙ ap (λ n. opening name number n ++ (content ++ (closing number n ++ rest))) (sym size_is);
    }

-- the parts make a frame
pub frame_of : (name : List ℕ) (number size : ℕ) (text content rest : List ℕ) → length content ≡ size
    → text ≡ opening name number size ++ (content ++ (closing number size ++ rest))
    → text ≡ frame name number content ++ rest
frame_of name number size text content rest long is =
    is ∙ ap (λ n. opening name number n ++ (content ++ (closing number n ++ rest))) (sym long)
    ∙ sym (frame_parts name number content rest)
