-- What holds of frames, whatever they contain.
use Rattle.std.specs.Prelude.{◌≡◌, ◌≤◌, ◌<◌, ◌+◌, ◌^◌, ℕ, List, [], ◌∷◌, ◌++◌, length, take}
use Rattle.std.specs.List.{AllByRecursion}
use Rattle.cdc_frames.specs.Frames.{IsSplit, frame, frames}

-- the text of frames is split into them
abbrev pub FramesAreSplit : (List ℕ → Type 0) → Type 0
FramesAreSplit IsContent =
    (name : List ℕ) (number : ℕ) (contents : List (List ℕ))
    → IsSplit name IsContent number (frames name number contents) contents []

-- what a text is split into is determined
abbrev pub SplitsAreUnique : (List ℕ → Type 0) → Type 0
SplitsAreUnique IsContent =
    (name : List ℕ) (number : ℕ) (text : List ℕ) (contents others : List (List ℕ)) (torn torn_too : List ℕ)
    → number + length text < 2 ^ 64 → AllByRecursion IsContent contents → AllByRecursion IsContent others
    → IsSplit name IsContent number text contents torn → IsSplit name IsContent number text others torn_too
    → (contents ≡ others) × (torn ≡ torn_too)

-- frames that are cut after n bytes are split into the first of them: those that end at or before the cut
pub record IsCut (name : List ℕ) (IsContent : List ℕ → Type 0) (number : ℕ) (contents : List (List ℕ)) (n : ℕ)
    : Type 0 where
  pub kept : List (List ℕ)
  pub lost : List (List ℕ)
  pub torn : List ℕ
  pub parted : contents ≡ kept ++ lost
  pub split : IsSplit name IsContent number (take n (frames name number contents)) kept torn
  pub ended : length (frames name number kept) ≤ n
  pub next : (first : List ℕ) (others : List (List ℕ)) → lost ≡ first ∷ others
      → n < length (frames name number (kept ++ first ∷ []))

abbrev pub CutsKeepWholeFrames : (List ℕ → Type 0) → Type 0
CutsKeepWholeFrames IsContent =
    (name : List ℕ) (number : ℕ) (contents : List (List ℕ)) (n : ℕ)
    → number + length (frames name number contents) < 2 ^ 64 → IsCut name IsContent number contents n

-- so whatever was whole before a cut is kept
abbrev pub CutsKeepWhatWasWritten : (List ℕ → Type 0) → Type 0
CutsKeepWhatWasWritten IsContent =
    (name : List ℕ) (number : ℕ) (written later kept : List (List ℕ)) (torn : List ℕ) (n : ℕ)
    → number + length (frames name number (written ++ later)) < 2 ^ 64 → AllByRecursion IsContent written
    → length (frames name number written) ≤ n
    → IsSplit name IsContent number (take n (frames name number (written ++ later))) kept torn
    → (more : List (List ℕ)) × (kept ≡ written ++ more)

-- a torn end can be cut off bit by bit: wherever that stops, the same frames are read
abbrev pub TornEndsCanBeCut : (List ℕ → Type 0) → Type 0
TornEndsCanBeCut IsContent =
    (name : List ℕ) (number : ℕ) (text : List ℕ) (contents : List (List ℕ)) (torn : List ℕ) (n : ℕ)
    → IsSplit name IsContent number text contents torn → length (frames name number contents) ≤ n
    → (left : List ℕ) × IsSplit name IsContent number (take n text) contents left

-- once it is cut off, one more frame can be added: the text is then split into the frames and this one
abbrev pub FramesCanBeAdded : (List ℕ → Type 0) → Type 0
FramesCanBeAdded IsContent =
    (name : List ℕ) (number : ℕ) (text : List ℕ) (contents : List (List ℕ)) (torn content : List ℕ)
    → IsSplit name IsContent number text contents torn
    → IsSplit name IsContent number
    (take (length (frames name number contents)) text ++ frame name (number + length contents) content)
    (contents ++ content ∷ []) []

-- if the last frame contains something else, the frames before it are read, and it is torn
abbrev pub OtherContentsAreTorn : (List ℕ → Type 0) → Type 0
OtherContentsAreTorn IsContent =
    (name : List ℕ) (number : ℕ) (contents : List (List ℕ)) (content : List ℕ)
    → number + length (frames name number (contents ++ content ∷ [])) < 2 ^ 64 → ¬ IsContent content
    → IsSplit name IsContent number (frames name number (contents ++ content ∷ [])) contents
    (frame name (number + length contents) content)
