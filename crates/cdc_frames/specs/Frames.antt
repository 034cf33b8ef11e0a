-- Frames: contents that are written one after another, each between two lines, so that a frame which is cut off is
-- found.
use Rattle.std.specs.Prelude.{◌≡◌, ◌≢◌, ◌+◌, ℕ, List, [], ◌∷◌, ◌++◌, codes, length}
use Rattle.cdc_codec.specs.Texts.{named}

-- a line with a name, the number of a frame, and how many bytes its content has
unfoldable pub frame_line : List ℕ → ℕ → ℕ → List ℕ
frame_line name number size = named name number ++ (named (codes " bytes") size ++ codes "\n")

-- the line before a frame's content, which begins with the name of all frames
abbrev pub opening : List ℕ → ℕ → ℕ → List ℕ
opening name number size = frame_line name number size

-- the line after it
abbrev pub closing : ℕ → ℕ → List ℕ
closing number size = frame_line (codes "end") number size

-- a frame
unfoldable pub frame : List ℕ → ℕ → List ℕ → List ℕ
frame name number content =
    opening name number (length content) ++ (content ++ closing number (length content))

-- frames with these contents, numbered from this number on
abbrev pub frames : List ℕ → ℕ → List (List ℕ) → List ℕ
frames name number [] = []
frames name number (content ∷ others) = frame name number content ++ frames name (number + 1) others

-- a text doesn't begin with a whole frame of this number
abbrev pub BeginsNoFrame : List ℕ → ℕ → List ℕ → Type 0
BeginsNoFrame name number text = (content rest : List ℕ) → text ≢ frame name number content ++ rest

-- A text begins with no further frame, or is one that isn't followed by anything, with bytes that aren't a content. So
-- are the bytes that an interrupted write leaves: some are missing, or the disk has those between two lines not yet.
abbrev pub IsTorn : List ℕ → (List ℕ → Type 0) → ℕ → List ℕ → Type 0
IsTorn name IsContent number text =
    (content rest : List ℕ) → text ≡ frame name number content ++ rest → (rest ≡ []) × (¬ IsContent content)

-- a text is frames with these contents, all that it has, and then a torn end
pub record IsSplit (name : List ℕ) (IsContent : List ℕ → Type 0) (number : ℕ) (text : List ℕ)
    (contents : List (List ℕ)) (torn : List ℕ) : Type 0 where
  pub whole : text ≡ frames name number contents ++ torn
  pub rest : IsTorn name IsContent (number + length contents) torn
