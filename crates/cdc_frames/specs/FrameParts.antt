-- Reading the size of a frame, whatever the text is. Cited by private contracts alone.
use Rattle.std.specs.Prelude.{◌≢◌, ℕ, List, ◌++◌, drop}
use Rattle.cdc_codec.specs.Parts.{number_at}

-- the number after " bytes", which follows a name of this length and a number; 0 if there is none
unfoldable pub size_at : ℕ → List ℕ → ℕ
size_at name_length text = (number_at (drop 6 (number_at (drop name_length text)).rest)).value

-- a text doesn't begin with these bytes
abbrev pub BeginsNot : List ℕ → List ℕ → Type 0
BeginsNot start text = (rest : List ℕ) → text ≢ start ++ rest
