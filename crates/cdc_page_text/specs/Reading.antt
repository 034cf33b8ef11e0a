-- How JSON reads a string.
use Rattle.std.specs.Prelude.{◌≡◌, ℕ, ◌+◌, ◌*◌, ◌<◌, ◌++◌, List, [], ◌∷◌, codes, true}
use Rattle.cdc_page_text.specs.Strings.{QUOTE, digit, is_plain}

-- A reader of JSON that is inside a string takes these characters off the text, up to the closing quote, and leaves
-- the rest. (JSON has other escapes as well, which no page uses.)
pub data Reads : List ℕ → List ℕ → List ℕ → Type 0 where
  closed : (rest : List ℕ) → Reads (QUOTE ∷ rest) [] rest
  plain : (c : ℕ) (text read rest : List ℕ) → is_plain c ≡ true → Reads text read rest → Reads (c ∷ text) (c ∷ read) rest
  numbered : (high low : ℕ) (text read rest : List ℕ) → high < 16 → low < 16 → Reads text read rest → Reads (codes "\\u00" ++ digit high ∷ digit low ∷ text) ((high * 16 + low) ∷ read) rest
