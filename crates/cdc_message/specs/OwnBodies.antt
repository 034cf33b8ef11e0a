-- What readers of bodies as `encode` writes them answer. Public contracts cite `IsOwnBody` and `begins_with_digit` alone.
use Rattle.std.specs.Prelude.{◌≡◌, ℕ, ◌<◌, ◌^◌, List, [], ◌∷◌, ◌++◌, length, decimal, Bool, false}
use Rattle.std.specs.Char.{is_ascii_digit}
use Rattle.cdc_types.specs.declared.events.Event.{Event}
use Rattle.cdc_message.specs.Bodies.{body}
use Rattle.cdc_message.specs.Widths.{EventFits}

-- the bytes are what is written for an event whose numbers fit
abbrev pub IsOwnBody : List ℕ → Event → Type 0
IsOwnBody bytes event = (bytes ≡ body event) × EventFits event

-- whether a text begins with a digit
abbrev pub begins_with_digit : List ℕ → Bool
begins_with_digit [] = false
begins_with_digit (byte ∷ rest) = is_ascii_digit byte

-- A reader goes from an old rest of the body to a new one. The new one is empty if it doesn't find what it looks for.

-- it looks for this text
pub record ReadsText (text old new : List ℕ) : Type 0 where
  pub sound : 0 < length new → old ≡ text ++ new
  pub complete : (rest : List ℕ) → old ≡ text ++ rest → new ≡ rest

-- it looks for a text, and a number of so many bits
pub record ReadsNumber (bits : ℕ) (text old : List ℕ) (n : ℕ) (new : List ℕ) : Type 0 where
  pub fits : n < 2 ^ bits
  pub sound : 0 < length new → old ≡ text ++ (decimal n ++ new)
  pub complete : (written : ℕ) (rest : List ℕ) → old ≡ text ++ (decimal written ++ rest) → written < 2 ^ bits
      → begins_with_digit rest ≡ false → (n ≡ written) × (new ≡ rest)

-- it looks for a part of an event that fits
pub record ReadsPart {Part : Type 0} (Fits : Part → Type 0) (text_of : Part → List ℕ) (old : List ℕ) (part : Part)
    (new : List ℕ) : Type 0 where
  pub fits : Fits part
  pub sound : 0 < length new → old ≡ text_of part ++ new
  pub complete : (written : Part) (rest : List ℕ) → old ≡ text_of written ++ rest → Fits written
      → (part ≡ written) × (new ≡ rest)
