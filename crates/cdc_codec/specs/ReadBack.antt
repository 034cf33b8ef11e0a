-- What was written is read back. Nothing is stated about other texts.
use Rattle.std.specs.Prelude.{◌≡◌, ℕ, ◌<◌, Bool, true, false, List, ◌∷◌, ◌++◌}
use Rattle.std.specs.Char.{is_ascii_digit}
use Rattle.std.specs.List.{list_all}
use Rattle.cdc_codec.specs.Texts.{is_in_line, spaced, yes_or_no}

-- if the text begins with a space and a number below the bound, and the next byte is no digit, that number is read, and
-- the bytes after it are left
abbrev pub ReadsNumber : ℕ → List ℕ → ℕ → List ℕ → Type 0
ReadsNumber bound text value left =
    (n end : ℕ) (rest : List ℕ) → n < bound → is_ascii_digit end ≡ false → text ≡ spaced n ++ end ∷ rest
    → (value ≡ n) × (left ≡ end ∷ rest)

-- if the text begins with a flag, that flag is read, and the bytes after it are left
abbrev pub ReadsFlag : List ℕ → Bool → List ℕ → Type 0
ReadsFlag text value left =
    (flag : Bool) (rest : List ℕ) → text ≡ yes_or_no flag ++ rest → (value ≡ flag) × (left ≡ rest)

-- if the text begins with a line and its line feed, that line is read, and the bytes after the line feed are left
abbrev pub ReadsLine : List ℕ → List ℕ → List ℕ → Type 0
ReadsLine text value left =
    (line rest : List ℕ) → list_all is_in_line line ≡ true → text ≡ line ++ 10 ∷ rest
    → (value ≡ line) × (left ≡ rest)
