-- Taking a stream line by line.
use Rattle.std.specs.Prelude.{◌≡◌, ℕ, ◌+◌, ◌≤◌, List, Option, Some, None}

-- What a line leads to, which has this number and is taken after so many entries. Either the next line follows, after
-- as many entries or more; then `Taken` holds of how many, of what took them, of the next line's number and of the
-- bytes that are left. Or taking stops, for a reason for which `Stops` holds; then `Stands` holds of how many entries
-- were taken, and of what took them.
abbrev pub LeadsOn : {S T : Type 0} → (ℕ → S → ℕ → List ℕ → Type 0) → (T → S → Type 0) → (ℕ → S → Type 0)
    → ℕ → ℕ → Option T → S → Option (List ℕ) → Type 0
LeadsOn Taken Stops Stands count number None new left =
    (rest : List ℕ) × (left ≡ Some rest) × (more : ℕ) × (count ≤ more) × Taken more new (number + 1) rest
LeadsOn Taken Stops Stands count number (Some stop) new left =
    Stops stop new × ((more : ℕ) × (count ≤ more) × Stands more new)
