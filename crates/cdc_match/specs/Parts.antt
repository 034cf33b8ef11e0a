-- The two parts of a text round the first byte that parts it.
use Rattle.std.specs.Prelude.{ℕ, ◌+◌, ◌==◌, List, take, drop, Option, position}
use Rattle.std.specs.Option.{option_map}

-- the bytes before and after the first such byte, if there is one
abbrev pub parted : ℕ → List ℕ → Option (List ℕ × List ℕ)
parted separator bytes = option_map (λ i. (take i bytes, drop (i + 1) bytes)) (position (λ b. b == separator) bytes)
