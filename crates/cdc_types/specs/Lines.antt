-- A table of results: each line has a test, and the first line whose test holds decides.
use Rattle.std.specs.Prelude.{Bool, Option, Some, None, List, [], ◌∷◌, if◌then◌else◌}

-- the result of the first line that applies
abbrev pub first_line : {R : Type 0} → List (Bool × R) → Option R
first_line [] = None
first_line (line ∷ lines) = if line.0 then Some line.1 else first_line lines
