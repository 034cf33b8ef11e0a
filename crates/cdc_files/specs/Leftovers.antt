-- What an interrupted replacement can have left. Private contracts alone cite this.
use Rattle.std.specs.Prelude.{ℕ, Bool, List, nat_le, eqb, ◌&&◌, ◌||◌, length}
use Rattle.std.specs.List.{starts_with}

-- these bytes can be left of a content with this mark: they are at most so many, and begin as the mark does, as far as
-- they go
abbrev pub is_short_leftover : List ℕ → ℕ → List ℕ → Bool
is_short_leftover mark most bytes =
    nat_le (length bytes) most && (starts_with eqb bytes mark || starts_with eqb mark bytes)
