-- The bytes of a new SQLite file.
use Rattle.std.specs.Prelude.{◌∷◌, ◌++◌, codes, replicate, List, ℕ}

-- this many zeros
abbrev pub zeros : ℕ → List ℕ
zeros count = replicate count 0

-- an SQLite file without tables. Its header states pages of 4096 bytes, a rollback journal, one page, the schema's
-- format 4 and UTF-8; the rest of its only page states that this is a table's and has no rows
abbrev pub empty_file : List ℕ
empty_file = codes "SQLite format 3" ++ 0 ∷ 16 ∷ 0 ∷ 1 ∷ 1 ∷ 0 ∷ 64 ∷ 32 ∷ 32 ∷ zeros 7 ++ 1 ∷ zeros 15 ++ 4 ∷ zeros 11
    ++ 1 ∷ zeros 40
    ++ 13 ∷ zeros 4 ++ 16 ∷ zeros 3990
