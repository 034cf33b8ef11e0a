-- A stream of bytes: its entries, and the first line that is none.
use Rattle.std.specs.Prelude.{ℕ, ◌+◌, List, [], ◌∷◌, Bool, Option, Some, None, Result, Ok, Err}
use Rattle.cdc_follow.specs.declared.entries.Entry.{Entry}
use Rattle.cdc_follow.specs.declared.errors.LineError.{LineError}
use Rattle.cdc_follow.specs.Entries.{line_entry}
use Rattle.cdc_follow.specs.Lines.{lines_of}

-- an entry, and the number of its line
pub record NumberedEntry : Type 0 where
  pub line : ℕ
  pub entry : Entry

-- a line that is no entry, and the reason
pub record BadLine : Type 0 where
  pub line : ℕ
  pub error : LineError

-- entries in order, and the line that is none, behind which nothing is read
pub record Stream : Type 0 where
  pub entries : List NumberedEntry
  pub bad : Option BadLine

-- a line in front of the stream of later lines
abbrev pub stream_with : ℕ → Result (Option Entry) LineError → Stream → Stream
stream_with line (Ok None) later = later
stream_with line (Ok (Some entry)) later =
    record later { entries = record { line = line; entry = entry } ∷ later.entries }
stream_with line (Err error) later = record { entries = []; bad = Some (record { line = line; error = error }) }

-- the stream of lines, numbered from this one on
unfoldable pub stream_of_lines : Bool → ℕ → List (List ℕ) → Stream
stream_of_lines chained number [] = record { entries = []; bad = None }
stream_of_lines chained number (line ∷ rest) =
    stream_with number (line_entry chained line) (stream_of_lines chained (number + 1) rest)

-- the stream of bytes
abbrev pub stream_of : Bool → List ℕ → Stream
stream_of chained bytes = stream_of_lines chained 1 (lines_of bytes)
