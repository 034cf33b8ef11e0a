-- The lines that are printed of every stream, as text and as JSON.
use Rattle.std.specs.Prelude.{ℕ, List, ◌++◌, codes, decimal}
use Rattle.serde_json.specs.Data.{Data, string, no_members, member}
use Rattle.cdc_output.specs.Values.{narrow, wide}
use Rattle.cdc_follow.specs.LineErrors.{line_error_name}
use Rattle.cdc_follow.specs.declared.errors.LineError.{LineError}
use Rattle.cdc_output.specs.Lines.{json_line, line_of}

-- the line of a save at which the last event has this timestamp
abbrev pub saved_text : ℕ → List ℕ
saved_text timestamp = (codes "saved " ++ decimal timestamp) ++ codes "\n"

-- a line that is no entry, for this reason
abbrev pub bad_line_text : ℕ → LineError → List ℕ
bad_line_text line error =
    (codes "fault: line " ++ decimal line) ++ (codes ": " ++ (line_error_name error ++ codes "\n"))

-- a save at which the last event has this timestamp
abbrev pub saved_value : ℕ → Data
saved_value timestamp = line_of (codes "saved") (member (codes "timestamp") (wide timestamp) no_members)

abbrev pub saved_lines : ℕ → List ℕ
saved_lines timestamp = json_line (saved_value timestamp)

-- a line that is no entry, for this reason
abbrev pub bad_line_value : ℕ → LineError → Data
bad_line_value line error =
    line_of (codes "line_fault") (
    member (codes "line") (narrow line) (
    member (codes "name") (string (line_error_name error))
    no_members))
