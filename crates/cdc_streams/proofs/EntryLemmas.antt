-- The entries of some lines are the first ones of those of more lines.
use Rattle.std.proofs.Common.{◌≡◌, ℕ, ◌+◌, ◌≤◌, List, [], ◌∷◌, ◌++◌, length, take, Bool}
use Rattle.std.proofs.Common.{Option, None, Some, Result, Ok, Err, refl, sym, ap, ◌∙◌, arith}
use Rattle.std.proofs.Math.Seq.{take-append_seam}
use Rattle.std.proofs.lemmas.List.{length-append}
use Rattle.cdc_follow.specs.declared.entries.Entry.{Entry}
use Rattle.cdc_follow.specs.declared.errors.LineError.{LineError}
use Rattle.cdc_follow.specs.Entries.{line_entry}
use Rattle.cdc_follow.specs.Lines.{lines_of}
use Rattle.cdc_follow.specs.Streams.{NumberedEntry, Stream, stream_of_lines, stream_with}
use Rattle.cdc_follow.proofs.StopLemmas.{stream_first}

-- the entries of these lines
abbrev pub entries_of : Bool → ℕ → List (List ℕ) → List NumberedEntry
entries_of chained number lines = (stream_of_lines chained number lines).entries

-- entries begin with others
abbrev BeginWith : List NumberedEntry → List NumberedEntry → Type 0
BeginWith all first = (more : List NumberedEntry) × (all ≡ first ++ more)

-- one line in front, by its entry
begin_line : (number : ℕ) (read : Result (Option Entry) LineError) (all first : Stream)
    → BeginWith all.entries first.entries
    → BeginWith (stream_with number read all).entries (stream_with number read first).entries
begin_line number (Ok None) all first begin = begin
begin_line number (Ok (Some entry)) all first begin =
    (begin.0, ap (λ entries. record { line = number; entry = entry } ∷ entries) begin.1)
begin_line number (Err error) all first begin = ([], refl)

none_of_none : (chained : Bool) (number : ℕ) → entries_of chained number [] ≡ []
unfolding stream_of_lines
none_of_none chained number = refl

entries_begin : (chained : Bool) (number : ℕ) (front rest : List (List ℕ))
    → BeginWith (entries_of chained number (front ++ rest)) (entries_of chained number front)
entries_begin chained number [] rest =
    let others = entries_of chained number rest in
    (others, ap (λ none. none ++ others) (sym (none_of_none chained number)))
entries_begin chained number (line ∷ front) rest =
    let first = ap (λ (all : Stream). all.entries) (stream_first chained number line front) in
    let all = ap (λ (all : Stream). all.entries) (stream_first chained number line (front ++ rest)) in
    let begin = begin_line number (line_entry chained line) (stream_of_lines chained (number + 1) (front ++ rest))
    (stream_of_lines chained (number + 1) front) (entries_begin chained (number + 1) front rest) in
    (begin.0, all ∙ begin.1 ∙ ap (λ entries. entries ++ begin.0) (sym first))

-- how many entries these lines have, numbered from 1
abbrev pub entry_count : Bool → List (List ℕ) → ℕ
entry_count chained lines = length (entries_of chained 1 lines)

pub count_grows : (chained : Bool) (front rest : List (List ℕ))
    → entry_count chained front ≤ entry_count chained (front ++ rest)
count_grows chained front rest =
    let begin = entries_begin chained 1 front rest in
    let whole = ap length begin.1 in
    omega (arith, length-append (entries_of chained 1 front) begin.0)

-- as many of the first entries of all lines as some of the first lines have are those of these lines
pub first_entries : (chained : Bool) (bytes : List ℕ) (front rest : List (List ℕ)) → lines_of bytes ≡ front ++ rest
    → take (entry_count chained front) (entries_of chained 1 (lines_of bytes)) ≡ entries_of chained 1 front
first_entries chained bytes front rest whole =
    let begin = entries_begin chained 1 front rest in
    ap (take (entry_count chained front)) (ap (entries_of chained 1) whole ∙ begin.1)
    ∙ take-append_seam (entries_of chained 1 front) begin.0
