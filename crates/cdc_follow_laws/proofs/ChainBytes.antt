-- Entries that are read from lines of a chained stream name the timestamp of the event before them.
use Rattle.std.proofs.Common.{◌≡◌, ℕ, ◌+◌, List, [], ◌∷◌, Bool, true, false, cond, Option, Some, None, Ok, Err, Result}
use Rattle.std.proofs.Common.{codes, nat_lt, length, refl, sym, ap, ◌∙◌, subst}
use Rattle.std.specs.List.{AllByRecursion}
use Rattle.serde_json.specs.Data.{Data}
use Rattle.serde_json.specs.Find.{get}
use Rattle.cdc_message.specs.Reading.{value_of, whole_number}
use Rattle.cdc_follow.specs.declared.entries.Entry.{Entry}
use Rattle.cdc_follow.specs.declared.entries.TheConstants.{LONGEST_LINE}
use Rattle.cdc_follow.specs.declared.errors.LineError.{LineError}
use Rattle.cdc_follow.specs.Entries.{◌>>=◌, content_of, entry_of, is_ignored, line_entry, previous_in, previous_of}
use Rattle.cdc_follow.specs.Entries.{up_to_64, value_entry}
use Rattle.cdc_follow.specs.Laws.{entries_in}
use Rattle.cdc_follow.specs.Lines.{lines_of}
use Rattle.cdc_follow.specs.Stops.{bytes_followed}
use Rattle.cdc_follow.specs.Streams.{stream_of_lines, stream_with}
use Rattle.cdc_follow_laws.specs.Chains.{ChainedLinesNamePrevious, NamesPrevious, SeesAChainFirst}
use Rattle.cdc_follow_laws.specs.Chains.{WhateverBytesComeAreAChain}
use Rattle.cdc_follow_laws.proofs.ChainLemmas.{followed_are_chains}

-- ---- a line

-- what was read in the end was read of something that was read before
goes_on : {A B : Type 0} (read : Result A LineError) (rest : A → Result B LineError) (b : B) → (read >>= rest) ≡ Ok b
    → (a : A) × (read ≡ Ok a) × (rest a ≡ Ok b)
goes_on (Ok a) rest b is = (a, refl, is)
goes_on (Err why) rest b is = absurd cc

-- what was read is one value
same_value : {A : Type 0} {a b : A} → ◌≡◌ {A = Result A LineError} (Ok a) (Ok b) → a ≡ b
same_value is = cc

-- and so is what there is
same_some : {A : Type 0} {a b : A} → ◌≡◌ {A = Option A} (Some a) (Some b) → a ≡ b
same_some is = cc

-- a predecessor that is read in a chained stream is a number
previous_named : (value : Option Data) (previous : Option ℕ) → previous_in value ≡ Ok previous
    → (t : ℕ) × (previous ≡ Some t)
previous_named None previous is = absurd cc
previous_named (Some value) previous is =
    let found = goes_on (up_to_64 (whole_number value)) _ previous is in (found.0, sym (same_value found.2))

-- so an entry of such a stream names one
entry_names : (value : Data) (entry : Entry) → entry_of true value ≡ Ok entry → NamesPrevious entry
entry_names value entry is =
    let c = goes_on (content_of value) _ entry is in
    let previous = goes_on (previous_of true value) _ entry c.2 in
    subst NamesPrevious (same_value previous.2)
    (previous_named (get (codes "previous") value) previous.0 previous.1)

value_names : (value : Option Data) (entry : Entry) → value_entry true value ≡ Ok (Some entry) → NamesPrevious entry
value_names None entry is = absurd cc
value_names (Some value) entry is =
    let found = goes_on (entry_of true value) _ (Some entry) is in
    entry_names value entry (found.1 ∙ ap Ok (same_some (same_value found.2)))

-- a line that has an entry is neither too long nor ignored
has_entry : {E : Type 0} (long quiet : Bool) (why : E) (read : Result (Option Entry) E) (entry : Entry)
    → cond long (Err why) (cond quiet (Ok None) read) ≡ Ok (Some entry) → read ≡ Ok (Some entry)
has_entry true quiet why read entry is = absurd cc
has_entry false true why read entry is = absurd cc
has_entry false false why read entry is = is

pub lines_name : ChainedLinesNamePrevious
unfolding line_entry
lines_name line entry is =
    value_names (value_of line) entry
    (has_entry (nat_lt LONGEST_LINE (length line)) (is_ignored line) _ (value_entry true (value_of line)) entry is)

-- ---- all lines

-- an entry that was read, in front of those of later lines
stream_names : (number : ℕ) (line : List ℕ) (rest : List (List ℕ)) (read : Result (Option Entry) LineError)
    → line_entry true line ≡ read
    → AllByRecursion NamesPrevious (entries_in (stream_of_lines true (number + 1) rest).entries)
    → AllByRecursion NamesPrevious
    (entries_in (stream_with number read (stream_of_lines true (number + 1) rest)).entries)
stream_names number line rest (Ok None) is later = later
stream_names number line rest (Ok (Some entry)) is later = (lines_name line entry is, later)
stream_names number line rest (Err why) is later = tt

all_name : (number : ℕ) (lines : List (List ℕ))
    → AllByRecursion NamesPrevious (entries_in (stream_of_lines true number lines).entries)
unfolding stream_of_lines
all_name number [] = tt
all_name number (line ∷ rest) = stream_names number line rest (line_entry true line) refl (all_name (number + 1) rest)

pub bytes_are_chains : WhateverBytesComeAreAChain
bytes_are_chains binding rules state bytes chains =
    let stream = stream_of_lines true 1 (lines_of bytes) in
    let sees = followed_are_chains binding rules.skips_gaps state stream.entries (all_name 1 (lines_of bytes)) in
    subst (λ (chained : Bool). SeesAChainFirst binding state stream.entries
    (bytes_followed binding (record rules { chained = chained }) state bytes).state) (sym chains) sees
