-- How many lines of a stream came to what.
use Rattle.std.specs.Prelude.{ℕ, ◌+◌, ◌-◌, ◌^◌, min, List, [], ◌∷◌}
use Rattle.cdc_match.specs.Arguments.{Arguments}
use Rattle.cdc_follow.specs.declared.counts.Counts.{Counts}
use Rattle.cdc_follow.specs.declared.follower.Following.TheVariants.{Applied, PassedBy, Duplicate, Gap, Ended}
use Rattle.cdc_follow.specs.declared.follower.Following.TheVariants.{AfterEnd, OutOfRange}
use Rattle.cdc_follow.specs.declared.streams.Rules.{Rules}
use Rattle.cdc_follow.specs.declared.streams.Taken.{Taken}
use Rattle.cdc_follow.specs.declared.streams.Taken.TheVariants.{Nothing, Entry}
use Rattle.cdc_follow.specs.declared.streams.Turn.{Turn}
use Rattle.cdc_follow.specs.declared.streams.Turn.TheVariants.{GoesOn, Stops}
use Rattle.cdc_follow.specs.Following.{FollowState}
use Rattle.cdc_follow.specs.Lines.{lines_of}
use Rattle.cdc_follow.specs.Turns.{line_state, line_turn}

-- no line was counted
abbrev pub no_counts : Counts
no_counts = record { applied = 0; duplicates = 0; passed = 0; gaps = 0; lines_skipped = 0 }

-- one more, in 64 bits: the greatest number stays
abbrev pub saturated : ℕ → ℕ
saturated n = min (n + 1) (2 ^ 64 - 1)

-- one more, of any size
abbrev pub one_more : ℕ → ℕ
one_more n = n + 1

-- with one more line that was taken so: it is counted by `more` in one of the counts, and the end in none
abbrev pub counts_with : (ℕ → ℕ) → Taken → Counts → Counts
counts_with more Nothing counts = record counts { lines_skipped = more counts.lines_skipped }
counts_with more (Entry entry Applied) counts = record counts { applied = more counts.applied }
counts_with more (Entry entry PassedBy) counts = record counts { passed = more counts.passed }
counts_with more (Entry entry Duplicate) counts = record counts { duplicates = more counts.duplicates }
counts_with more (Entry entry Gap) counts = record counts { gaps = more counts.gaps }
counts_with more (Entry entry Ended) counts = counts
counts_with more (Entry entry AfterEnd) counts = counts
counts_with more (Entry entry OutOfRange) counts = counts

-- the counts of a line, by what comes of it, and of those after it: a line at which following stops isn't counted, and
-- neither is any after it
abbrev pub counts_by : Turn → Counts → Counts
counts_by (GoesOn taken) later = counts_with one_more taken later
counts_by (Stops stop) later = no_counts

-- the counts of lines, numbered from this one on
unfoldable pub line_counts : Arguments → Rules → FollowState → ℕ → List (List ℕ) → Counts
line_counts binding rules state number [] = no_counts
line_counts binding rules state number (line ∷ rest) =
    counts_by (line_turn binding rules state number line)
    (line_counts binding rules (line_state binding rules state line) (number + 1) rest)

-- the counts of bytes
abbrev pub counts_of : Arguments → Rules → FollowState → List ℕ → Counts
counts_of binding rules state bytes = line_counts binding rules state 1 (lines_of bytes)
