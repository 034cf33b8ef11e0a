-- How many lines of a stream that is checked came to what.
use Rattle.std.specs.Prelude.{ℕ, ◌+◌, Bool, List, [], ◌∷◌}
use Rattle.cdc_match.specs.Arguments.{Arguments}
use Rattle.cdc_follow.specs.declared.counts.Counts.{Counts}
use Rattle.cdc_follow.specs.Counts.{counts_with, no_counts, one_more}
use Rattle.cdc_follow.specs.Lines.{lines_of}
use Rattle.cdc_checked_follow.specs.declared.turns.CheckTurn.{CheckTurn}
use Rattle.cdc_checked_follow.specs.declared.turns.CheckTurn.TheVariants.{GoesOn, Stops}
use Rattle.cdc_checked_follow.specs.Checking.{CheckedState}
use Rattle.cdc_checked_follow.specs.Turns.{line_state, line_turn}

-- the counts of a line, by what comes of it, and of those after it: a line at which following stops isn't counted, and
-- neither is any after it
abbrev pub counts_by : CheckTurn → Counts → Counts
counts_by (GoesOn made why) later = counts_with one_more made later
counts_by (Stops stop) later = no_counts

-- the counts of lines, numbered from this one on
unfoldable pub line_counts : Arguments → Bool → CheckedState → ℕ → List (List ℕ) → Counts
line_counts binding skips state number [] = no_counts
line_counts binding skips state number (line ∷ rest) =
    counts_by (line_turn binding skips state number line)
    (line_counts binding skips (line_state state line) (number + 1) rest)

-- the counts of bytes
abbrev pub counts_of : Arguments → Bool → CheckedState → List ℕ → Counts
counts_of binding skips state bytes = line_counts binding skips state 1 (lines_of bytes)
