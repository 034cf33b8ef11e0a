-- Counts of lines that are taken one after another.
use Rattle.std.proofs.Common.{◌≡◌, ℕ, ◌+◌, ◌<◌, ◌-◌, ◌^◌, min, List, [], ◌∷◌, refl, sym, ap, ◌∙◌, arith}
use Rattle.std.proofs.Common.{add-zero, zero-add}
use Rattle.std.proofs.Math.Nat.{min-eq_left}
use Rattle.cdc_match.specs.Arguments.{Arguments}
use Rattle.cdc_follow.specs.declared.counts.Counts.{Counts}
use Rattle.cdc_follow.specs.declared.follower.Following.TheVariants.{Applied, PassedBy, Duplicate, Gap, Ended}
use Rattle.cdc_follow.specs.declared.follower.Following.TheVariants.{AfterEnd, OutOfRange}
use Rattle.cdc_follow.specs.declared.streams.Rules.{Rules}
use Rattle.cdc_follow.specs.declared.streams.Stop.{Stop}
use Rattle.cdc_follow.specs.declared.streams.Taken.{Taken}
use Rattle.cdc_follow.specs.declared.streams.Taken.TheVariants.{Nothing, Entry}
use Rattle.cdc_follow.specs.declared.streams.Turn.TheVariants.{GoesOn, Stops}
use Rattle.cdc_follow.specs.Counts.{counts_by, counts_with, line_counts, no_counts, one_more, saturated}
use Rattle.cdc_follow.specs.Following.{FollowState}
use Rattle.cdc_follow.specs.Turns.{LineTurns, line_state, line_turn}

-- the sums of counts
abbrev pub counts_sum : Counts → Counts → Counts
counts_sum one other = record {
  applied = one.applied + other.applied;
  duplicates = one.duplicates + other.duplicates;
  passed = one.passed + other.passed;
  gaps = one.gaps + other.gaps;
  lines_skipped = one.lines_skipped + other.lines_skipped;
}

-- each count is below this number
pub record AreBelow (number : ℕ) (counts : Counts) : Type 0 where
  pub applied : counts.applied < number
  pub duplicates : counts.duplicates < number
  pub passed : counts.passed < number
  pub gaps : counts.gaps < number
  pub lines_skipped : counts.lines_skipped < number

pub counts_none : (binding : Arguments) (rules : Rules) (state : FollowState) (number : ℕ)
    → line_counts binding rules state number [] ≡ no_counts
unfolding line_counts
counts_none binding rules state number = refl

pub counts_first : (binding : Arguments) (rules : Rules) (state : FollowState) (number : ℕ) (line : List ℕ)
    (rest : List (List ℕ)) → line_counts binding rules state number (line ∷ rest)
    ≡ counts_by (line_turn binding rules state number line)
    (line_counts binding rules (line_state binding rules state line) (number + 1) rest)
unfolding line_counts
counts_first binding rules state number line rest = refl

-- counts of these numbers
abbrev five : ℕ → ℕ → ℕ → ℕ → ℕ → Counts
five applied duplicates passed gaps lines_skipped = record {
  applied = applied;
  duplicates = duplicates;
  passed = passed;
  gaps = gaps;
  lines_skipped = lines_skipped;
}

five_same : (a b c d e v w x y z : ℕ) → a ≡ v → b ≡ w → c ≡ x → d ≡ y → e ≡ z → five a b c d e ≡ five v w x y z
five_same a b c d e v w x y z first second third fourth fifth =
    ap (λ n. five n b c d e) first ∙ ap (λ n. five v n c d e) second ∙ ap (λ n. five v w n d e) third
    ∙ ap (λ n. five v w x n e) fourth ∙ ap (λ n. five v w x y n) fifth

-- nothing is added
pub sum_none : (counts : Counts) → counts_sum no_counts counts ≡ counts
sum_none counts =
    five_same (0 + counts.applied) (0 + counts.duplicates) (0 + counts.passed) (0 + counts.gaps)
    (0 + counts.lines_skipped) counts.applied counts.duplicates counts.passed counts.gaps counts.lines_skipped
    (zero-add counts.applied) (zero-add counts.duplicates) (zero-add counts.passed) (zero-add counts.gaps)
    (zero-add counts.lines_skipped)

pub none_sum : (counts : Counts) → counts_sum counts no_counts ≡ counts
none_sum counts =
    five_same (counts.applied + 0) (counts.duplicates + 0) (counts.passed + 0) (counts.gaps + 0)
    (counts.lines_skipped + 0) counts.applied counts.duplicates counts.passed counts.gaps counts.lines_skipped
    (add-zero counts.applied) (add-zero counts.duplicates) (add-zero counts.passed) (add-zero counts.gaps)
    (add-zero counts.lines_skipped)

-- a line is counted before those after it
pub sum_with : (taken : Taken) (counts later : Counts)
    → counts_sum counts (counts_with one_more taken later) ≡ counts_sum (counts_with one_more taken counts) later
sum_with Nothing counts later =
    ap (λ (n : ℕ). let all : Counts = record (counts_sum counts later) { lines_skipped = n } in all) (omega arith)
sum_with (Entry entry Applied) counts later =
    ap (λ (n : ℕ). let all : Counts = record (counts_sum counts later) { applied = n } in all) (omega arith)
sum_with (Entry entry PassedBy) counts later =
    ap (λ (n : ℕ). let all : Counts = record (counts_sum counts later) { passed = n } in all) (omega arith)
sum_with (Entry entry Duplicate) counts later =
    ap (λ (n : ℕ). let all : Counts = record (counts_sum counts later) { duplicates = n } in all) (omega arith)
sum_with (Entry entry Gap) counts later =
    ap (λ (n : ℕ). let all : Counts = record (counts_sum counts later) { gaps = n } in all) (omega arith)
sum_with (Entry entry Ended) counts later = refl
sum_with (Entry entry AfterEnd) counts later = refl
sum_with (Entry entry OutOfRange) counts later = refl

-- a number below that of a line isn't the greatest one
one_exact : (n number : ℕ) → n < number → number < 2 ^ 64 → saturated n ≡ n + 1
one_exact n number below fits = min-eq_left (omega (arith, below, fits))

pub counts_exact : (taken : Taken) (number : ℕ) (counts : Counts) → AreBelow number counts → number < 2 ^ 64
    → counts_with saturated taken counts ≡ counts_with one_more taken counts
counts_exact Nothing number counts below fits =
    ap (λ (n : ℕ). let all : Counts = record counts { lines_skipped = n } in all)
    (one_exact counts.lines_skipped number below.lines_skipped fits)
counts_exact (Entry entry Applied) number counts below fits =
    ap (λ (n : ℕ). let all : Counts = record counts { applied = n } in all)
    (one_exact counts.applied number below.applied fits)
counts_exact (Entry entry PassedBy) number counts below fits =
    ap (λ (n : ℕ). let all : Counts = record counts { passed = n } in all)
    (one_exact counts.passed number below.passed fits)
counts_exact (Entry entry Duplicate) number counts below fits =
    ap (λ (n : ℕ). let all : Counts = record counts { duplicates = n } in all)
    (one_exact counts.duplicates number below.duplicates fits)
counts_exact (Entry entry Gap) number counts below fits =
    ap (λ (n : ℕ). let all : Counts = record counts { gaps = n } in all)
    (one_exact counts.gaps number below.gaps fits)
counts_exact (Entry entry Ended) number counts below fits = refl
counts_exact (Entry entry AfterEnd) number counts below fits = refl
counts_exact (Entry entry OutOfRange) number counts below fits = refl

further : (n number : ℕ) → n < number → n < number + 1
further n number below = omega (arith, below)

one_further : (n number : ℕ) → n < number → n + 1 < number + 1
one_further n number below = omega (arith, below)

all_further : (number : ℕ) (counts : Counts) → AreBelow number counts → AreBelow (number + 1) counts
all_further number counts below = record {
  applied = further counts.applied number below.applied;
  duplicates = further counts.duplicates number below.duplicates;
  passed = further counts.passed number below.passed;
  gaps = further counts.gaps number below.gaps;
  lines_skipped = further counts.lines_skipped number below.lines_skipped;
}

-- counts grow by one a line at most
pub below_with : (taken : Taken) (number : ℕ) (counts : Counts) → AreBelow number counts
    → AreBelow (number + 1) (counts_with one_more taken counts)
below_with Nothing number counts below = record {
  applied = further counts.applied number below.applied;
  duplicates = further counts.duplicates number below.duplicates;
  passed = further counts.passed number below.passed;
  gaps = further counts.gaps number below.gaps;
  lines_skipped = one_further counts.lines_skipped number below.lines_skipped;
}
below_with (Entry entry Applied) number counts below = record {
  applied = one_further counts.applied number below.applied;
  duplicates = further counts.duplicates number below.duplicates;
  passed = further counts.passed number below.passed;
  gaps = further counts.gaps number below.gaps;
  lines_skipped = further counts.lines_skipped number below.lines_skipped;
}
below_with (Entry entry PassedBy) number counts below = record {
  applied = further counts.applied number below.applied;
  duplicates = further counts.duplicates number below.duplicates;
  passed = one_further counts.passed number below.passed;
  gaps = further counts.gaps number below.gaps;
  lines_skipped = further counts.lines_skipped number below.lines_skipped;
}
below_with (Entry entry Duplicate) number counts below = record {
  applied = further counts.applied number below.applied;
  duplicates = one_further counts.duplicates number below.duplicates;
  passed = further counts.passed number below.passed;
  gaps = further counts.gaps number below.gaps;
  lines_skipped = further counts.lines_skipped number below.lines_skipped;
}
below_with (Entry entry Gap) number counts below = record {
  applied = further counts.applied number below.applied;
  duplicates = further counts.duplicates number below.duplicates;
  passed = further counts.passed number below.passed;
  gaps = one_further counts.gaps number below.gaps;
  lines_skipped = further counts.lines_skipped number below.lines_skipped;
}
below_with (Entry entry Ended) number counts below = all_further number counts below
below_with (Entry entry AfterEnd) number counts below = all_further number counts below
below_with (Entry entry OutOfRange) number counts below = all_further number counts below

pub none_below : AreBelow 1 no_counts
none_below = record {
  applied = omega arith;
  duplicates = omega arith;
  passed = omega arith;
  gaps = omega arith;
  lines_skipped = omega arith;
}

-- the counts from a line on, after which following goes on, or at which it stops
pub counts_on : (binding : Arguments) (rules : Rules) (number : ℕ) (line : List ℕ) (old new : FollowState)
    (taken : Taken) (rest : List (List ℕ)) → LineTurns binding rules number line old (GoesOn taken) new
    → line_counts binding rules old number (line ∷ rest)
    ≡ counts_with one_more taken (line_counts binding rules new (number + 1) rest)
counts_on binding rules number line old new taken rest turns =
    counts_first binding rules old number line rest
    ∙ ap (λ turn. counts_by turn (line_counts binding rules (line_state binding rules old line) (number + 1) rest))
    (sym turns.turn_is)
    ∙ ap (λ state. counts_with one_more taken (line_counts binding rules state (number + 1) rest)) (sym turns.state_is)

pub counts_stop : (binding : Arguments) (rules : Rules) (number : ℕ) (line : List ℕ) (old : FollowState)
    (stop : Stop) (rest : List (List ℕ)) → Stops stop ≡ line_turn binding rules old number line
    → line_counts binding rules old number (line ∷ rest) ≡ no_counts
counts_stop binding rules number line old stop rest turns =
    counts_first binding rules old number line rest
    ∙ ap (λ turn. counts_by turn (line_counts binding rules (line_state binding rules old line) (number + 1) rest))
    (sym turns)
