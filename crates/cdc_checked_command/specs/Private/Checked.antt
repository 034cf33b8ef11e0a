-- What was followed of a stream so far, line by line: the ghost members of a checker of streams, and their laws. Cited
-- by no public contract.
use Rattle.std.proofs.Common.{◌≡◌, ℕ, ◌+◌, List, [], ◌∷◌, ◌++◌, append-nil, length, take, Bool}
use Rattle.std.proofs.Common.{refl, sym, ap, ◌∙◌, subst}
use Rattle.std.proofs.Math.Seq.{take-append_seam}
use Rattle.cdc_match.specs.Arguments.{Arguments}
use Rattle.cdc_follow.specs.Counts.{no_counts}
use Rattle.cdc_follow.specs.Lines.{lines_of}
use Rattle.cdc_follow.specs.Streams.{stream_of_lines}
use Rattle.cdc_follow.specs.declared.counts.Counts.{Counts}
use Rattle.cdc_follow.proofs.CountLemmas.{AreBelow, counts_sum, none_below, none_sum, sum_none}
use Rattle.cdc_checked_follow.proofs.CountLemmas.{counts_none}
use Rattle.cdc_checked_follow.specs.declared.streams.CheckStop.TheVariants.{AtEnd}
use Rattle.cdc_checked_follow.specs.Checking.{Checked, CheckedState, check_entries, lines_checked}
use Rattle.cdc_checked_follow.specs.Counts.{line_counts}
use Rattle.cdc_checked_follow.specs.Standing.{CheckedFollowerState, StandsFor}
use Rattle.cdc_checked_command.specs.Following.{IsOf, StandsAfter}
use Rattle.cdc_checked_command.specs.declared.checkers.BoundFollower.{BoundFollower}
use Rattle.cdc_checked_command.specs.declared.checkers.CheckSetup.{CheckSetup}

-- some lines were followed, up to this number, whatever lines come after them
pub record GoesTo (binding : Arguments) (skips : Bool) (start : CheckedState) (front : List (List ℕ))
    (follower : CheckedFollowerState) (number : ℕ) : Type 0 where
  pub next : CheckedState
  pub stands : StandsFor binding follower next
  pub leads : (rest : List (List ℕ))
      → lines_checked skips start 1 (front ++ rest) ≡ lines_checked skips next number rest

-- these lines before this number were counted, whatever lines come after them; each count is below that number
pub record HasCounted (binding : Arguments) (skips : Bool) (start : CheckedState) (front : List (List ℕ))
    (next : CheckedState) (counts : Counts) (number : ℕ) : Type 0 where
  pub all : (rest : List (List ℕ)) → line_counts binding skips start 1 (front ++ rest)
      ≡ counts_sum counts (line_counts binding skips next number rest)
  pub below : AreBelow number counts

-- the first so many lines of bytes were followed; if no line was counted before, these are counted
pub record HasChecked (setup : CheckSetup) (start : BoundFollower) (bytes : List ℕ) (count : ℕ)
    (now : BoundFollower) (number : ℕ) (left : List ℕ) : Type 0 where
  pub same : IsOf start now
  pub front : List (List ℕ)
  pub whole : lines_of bytes ≡ front ++ lines_of left
  pub lines : count ≡ length front
  pub goes : (state : CheckedState) → StandsFor start.binding start.follower state
      → GoesTo start.binding setup.skips_gaps state front now.follower number
  pub counted : start.counts ≡ no_counts → (state : CheckedState)
      → (stands : StandsFor start.binding start.follower state)
      → HasCounted start.binding setup.skips_gaps state front (goes state stands).next now.counts number

pub checked_none : (setup : CheckSetup) (start : BoundFollower) (bytes : List ℕ)
    → HasChecked setup start bytes 0 start 1 bytes
checked_none setup start bytes = record {
  same = refl;
  front = [];
  whole = refl;
  lines = refl;
  goes = λ state stands. record { next = state; stands = stands; leads = λ rest. refl };
  counted = λ none state stands. record {
    all = λ rest.
        let later = line_counts start.binding setup.skips_gaps state 1 rest in
        sym (ap (λ counts. counts_sum counts later) none ∙ sum_none later);
    below = subst (AreBelow 1) (sym none) none_below;
  };
}

-- the lines that were followed are the first ones
first_lines : (bytes : List ℕ) (count : ℕ) (front rest : List (List ℕ)) → lines_of bytes ≡ front ++ rest
    → count ≡ length front → take count (lines_of bytes) ≡ front
first_lines bytes count front rest whole is =
    ap (λ (n : ℕ). take n (lines_of bytes)) is ∙ ap (take (length front)) whole ∙ take-append_seam front rest

-- no lines are followed to the end
no_lines_yet : (skips : Bool) (state : CheckedState) (number : ℕ)
    → lines_checked skips state number [] ≡ record { state = state; stop = AtEnd }
unfolding stream_of_lines check_entries
no_lines_yet skips state number = refl

pub stands_after : (setup : CheckSetup) (start : BoundFollower) (bytes : List ℕ) (count : ℕ) (now : BoundFollower)
    (number : ℕ) (left : List ℕ) → HasChecked setup start bytes count now number left
    → StandsAfter setup start bytes count now
stands_after setup start bytes count now number left has =
    let binding = start.binding in
    let skips = setup.skips_gaps in
    let front = has.front in
    let first : front ≡ take count (lines_of bytes) =
    sym (first_lines bytes count front (lines_of left) has.whole has.lines) in record {
      same = has.same;
      stands = λ state stands.
          let goes = has.goes state stands in
          subst (StandsFor binding now.follower)
          (sym (ap (λ (it : Checked). it.state) (no_lines_yet skips goes.next number))
          ∙ sym (ap (λ (it : Checked). it.state) (goes.leads []))
          ∙ ap (λ lines. (lines_checked skips state 1 lines).state) (append-nil front ∙ first)) goes.stands;
      counts = λ none state stands.
          sym (none_sum now.counts)
          ∙ ap (counts_sum now.counts) (sym (counts_none binding skips (has.goes state stands).next number))
          ∙ sym ((has.counted none state stands).all [])
          ∙ ap (line_counts binding skips state 1) (append-nil front ∙ first);
    }
