-- What is followed of a stream so far, line by line: the ghost members of a follower, and their laws. Cited by no
-- public contract.
use Rattle.std.proofs.Common.{◌≡◌, ℕ, ◌+◌, List, [], ◌++◌, append-nil, length, take}
use Rattle.std.proofs.Common.{refl, sym, ap, ◌∙◌, subst}
use Rattle.std.proofs.Math.Seq.{take-append_seam}
use Rattle.cdc_match.specs.Arguments.{Arguments}
use Rattle.cdc_follow.specs.Counts.{line_counts, no_counts}
use Rattle.cdc_follow.specs.declared.streams.Rules.{Rules}
use Rattle.cdc_follow.specs.Following.{FollowState, follow}
use Rattle.cdc_follow.specs.Lines.{lines_of}
use Rattle.cdc_follow.specs.Stops.{Stopped, lines_followed}
use Rattle.cdc_follow.specs.Streams.{stream_of_lines}
use Rattle.cdc_follow.proofs.CountLemmas.{AreBelow, counts_none, counts_sum, none_below, none_sum, sum_none}
use Rattle.cdc_follow.proofs.StopLemmas.{FollowsTo}
use Rattle.cdc_follow_command.specs.declared.followers.Followed.{Followed}
use Rattle.cdc_follow_command.specs.Following.{KeepsAfter}
use Rattle.cdc_follow_command.specs.declared.followers.FollowSetup.{FollowSetup}

-- these lines before this number were counted, whatever lines come after them; each count is below that number
pub record HasCounted (setup : FollowSetup) (start : FollowState) (front : List (List ℕ)) (now : Followed)
    (number : ℕ) : Type 0 where
  pub counts : (rest : List (List ℕ)) → line_counts setup.binding setup.rules start 1 (front ++ rest)
      ≡ counts_sum now.counts (line_counts setup.binding setup.rules now.follower number rest)
  pub below : AreBelow number now.counts

-- the first so many lines of bytes were followed; if no line was counted before, these are counted
pub record HasFollowed (setup : FollowSetup) (start : Followed) (bytes : List ℕ) (count : ℕ)
    (now : Followed) (number : ℕ) (left : List ℕ) : Type 0 where
  pub follows : FollowsTo setup.binding setup.rules start.follower bytes now.follower number left
  pub lines : count ≡ length follows.front
  pub counted : start.counts ≡ no_counts → HasCounted setup start.follower follows.front now number

pub followed_none : (setup : FollowSetup) (start : Followed) (bytes : List ℕ)
    → HasFollowed setup start bytes 0 start 1 bytes
followed_none setup start bytes = record {
  follows = record { front = []; whole = refl; leads = λ rest. refl };
  lines = refl;
  counted = λ none. record {
    counts = λ rest.
        let all = line_counts setup.binding setup.rules start.follower 1 rest in
        sym (ap (λ counts. counts_sum counts all) none ∙ sum_none all);
    below = subst (AreBelow 1) (sym none) none_below;
  };
}

-- the lines that were followed are the first ones
pub first_lines : (bytes : List ℕ) (count : ℕ) (front rest : List (List ℕ)) → lines_of bytes ≡ front ++ rest
    → count ≡ length front → take count (lines_of bytes) ≡ front
first_lines bytes count front rest whole is =
    ap (λ (n : ℕ). take n (lines_of bytes)) is ∙ ap (take (length front)) whole ∙ take-append_seam front rest

none_followed : (binding : Arguments) (rules : Rules) (state : FollowState) (number : ℕ)
    → (lines_followed binding rules state number []).state ≡ state
unfolding stream_of_lines follow
none_followed binding rules state number = refl

-- the follower keeps what the lines before make, and has counted them
pub keeps_after : (setup : FollowSetup) (start : Followed) (bytes : List ℕ) (count : ℕ) (now : Followed)
    (number : ℕ) (left : List ℕ) → HasFollowed setup start bytes count now number left
    → KeepsAfter setup start bytes count now
keeps_after setup start bytes count now number left has =
    let binding = setup.binding in
    let rules = setup.rules in
    let front = has.follows.front in
    let first : front ≡ take count (lines_of bytes) =
    sym (first_lines bytes count front (lines_of left) has.follows.whole has.lines) in record {
      keeps = sym (none_followed binding rules now.follower number)
          ∙ sym (ap (λ (s : Stopped). s.state) (has.follows.leads []))
          ∙ ap (λ lines. (lines_followed binding rules start.follower 1 lines).state) (append-nil front ∙ first);
      counts = λ none.
          sym (none_sum now.counts)
          ∙ ap (counts_sum now.counts) (sym (counts_none binding rules now.follower number))
          ∙ sym ((has.counted none).counts [])
          ∙ ap (line_counts binding rules start.follower 1) (append-nil front ∙ first);
    }
