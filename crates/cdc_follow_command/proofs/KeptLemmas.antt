-- What following keeps and counts while a stream is followed, line by line.
use Rattle.std.proofs.Common.{◌≡◌, ℕ, ◌+◌, ◌<◌, ◌^◌, List, [], ◌∷◌, ◌++◌, append_assoc, length, take}
use Rattle.std.proofs.Common.{Option, None, Some, refl, sym, ap, ◌∙◌, subst, arith}
use Rattle.std.specs.Prelude.{IfSome}
use Rattle.std.proofs.Math.Seq.{take-length}
use Rattle.std.proofs.lemmas.List.{length-append}
use Rattle.cdc_match.specs.Arguments.{Arguments}
use Rattle.cdc_follow.specs.Counts.{counts_of, counts_with, line_counts, no_counts, one_more, saturated}
use Rattle.cdc_follow.specs.declared.counts.Counts.{Counts}
use Rattle.cdc_follow.specs.declared.streams.Rules.{Rules}
use Rattle.cdc_follow.specs.declared.streams.Stop.{Stop}
use Rattle.cdc_follow.specs.declared.streams.Taken.{Taken}
use Rattle.cdc_follow.specs.declared.streams.Turn.TheVariants.{GoesOn, Stops}
use Rattle.cdc_follow.specs.Following.{FollowState}
use Rattle.cdc_follow.specs.Lines.{lines_of}
use Rattle.cdc_follow.specs.Stops.{StepLeadsTo, bytes_followed, lines_followed}
use Rattle.cdc_follow.specs.Stops as stopping
use Rattle.cdc_follow.specs.Turns.{LineTurns, StepTurns, first_turn}
use Rattle.cdc_follow.proofs.CountLemmas.{AreBelow, below_with, counts_exact, counts_none, counts_on, counts_stop}
use Rattle.cdc_follow.proofs.CountLemmas.{counts_sum, none_sum, sum_with}
use Rattle.cdc_follow.proofs.StopLemmas.{follows_stop}
use Rattle.cdc_follow.proofs.TurnLemmas.{turns_of_line}
use Rattle.cdc_streams.specs.Saving.{IfStopped}
use Rattle.cdc_streams.specs.Taking.{LeadsOn}
use Rattle.cdc_streams.specs.declared.endings.StreamEnding.{StreamEnding}
use Rattle.cdc_streams.specs.declared.endings.StreamEnding.TheVariants.{Stopped, Failed}
use Rattle.cdc_follow_command.specs.declared.followers.Followed.{Followed}
use Rattle.cdc_follow_command.specs.Following.{KeepsAfter, StopsAt}
use Rattle.cdc_follow_command.specs.Private.Followed.{HasCounted, HasFollowed}
use Rattle.cdc_follow_command.specs.declared.followers.FollowSetup.{FollowSetup}

-- one more line is counted
counted_on : (setup : FollowSetup) (start : FollowState) (front : List (List ℕ)) (old : Followed) (number : ℕ)
    (line : List ℕ) (taken : Taken) (state : FollowState) (counts : Counts)
    → HasCounted setup start front old number → number < 2 ^ 64 → counts ≡ counts_with saturated taken old.counts
    → LineTurns setup.binding setup.rules number line old.follower (GoesOn taken) state
    → HasCounted setup start (front ++ line ∷ []) (record { follower = state; counts = counts }) (number + 1)
counted_on setup start front old number line taken state counts has fits is turns =
    let binding = setup.binding in
    let rules = setup.rules in
    let exact : counts ≡ counts_with one_more taken old.counts =
    is ∙ counts_exact taken number old.counts has.below fits in record {
      counts = λ rest.
          let later = line_counts binding rules state (number + 1) rest in
          ap (line_counts binding rules start 1) (append_assoc front (line ∷ []) rest)
          ∙ has.counts (line ∷ rest)
          ∙ ap (counts_sum old.counts)
          (counts_on binding rules number line old.follower state taken rest turns)
          ∙ sum_with taken old.counts later
          ∙ ap (λ (all : Counts). counts_sum all later) (sym exact);
      below = subst (AreBelow (number + 1)) (sym exact) (below_with taken number old.counts has.below);
    }

-- one more line was followed
leads_on : (setup : FollowSetup) (start old : Followed) (bytes : List ℕ) (count number : ℕ)
    (mid : List ℕ) (state : FollowState) (counts : Counts) (taken : Taken) (left : Option (List ℕ))
    → HasFollowed setup start bytes count old number mid → number < 2 ^ 64
    → counts ≡ counts_with saturated taken old.counts
    → StepLeadsTo setup.binding setup.rules number old.follower mid None state left
    → StepTurns setup.binding setup.rules number old.follower mid (GoesOn taken) state left
    → LeadsOn (HasFollowed setup start bytes) (StopsAt setup start bytes) (KeepsAfter setup start bytes) count number
    None (record { follower = state; counts = counts }) left
leads_on setup start old bytes count number mid state counts taken left has fits is step turns =
    let line = step.0 in
    let rest = step.1 in
    let before = has.follows.front in
    let front = before ++ line ∷ [] in
    let longer = length-append before (line ∷ []) in
    let same = has.lines in (
      rest,
      step.2,
      length front,
      omega (arith, longer, same),
      record {
        follows = record {
          front = front;
          whole = has.follows.whole ∙ ap (λ lines. before ++ lines) step.3
              ∙ sym (append_assoc before (line ∷ []) (lines_of rest));
          leads = λ others. ap (lines_followed setup.binding setup.rules start.follower 1)
              (append_assoc before (line ∷ []) others)
              ∙ has.follows.leads (line ∷ others) ∙ step.4 others;
        };
        lines = refl;
        counted = λ none.
            counted_on setup start.follower before old number line taken state counts (has.counted none) fits is
            (turns_of_line setup.binding setup.rules number old.follower state mid line rest taken left step.3 turns);
      },
    )

-- no line is counted any more where following stops
counts_end : (binding : Arguments) (rules : Rules) (number : ℕ) (old : FollowState) (stop : Stop)
    (lines : List (List ℕ)) → Stops stop ≡ first_turn binding rules old number lines
    → line_counts binding rules old number lines ≡ no_counts
counts_end binding rules number old stop [] is = counts_none binding rules old number
counts_end binding rules number old stop (line ∷ rest) is =
    counts_stop binding rules number line old stop rest is

counted_all : (setup : FollowSetup) (start : FollowState) (front : List (List ℕ)) (old : Followed) (number : ℕ)
    (bytes mid : List ℕ) (stop : Stop) → HasCounted setup start front old number
    → lines_of bytes ≡ front ++ lines_of mid
    → Stops stop ≡ first_turn setup.binding setup.rules old.follower number (lines_of mid)
    → old.counts ≡ line_counts setup.binding setup.rules start 1 (lines_of bytes)
counted_all setup start front old number bytes mid stop has whole is =
    sym (ap (line_counts setup.binding setup.rules start 1) whole
    ∙ has.counts (lines_of mid)
    ∙ ap (counts_sum old.counts) (counts_end setup.binding setup.rules number old.follower stop (lines_of mid) is)
    ∙ none_sum old.counts)

-- following stops at a line
leads_to_stop : (setup : FollowSetup) (start old : Followed) (bytes : List ℕ) (count number : ℕ)
    (mid : List ℕ) (state : FollowState) (stop : Stop) (left : Option (List ℕ))
    → HasFollowed setup start bytes count old number mid
    → StepLeadsTo setup.binding setup.rules number old.follower mid (Some stop) state left
    → StepTurns setup.binding setup.rules number old.follower mid (Stops stop) state left
    → LeadsOn (HasFollowed setup start bytes) (StopsAt setup start bytes) (KeepsAfter setup start bytes) count number
    (Some stop) (record { follower = state; counts = old.counts }) left
leads_to_stop setup start old bytes count number mid state stop left has step turns =
    let binding = setup.binding in
    let rules = setup.rules in
    let front = has.follows.front in
    let ends = follows_stop binding rules start.follower old.follower state number stop (Some bytes) (Some mid) left
    has.follows step in
    let all = take-length (lines_of bytes) in
    let whole = ap length has.follows.whole in
    let longer = length-append front (lines_of mid) in
    let same = has.lines in
    let counts : start.counts ≡ no_counts → old.counts ≡ line_counts binding rules start.follower 1 (lines_of bytes) =
    λ none. counted_all setup start.follower front old number bytes mid stop (has.counted none) has.follows.whole
    turns.turn_is in (
      record { followed = ends; counts = counts },
      (
        length (lines_of bytes),
        omega (arith, whole, longer, same),
        record {
          keeps = sym (ap (λ (s : stopping.Stopped). s.state) ends)
              ∙ ap (λ lines. (lines_followed binding rules start.follower 1 lines).state) (sym all);
          counts = λ none. counts none ∙ ap (line_counts binding rules start.follower 1) (sym all);
        },
      ),
    )

-- the same of bytes that may be unknown
pub line_on : (setup : FollowSetup) (old : Followed) (number : ℕ) (state : FollowState) (counts : Counts)
    (taken : Taken) (mid left : Option (List ℕ)) → number < 2 ^ 64
    → counts ≡ counts_with saturated taken old.counts
    → IfSome mid (λ bytes. StepLeadsTo setup.binding setup.rules number old.follower bytes None state left)
    → IfSome mid (λ bytes. StepTurns setup.binding setup.rules number old.follower bytes (GoesOn taken) state left)
    → IfSome mid (λ rest. (start : Followed) (bytes : List ℕ) (count : ℕ)
    → HasFollowed setup start bytes count old number rest
    → LeadsOn (HasFollowed setup start bytes) (StopsAt setup start bytes) (KeepsAfter setup start bytes) count number
    None (record { follower = state; counts = counts }) left)
line_on setup old number state counts taken None left fits is step turns = tt
line_on setup old number state counts taken (Some mid) left fits is step turns = λ start bytes count has.
    leads_on setup start old bytes count number mid state counts taken left has fits is step turns

pub line_stops : (setup : FollowSetup) (old : Followed) (number : ℕ) (state : FollowState) (stop : Stop)
    (mid left : Option (List ℕ))
    → IfSome mid (λ bytes. StepLeadsTo setup.binding setup.rules number old.follower bytes (Some stop) state left)
    → IfSome mid (λ bytes. StepTurns setup.binding setup.rules number old.follower bytes (Stops stop) state left)
    → IfSome mid (λ rest. (start : Followed) (bytes : List ℕ) (count : ℕ)
    → HasFollowed setup start bytes count old number rest
    → LeadsOn (HasFollowed setup start bytes) (StopsAt setup start bytes) (KeepsAfter setup start bytes) count number
    (Some stop) (record { follower = state; counts = old.counts }) left)
line_stops setup old number state stop None left step turns = tt
line_stops setup old number state stop (Some mid) left step turns = λ start bytes count has.
    leads_to_stop setup start old bytes count number mid state stop left has step turns

-- ---- a command that begins to count

module _ (setup : FollowSetup) (start now : Followed) where
  pub begun_follows : (ending : StreamEnding Stop) (known : Option (List ℕ))
      → IfStopped ending (λ stop. IfSome known (λ bytes. StopsAt setup start bytes stop now))
      → IfStopped ending (λ stop. IfSome known (λ bytes. bytes_followed setup.binding setup.rules start.follower bytes
      ≡ record { state = now.follower; stop = stop }))
  begun_follows (Stopped stop) None stops = tt
  begun_follows (Stopped stop) (Some bytes) stops = stops.followed
  begun_follows (Failed why) known stops = tt

  pub begun_counts : (ending : StreamEnding Stop) (known : Option (List ℕ)) → start.counts ≡ no_counts
      → IfStopped ending (λ stop. IfSome known (λ bytes. StopsAt setup start bytes stop now))
      → IfStopped ending (λ stop. IfSome known (λ bytes.
      now.counts ≡ counts_of setup.binding setup.rules start.follower bytes))
  begun_counts (Stopped stop) None none stops = tt
  begun_counts (Stopped stop) (Some bytes) none stops = stops.counts none
  begun_counts (Failed why) known none stops = tt
