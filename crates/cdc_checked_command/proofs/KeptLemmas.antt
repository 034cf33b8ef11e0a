-- What a follower stands for, and what it counts, while a stream is followed, line by line.
use Rattle.std.proofs.Common.{◌≡◌, ℕ, ◌+◌, ◌<◌, ◌^◌, List, [], ◌∷◌, ◌++◌, append_assoc, length, take, Bool, Option, None, Some}
use Rattle.std.proofs.Common.{refl, sym, ap, ◌∙◌, subst, arith}
use Rattle.std.specs.Prelude.{IfSome}
use Rattle.std.proofs.Math.Seq.{take-length}
use Rattle.std.proofs.lemmas.List.{length-append}
use Rattle.cdc_match.specs.Arguments.{Arguments}
use Rattle.cdc_follow.specs.Counts.{counts_with, no_counts, one_more, saturated}
use Rattle.cdc_follow.specs.Lines.{lines_of}
use Rattle.cdc_follow.specs.declared.counts.Counts.{Counts}
use Rattle.cdc_follow.specs.declared.streams.Taken.{Taken}
use Rattle.cdc_follow.proofs.CountLemmas.{AreBelow, below_with, counts_exact, counts_sum, none_sum, sum_with}
use Rattle.cdc_streams.specs.Saving.{IfStopped}
use Rattle.cdc_streams.specs.Taking.{LeadsOn}
use Rattle.cdc_streams.specs.declared.endings.StreamEnding.{StreamEnding}
use Rattle.cdc_streams.specs.declared.endings.StreamEnding.TheVariants.{Stopped, Failed}
use Rattle.cdc_audit.specs.declared.refusals.Refusal.{Refusal}
use Rattle.cdc_checked_follow.specs.declared.streams.CheckStop.{CheckStop}
use Rattle.cdc_checked_follow.specs.declared.turns.CheckTurn.TheVariants.{GoesOn, Stops}
use Rattle.cdc_checked_follow.specs.Checking.{Checked, CheckedState, bytes_checked, lines_checked}
use Rattle.cdc_checked_follow.specs.Counts.{line_counts}
use Rattle.cdc_checked_follow.specs.Standing.{CheckedFollowerState, StandsFor}
use Rattle.cdc_checked_follow.specs.Streams.{Checks, EndsAs, StepLeadsTo}
use Rattle.cdc_checked_follow.specs.Turns.{StepTurns, first_turn, line_state, line_turn}
use Rattle.cdc_checked_follow.proofs.CountLemmas.{counts_end, counts_on}
use Rattle.cdc_checked_follow.proofs.TurnLemmas.{turns_of_line}
use Rattle.cdc_checked_command.specs.Following.{CountsLines, FollowsTo, IsOf, StandsAfter, StopsAt}
use Rattle.cdc_checked_command.specs.Private.Checked.{HasChecked, HasCounted}
use Rattle.cdc_checked_command.specs.declared.checkers.BoundFollower.{BoundFollower}
use Rattle.cdc_checked_command.specs.declared.checkers.CheckSetup.{CheckSetup}

-- a follower of the same binding, with other counts
abbrev pub Next : BoundFollower → CheckedFollowerState → Counts → BoundFollower
Next old follower counts = record old { follower = follower; counts = counts }

-- what a line leads to
abbrev pub LineLeads : CheckSetup → BoundFollower → List ℕ → ℕ → ℕ → Option CheckStop → BoundFollower
    → Option (List ℕ) → Type 0
LineLeads setup start bytes count number stop new left =
    LeadsOn (HasChecked setup start bytes) (StopsAt setup start bytes) (StandsAfter setup start bytes) count number
    stop new left

-- it is still of the binding at the start
still_of : (start old : BoundFollower) (follower : CheckedFollowerState) (counts : Counts) → IsOf start old
    → IsOf start (Next old follower counts)
still_of start old follower counts same = ap (λ (it : BoundFollower). Next it follower counts) same

-- a line leads to the same under the binding at the start, and the same comes of it
step_at_start : (start old : BoundFollower) (skips : Bool) (number : ℕ) (mid : List ℕ) (stop : Option CheckStop)
    (follower : CheckedFollowerState) (left : Option (List ℕ)) → IsOf start old
    → StepLeadsTo old.binding skips number old.follower mid stop follower left
    → StepLeadsTo start.binding skips number old.follower mid stop follower left
step_at_start start old skips number mid stop follower left same step =
    let binding : old.binding ≡ start.binding = ap (λ (it : BoundFollower). it.binding) same in
    subst (λ b. StepLeadsTo b skips number old.follower mid stop follower left) binding step

turns_at_start : (start old : BoundFollower) (skips : Bool) (number : ℕ) (mid : List ℕ) (turn : _) → IsOf start old
    → StepTurns old.binding skips number old.follower mid turn
    → StepTurns start.binding skips number old.follower mid turn
turns_at_start start old skips number mid turn same turns =
    let binding : old.binding ≡ start.binding = ap (λ (it : BoundFollower). it.binding) same in
    subst (λ b. StepTurns b skips number old.follower mid turn) binding turns

-- one more line is counted
counted_on : (binding : Arguments) (skips : Bool) (start old new : CheckedState) (front : List (List ℕ))
    (before counts : Counts) (number : ℕ) (line : List ℕ) (made : Taken) (why : Option Refusal)
    → HasCounted binding skips start front old before number → number < 2 ^ 64
    → counts ≡ counts_with saturated made before → GoesOn made why ≡ line_turn binding skips old number line
    → new ≡ line_state old line → HasCounted binding skips start (front ++ line ∷ []) new counts (number + 1)
counted_on binding skips start old new front before counts number line made why has fits is turns next =
    let exact : counts ≡ counts_with one_more made before =
    is ∙ counts_exact made number before has.below fits in record {
      all = λ rest.
          let later = line_counts binding skips new (number + 1) rest in
          ap (line_counts binding skips start 1) (append_assoc front (line ∷ []) rest)
          ∙ has.all (line ∷ rest)
          ∙ ap (counts_sum before) (counts_on binding skips old new number line rest made why turns next)
          ∙ sum_with made before later
          ∙ ap (λ (all : Counts). counts_sum all later) (sym exact);
      below = subst (AreBelow (number + 1)) (sym exact) (below_with made number before has.below);
    }

-- one more line was followed
leads_on : (setup : CheckSetup) (start old : BoundFollower) (bytes : List ℕ) (count number : ℕ) (mid : List ℕ)
    (new : CheckedFollowerState) (counts : Counts) (made : Taken) (why : Option Refusal) (left : Option (List ℕ))
    → HasChecked setup start bytes count old number mid → number < 2 ^ 64
    → counts ≡ counts_with saturated made old.counts
    → StepLeadsTo start.binding setup.skips_gaps number old.follower mid None new left
    → StepTurns start.binding setup.skips_gaps number old.follower mid (GoesOn made why)
    → LineLeads setup start bytes count number None (Next old new counts) left
leads_on setup start old bytes count number mid new counts made why left has fits is step turns =
    let skips = setup.skips_gaps in
    let line = step.0 in
    let rest = step.1 in
    let before = has.front in
    let front = before ++ line ∷ [] in
    let longer = length-append before (line ∷ []) in
    let same = has.lines in (
      rest,
      step.2,
      length front,
      omega (arith, longer, same),
      record {
        same = still_of start old new counts has.same;
        front = front;
        whole = has.whole ∙ ap (λ lines. before ++ lines) step.3 ∙ sym (append_assoc before (line ∷ []) (lines_of rest));
        lines = refl;
        goes = λ state stands.
            let so_far = has.goes state stands in
            let on = step.4 so_far.next so_far.stands in
            record {
              next = on.next;
              stands = on.stands;
              leads = λ others. ap (lines_checked skips state 1) (append_assoc before (line ∷ []) others)
                  ∙ so_far.leads (line ∷ others) ∙ on.leads others;
            };
        counted = λ none state stands.
            let so_far = has.goes state stands in
            let on = step.4 so_far.next so_far.stands in
            counted_on start.binding skips state so_far.next on.next before old.counts counts number line made why
            (has.counted none state stands) fits is
            (turns_of_line start.binding skips number old.follower mid line rest (GoesOn made why) step.3 turns so_far.next
            so_far.stands) on.next_is;
      },
    )

-- following stops, so it stops at the end of the bytes or before it
ends_at : (setup : CheckSetup) (start old : BoundFollower) (bytes : List ℕ) (count number : ℕ) (mid : List ℕ)
    (stop : CheckStop) (new : CheckedFollowerState) (left : Option (List ℕ))
    → HasChecked setup start bytes count old number mid
    → StepLeadsTo start.binding setup.skips_gaps number old.follower mid (Some stop) new left
    → Checks start.binding setup.skips_gaps start.follower bytes stop new
ends_at setup start old bytes count number mid stop new left has step = λ state stands.
    let skips = setup.skips_gaps in
    let so_far = has.goes state stands in
    let whole : bytes_checked skips state bytes ≡ lines_checked skips so_far.next number (lines_of mid) =
    ap (lines_checked skips state 1) has.whole ∙ so_far.leads (lines_of mid) in
    subst (λ (it : Checked). EndsAs start.binding it stop new) (sym whole) (step so_far.next so_far.stands)

counted_all : (setup : CheckSetup) (start old : BoundFollower) (bytes : List ℕ) (count number : ℕ) (mid : List ℕ)
    (stop : CheckStop) → HasChecked setup start bytes count old number mid
    → StepTurns start.binding setup.skips_gaps number old.follower mid (Stops stop) → start.counts ≡ no_counts
    → CountsLines setup start bytes old.counts
counted_all setup start old bytes count number mid stop has turns none = λ state stands.
    let skips = setup.skips_gaps in
    let so_far = has.goes state stands in
    sym (ap (line_counts start.binding skips state 1) has.whole
    ∙ (has.counted none state stands).all (lines_of mid)
    ∙ ap (counts_sum old.counts)
    (counts_end start.binding skips so_far.next number stop (lines_of mid) (turns so_far.next so_far.stands))
    ∙ none_sum old.counts)

-- following stops at a line
leads_to_stop : (setup : CheckSetup) (start old : BoundFollower) (bytes : List ℕ) (count number : ℕ) (mid : List ℕ)
    (new : CheckedFollowerState) (stop : CheckStop) (left : Option (List ℕ))
    → HasChecked setup start bytes count old number mid
    → StepLeadsTo start.binding setup.skips_gaps number old.follower mid (Some stop) new left
    → StepTurns start.binding setup.skips_gaps number old.follower mid (Stops stop)
    → LineLeads setup start bytes count number (Some stop) (Next old new old.counts) left
leads_to_stop setup start old bytes count number mid new stop left has step turns =
    let skips = setup.skips_gaps in
    let front = has.front in
    let ends = ends_at setup start old bytes count number mid stop new left has step in
    let all = take-length (lines_of bytes) in
    let whole = ap length has.whole in
    let longer = length-append front (lines_of mid) in
    let same = has.lines in
    let counts : start.counts ≡ no_counts → CountsLines setup start bytes old.counts =
    counted_all setup start old bytes count number mid stop has turns in (
      record { same = still_of start old new old.counts has.same; checks = ends; counts = counts },
      (
        length (lines_of bytes),
        omega (arith, whole, longer, same),
        record {
          same = still_of start old new old.counts has.same;
          stands = λ state stands.
              subst (λ lines. StandsFor start.binding new (lines_checked skips state 1 lines).state) (sym all)
              (ends state stands).stands;
          counts = λ none state stands.
              counts none state stands ∙ ap (line_counts start.binding skips state 1) (sym all);
        },
      ),
    )

-- the same of bytes that may be unknown
pub line_on : (setup : CheckSetup) (old : BoundFollower) (number : ℕ) (new : CheckedFollowerState) (counts : Counts)
    (made : Taken) (why : Option Refusal) (known left : Option (List ℕ)) → number < 2 ^ 64
    → counts ≡ counts_with saturated made old.counts
    → IfSome known (λ bytes. StepLeadsTo old.binding setup.skips_gaps number old.follower bytes None new left)
    → IfSome known (λ bytes. StepTurns old.binding setup.skips_gaps number old.follower bytes (GoesOn made why))
    → IfSome known (λ mid. (start : BoundFollower) (bytes : List ℕ) (count : ℕ)
    → HasChecked setup start bytes count old number mid
    → LineLeads setup start bytes count number None (Next old new counts) left)
line_on setup old number new counts made why None left fits is step turns = tt
line_on setup old number new counts made why (Some mid) left fits is step turns = λ start bytes count has.
    leads_on setup start old bytes count number mid new counts made why left has fits is
    (step_at_start start old setup.skips_gaps number mid None new left has.same step)
    (turns_at_start start old setup.skips_gaps number mid (GoesOn made why) has.same turns)

pub line_stops : (setup : CheckSetup) (old : BoundFollower) (number : ℕ) (new : CheckedFollowerState) (stop : CheckStop)
    (known left : Option (List ℕ))
    → IfSome known (λ bytes. StepLeadsTo old.binding setup.skips_gaps number old.follower bytes (Some stop) new left)
    → IfSome known (λ bytes. StepTurns old.binding setup.skips_gaps number old.follower bytes (Stops stop))
    → IfSome known (λ mid. (start : BoundFollower) (bytes : List ℕ) (count : ℕ)
    → HasChecked setup start bytes count old number mid
    → LineLeads setup start bytes count number (Some stop) (Next old new old.counts) left)
line_stops setup old number new stop None left step turns = tt
line_stops setup old number new stop (Some mid) left step turns = λ start bytes count has.
    leads_to_stop setup start old bytes count number mid new stop left has
    (step_at_start start old setup.skips_gaps number mid (Some stop) new left has.same step)
    (turns_at_start start old setup.skips_gaps number mid (Stops stop) has.same turns)

-- ---- a command that begins to count

module _ (setup : CheckSetup) (start now : BoundFollower) where
  -- the counts of before say nothing
  abbrev Begun : BoundFollower
  Begun = record start { counts = no_counts }

  pub begun_follows : (ending : StreamEnding CheckStop) (known : Option (List ℕ))
      → IfStopped ending (λ stop. IfSome known (λ bytes. StopsAt setup Begun bytes stop now))
      → IfStopped ending (λ stop. IfSome known (λ bytes. FollowsTo setup start bytes stop now))
  begun_follows (Stopped stop) None stops = tt
  begun_follows (Stopped stop) (Some bytes) stops = (stops.same, stops.checks)
  begun_follows (Failed why) known stops = tt

  pub begun_counts : (ending : StreamEnding CheckStop) (known : Option (List ℕ))
      → IfStopped ending (λ stop. IfSome known (λ bytes. StopsAt setup Begun bytes stop now))
      → IfStopped ending (λ stop. IfSome known (λ bytes. CountsLines setup start bytes now.counts))
  begun_counts (Stopped stop) None stops = tt
  begun_counts (Stopped stop) (Some bytes) stops = stops.counts refl
  begun_counts (Failed why) known stops = tt
