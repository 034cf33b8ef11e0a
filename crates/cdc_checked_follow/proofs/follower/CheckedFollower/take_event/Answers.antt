use Rattle.std.proofs.Common.{◌≡◌, ◌+◌, ◌∙◌, ℕ, List, ap, ap₂, refl, subst, sym}
use Rattle.std.specs.Prelude.{max, min, if◌then◌else◌}
use Rattle.std.proofs.lemmas.Bool.{le-ltb}
use Rattle.cdc_types.specs.declared.accounts.Balances.{Balances}
use Rattle.cdc_types.specs.declared.bounds.TheConstants.Limits.{TIMESTAMP}
use Rattle.cdc_types.specs.Widths.{max_64}
use Rattle.cdc_match.specs.Matching.{matches}
use Rattle.cdc_subscriber.specs.Book.{entries_of}
use Rattle.cdc_subscriber.specs.Steps.{book_after}
use Rattle.cdc_checked.specs.declared.checker.Outcome.TheVariants as outcome
use Rattle.cdc_checked.specs.Based.{next_by}
use Rattle.cdc_checked.specs.Standing as standing
use Rattle.cdc_checked.specs.Standing.{CheckerState, outcome_by}
use Rattle.cdc_checked_follow.specs.Standing.{CheckedFollowerState}
use Rattle.cdc_checked_follow.proofs.StandLemmas.{stands_kept, stands_next}
use Rattle.cdc_checked_follow.proofs.follower.CheckedFollower.take_event.Goals as goal

pub returns-in-Applied-clause-next : goal.returns-in-Applied-clause-next
returns-in-Applied-clause-next c = λ state stands.
    let e = c.args.event.now in
    let was = c.self.view_is in
    let new : CheckedFollowerState = record {
      checker = c.take_by.new.self;
      book = c.keep_in_book.new.book.entries;
      applied = c.count_if-self-inside.result;
      last = c.max-self-inside.result;
      ended = c.self.inside.ended;
      baseline = c.self.inside.baseline;
    } in
    let before : standing.StandsFor c.self.inside.checker state.applied =
    subst (λ (f : CheckedFollowerState). standing.StandsFor f.checker state.applied) (sym was) stands.checker in
    let base = ap (λ (f : CheckedFollowerState). f.baseline) was ∙ stands.baseline in
    stands_next c.args.binding.now c.args.self.now new state e c.matches-taken.result stands
    (le-ltb TIMESTAMP e.timestamp c.if-event-gt-TIMESTAMP.false)
    (sym c.in-Applied.is ∙ c.in_ok-take_by.ensures.answer state.applied before
    ∙ ap (λ b. outcome_by b state.applied e) base)
    (subst (λ b. standing.StandsFor c.take_by.new.self (next_by b state.applied e)) base
    (c.in_ok-take_by.ensures.next state.applied before))
    (c.matches-taken.ensures ∙ ap (matches c.args.binding.now) c.headers_of.ensures)
    (c.keep_in_book.ensures
    ∙ ap (λ b. if c.matches-taken.result then book_after b e else b)
    (ap entries_of (c.in_ok-reserve.ensures.entries ∙ ap (λ (f : CheckedFollowerState). f.book) was)))
    (c.count_if-self-inside.ensures
    ∙ ap (λ n. if c.matches-taken.result then min (n + 1) max_64 else n)
    (ap (λ (f : CheckedFollowerState). f.applied) was))
    (c.max-self-inside.ensures ∙ ap (λ (f : CheckedFollowerState). max f.last e.timestamp) was)
    (ap (λ (f : CheckedFollowerState). f.ended) was) (ap (λ (f : CheckedFollowerState). f.baseline) was)

pub returns-in-Late-clause-next : goal.returns-in-Late-clause-next
returns-in-Late-clause-next c = λ state stands.
    let e = c.args.event.now in
    let was = c.self.view_is in
    let new : CheckedFollowerState = record {
      checker = c.take_by.new.self;
      book = c.reserve.new.self.entries;
      applied = c.self.inside.applied;
      last = c.self.inside.last;
      ended = c.self.inside.ended;
      baseline = c.self.inside.baseline;
    } in
    let before : standing.StandsFor c.self.inside.checker state.applied =
    subst (λ (f : CheckedFollowerState). standing.StandsFor f.checker state.applied) (sym was) stands.checker in
    let base = ap (λ (f : CheckedFollowerState). f.baseline) was ∙ stands.baseline in
    stands_kept c.args.binding.now c.args.self.now new state e outcome.Late stands
    (le-ltb TIMESTAMP e.timestamp c.if-event-gt-TIMESTAMP.false)
    (sym c.in-Late.is ∙ c.in_ok-take_by.ensures.answer state.applied before
    ∙ ap (λ b. outcome_by b state.applied e) base) refl
    (subst (λ b. standing.StandsFor c.take_by.new.self (next_by b state.applied e)) base
    (c.in_ok-take_by.ensures.next state.applied before))
    (c.in_ok-reserve.ensures.entries ∙ ap (λ (f : CheckedFollowerState). f.book) was)
    (ap (λ (f : CheckedFollowerState). f.applied) was) (ap (λ (f : CheckedFollowerState). f.last) was)
    (ap (λ (f : CheckedFollowerState). f.ended) was) (ap (λ (f : CheckedFollowerState). f.baseline) was)

pub returns-in-Refused-clause-next : goal.returns-in-Refused-clause-next
returns-in-Refused-clause-next c = λ state stands.
    let e = c.args.event.now in
    let was = c.self.view_is in
    let new : CheckedFollowerState = record {
      checker = c.take_by.new.self;
      book = c.reserve.new.self.entries;
      applied = c.self.inside.applied;
      last = c.self.inside.last;
      ended = c.self.inside.ended;
      baseline = c.self.inside.baseline;
    } in
    let before : standing.StandsFor c.self.inside.checker state.applied =
    subst (λ (f : CheckedFollowerState). standing.StandsFor f.checker state.applied) (sym was) stands.checker in
    let base = ap (λ (f : CheckedFollowerState). f.baseline) was ∙ stands.baseline in
    stands_kept c.args.binding.now c.args.self.now new state e (outcome.Refused c.in-Refused.why) stands
    (le-ltb TIMESTAMP e.timestamp c.if-event-gt-TIMESTAMP.false)
    (sym c.in-Refused.is ∙ c.in_ok-take_by.ensures.answer state.applied before
    ∙ ap (λ b. outcome_by b state.applied e) base) refl
    (subst (λ b. standing.StandsFor c.take_by.new.self (next_by b state.applied e)) base
    (c.in_ok-take_by.ensures.next state.applied before))
    (c.in_ok-reserve.ensures.entries ∙ ap (λ (f : CheckedFollowerState). f.book) was)
    (ap (λ (f : CheckedFollowerState). f.applied) was) (ap (λ (f : CheckedFollowerState). f.last) was)
    (ap (λ (f : CheckedFollowerState). f.ended) was) (ap (λ (f : CheckedFollowerState). f.baseline) was)

pub returns-in-Late-clause-same : goal.returns-in-Late-clause-same
returns-in-Late-clause-same c = λ _.
    ap₂ (λ (k : CheckerState) (b : List (ℕ × Balances)).
    let it : CheckedFollowerState = record {
      checker = k;
      book = b;
      applied = c.self.inside.applied;
      last = c.self.inside.last;
      ended = c.self.inside.ended;
      baseline = c.self.inside.baseline;
    } in it)
    (c.in_ok-take_by.ensures.same (λ is. let never : outcome.Late ≡ outcome.Applied = sym c.in-Late.is ∙ is in cc))
    c.in_ok-reserve.ensures.entries
    ∙ c.self.view_is

pub returns-in-Refused-clause-same : goal.returns-in-Refused-clause-same
returns-in-Refused-clause-same c = λ _.
    ap₂ (λ (k : CheckerState) (b : List (ℕ × Balances)).
    let it : CheckedFollowerState = record {
      checker = k;
      book = b;
      applied = c.self.inside.applied;
      last = c.self.inside.last;
      ended = c.self.inside.ended;
      baseline = c.self.inside.baseline;
    } in it)
    (c.in_ok-take_by.ensures.same (λ is.
    let never : outcome.Refused c.in-Refused.why ≡ outcome.Applied = sym c.in-Refused.is ∙ is in cc))
    c.in_ok-reserve.ensures.entries
    ∙ c.self.view_is
