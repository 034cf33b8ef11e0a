use Rattle.std.proofs.Common.{arith, subst, sym, ◌∙◌}
use Rattle.std.proofs.lemmas.Bool.{false≢true}
use Rattle.cdc_checked_follow.specs.Standing.{CheckedFollowerState, StandsFor}
use Rattle.cdc_checked_state.proofs.ReplayLemmas.{base_before, base_first, none_first}
use Rattle.cdc_checked_state.proofs.logs.read_log.Goals as goal

pub returns-in_default-clause-all : goal.returns-in_default-clause-all
returns-in_default-clause-all c = λ binding base records torn state can log stands replays.
    none_first c.args.text.now binding base records torn (c.in_ok-found.ensures.torn c.in_default.is) log

pub returns-in_default-2-clause-all : goal.returns-in_default-2-clause-all
returns-in_default-2-clause-all c = λ binding base records torn state can log stands replays.
    let first = base_first c.args.text.now c.in-Some.found.content.now c.in-Some.found.rest.now binding base records
    torn (omega arith) (rw c.in-Some.is at c.in_ok-found.ensures.whole) log in
    rw c.in_default-2.is at (c.in_ok-saved.ensures.all binding base can first.0)

pub returns-then-branch-clause-exact : goal.returns-then-branch-clause-exact
returns-then-branch-clause-exact c =
    let checks = c.in_ok-check_records.ensures.exact c.if-branch.true in
    let first = rw c.in-Some-2.is at c.in_ok-saved.ensures.exact in
    record {
      base = c.in-Some-2.saved.follower;
      records = checks.records;
      torn = checks.torn;
      text_is = base_before c.args.text.now c.in-Some.found.content.now c.in-Some.found.rest.now
          c.in-Some-2.saved.binding.items c.in-Some-2.saved.follower checks.records checks.torn
          (rw c.in-Some.is at c.in_ok-found.ensures.whole) first checks.text_is;
      followed = checks.followed;
    }

pub returns-then-branch-clause-all : goal.returns-then-branch-clause-all
returns-then-branch-clause-all c = λ binding base records torn state can log stands replays.
    let first = base_first c.args.text.now c.in-Some.found.content.now c.in-Some.found.rest.now binding base records
    torn (omega arith) (rw c.in-Some.is at c.in_ok-found.ensures.whole) log in
    let same = rw c.in-Some-2.is at (c.in_ok-saved.ensures.all binding base can first.0) in (
      same.binding_is,
      (c.in_ok-check_records.ensures.all records torn state first.1
          (subst (λ (f : CheckedFollowerState). StandsFor c.args.binding.now f state) (sym same.follower_is) stands)
          replays).1,
    )

pub returns-else-branch-clause-all : goal.returns-else-branch-clause-all
returns-else-branch-clause-all c = λ binding base records torn state can log stands replays.
    let first = base_first c.args.text.now c.in-Some.found.content.now c.in-Some.found.rest.now binding base records
    torn (omega arith) (rw c.in-Some.is at c.in_ok-found.ensures.whole) log in
    let same = rw c.in-Some-2.is at (c.in_ok-saved.ensures.all binding base can first.0) in
    let found = (c.in_ok-check_records.ensures.all records torn state first.1
    (subst (λ (f : CheckedFollowerState). StandsFor c.args.binding.now f state) (sym same.follower_is) stands)
    replays).0 in
    absurd (false≢true (sym c.if-branch.false ∙ found))
