use Rattle.std.specs.Prelude.{◌==◌}
use Rattle.std.proofs.Common.{List, ap, arith, length, refl, sym, ℕ, ◌≡◌, ◌+◌, ◌<◌, ◌++◌, ◌∙◌}
use Rattle.std.proofs.lemmas.Bool.{false≢true}
use Rattle.cdc_frames.specs.Frames.{frame}
use Rattle.cdc_frames.proofs.FrameLemmas.{content_within}
use Rattle.cdc_checked_state.specs.Logs.{log_name}
use Rattle.cdc_checked_state.proofs.LoopLemmas.{empty_is}
use Rattle.cdc_checked_state.proofs.ReplayLemmas.{all_within, ends, ends_all, ends_within, none_yet, one_more}
use Rattle.cdc_checked_state.proofs.logs.check_records.Goals as goal

pub records-init : goal.records-init
records-init c = none_yet c.args.binding.now c.args.text.now c.args.follower.now

-- no frame is left
pub returns-in_default-clause-exact : goal.returns-in_default-clause-exact
returns-in_default-clause-exact c = λ _.
    ends c.args.binding.now c.args.text.now c.args.follower.now c.records.records
    c.records.rest.now c.records.follower c.records.invariant
    (c.in_ok-found.ensures.torn c.in_default.is)

pub returns-in_default-clause-all : goal.returns-in_default-clause-all
returns-in_default-clause-all c = λ records torn state are stands can. (
  refl,
  ends_all c.args.binding.now c.args.text.now c.args.follower.now c.records.records
      c.records.rest.now c.records.follower c.records.invariant
      (c.in_ok-found.ensures.torn c.in_default.is) records torn state are stands,
)

-- a record has a line that is no entry
pub returns-then-not-branch-clause-exact : goal.returns-then-not-branch-clause-exact
returns-then-not-branch-clause-exact c = λ last.
    ends_within c.args.binding.now c.args.text.now c.args.follower.now c.records.records
    c.records.rest.now c.records.follower c.records.invariant c.in-Some.found.content.now
    c.in-Some.found.rest.now c.check_record.new.follower
    (rw c.in-Some.is at c.in_ok-found.ensures.whole)
    (empty_is c.in-Some.found.rest.now c.is_empty.result c.is_empty.ensures last) c.in_ok-check_record.ensures.stands

pub returns-then-not-branch-clause-all : goal.returns-then-not-branch-clause-all
returns-then-not-branch-clause-all c = λ records torn state are stands can.
    let within = all_within c.args.binding.now c.args.text.now c.args.follower.now c.records.records
    c.records.rest.now c.records.follower c.records.invariant c.in-Some.found.content.now
    c.in-Some.found.rest.now c.check_record.new.follower (omega arith)
    (rw c.in-Some.is at c.in_ok-found.ensures.whole)
    (λ so_far here stops. false≢true (sym c.if-not-branch.true
    ∙ (c.in_ok-check_record.ensures.whole so_far here).1 stops)) c.in_ok-check_record.ensures.stands records torn state
    are stands can in
    (c.is_empty.ensures ∙ ap (λ (rest : List ℕ). length rest == 0) within.0, within.1)

pub records-smaller : goal.records-smaller
records-smaller c =
    let number = c.records.records + 1 in
    let is : c.records.rest.now ≡ frame log_name number c.in-Some.found.content.now ++ c.in-Some.found.rest.now =
    rw c.in-Some.is at c.in_ok-found.ensures.whole in
    let within = content_within log_name number c.in-Some.found.content.now c.records.rest.now
    c.in-Some.found.rest.now is in
    let less : length c.in-Some.found.rest.now < length c.records.rest.now = omega (arith, within) in less

pub records-preserved : goal.records-preserved
records-preserved c =
    one_more c.args.binding.now c.args.text.now c.args.follower.now c.records.records
    c.records.rest.now c.records.follower c.records.invariant c.in-Some.found.content.now
    c.in-Some.found.rest.now c.check_record.new.follower (omega arith)
    (rw c.in-Some.is at c.in_ok-found.ensures.whole)
    (λ state stands. (c.in_ok-check_record.ensures.whole state stands).0 c.if-not-branch.false)
    c.in_ok-check_record.ensures.stands
