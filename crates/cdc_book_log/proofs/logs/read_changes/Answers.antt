use Rattle.std.proofs.Common.{◌≡◌, ◌+◌, ◌<◌, ◌++◌, ap, arith, length, refl}
use Rattle.cdc_follow.specs.Saved.{CanBeSaved, book_text}
use Rattle.cdc_frames.specs.Frames.{frame}
use Rattle.cdc_frames.proofs.FrameLemmas.{content_within}
use Rattle.cdc_frames.proofs.RecordLemmas.{all_read, none_yet, one_more, refused_all, refused_read}
use Rattle.cdc_book_log.specs.Logs.{log_name}
use Rattle.cdc_book_log.specs.Replay.{with_changes}
use Rattle.cdc_book_log.proofs.logs.read_changes.Goals as goal

-- no frame is left
pub returns-in_default-clause-all : goal.returns-in_default-clause-all
returns-in_default-clause-all c = λ changes torn fit split.
    let base = c.args.base.now in
    let text = book_text base.chained base.binding.items in
    (all_read log_name (CanBeSaved base.binding.items) text with_changes c.args.text.now c.args.replaying.now
    c.records.records c.records.rest.now c.records.replaying (length c.records.rest.now) c.records.invariant
    (λ one more fits is. (c.in_ok-found.ensures.torn c.in_default.is) (text one) more is) refl changes torn fit split).0

-- a frame with something else, and other bytes after it
pub returns-then-left-gt0-clause-all : goal.returns-then-left-gt0-clause-all
returns-then-left-gt0-clause-all c = λ changes torn fit split.
    let base = c.args.base.now in
    let is = rw c.in-Some.is at c.in_ok-found.ensures.whole in
    let read = refused_all log_name (CanBeSaved base.binding.items) (book_text base.chained base.binding.items)
    with_changes c.args.text.now c.args.replaying.now c.records.records c.records.rest.now c.records.replaying
    c.in-Some.found.content.now c.in-Some.found.rest.now (omega arith) c.records.invariant is
    (λ state fits same. rw c.in_default-2.is at (c.in_ok-change.ensures.all state fits same)) changes torn fit split in
    let size : length c.in-Some.found.rest.now ≡ 0 = ap length read.1 in
    absurd (omega (arith, size, c.if-left-gt0.true))

-- a last frame with something else
pub returns-in_default-2-clause-exact : goal.returns-in_default-2-clause-exact
returns-in_default-2-clause-exact c =
    let base = c.args.base.now in
    let is = rw c.in-Some.is at c.in_ok-found.ensures.whole in
    refused_read log_name (CanBeSaved base.binding.items) (book_text base.chained base.binding.items) with_changes
    c.args.text.now c.args.replaying.now c.records.records c.records.rest.now c.records.replaying
    c.in-Some.found.content.now c.in-Some.found.rest.now (omega arith) c.records.invariant is
    (λ state fits same. rw c.in_default-2.is at (c.in_ok-change.ensures.all state fits same)) c.if-left-gt0.false

pub returns-in_default-2-clause-all : goal.returns-in_default-2-clause-all
returns-in_default-2-clause-all c = λ changes torn fit split.
    let base = c.args.base.now in
    let is = rw c.in-Some.is at c.in_ok-found.ensures.whole in
    (refused_all log_name (CanBeSaved base.binding.items) (book_text base.chained base.binding.items) with_changes
    c.args.text.now c.args.replaying.now c.records.records c.records.rest.now c.records.replaying
    c.in-Some.found.content.now c.in-Some.found.rest.now (omega arith) c.records.invariant is
    (λ state fits same. rw c.in_default-2.is at (c.in_ok-change.ensures.all state fits same)) changes torn fit split).0

pub records-init : goal.records-init
records-init c =
    none_yet log_name (CanBeSaved c.args.base.now.binding.items)
    (book_text c.args.base.now.chained c.args.base.now.binding.items) with_changes c.args.text.now c.args.replaying.now

pub records-smaller : goal.records-smaller
records-smaller c =
    let number = c.records.records + 1 in
    let is : c.records.rest.now ≡ frame log_name number c.in-Some.found.content.now ++ c.in-Some.found.rest.now =
    rw c.in-Some.is at c.in_ok-found.ensures.whole in
    let within = content_within log_name number c.in-Some.found.content.now c.records.rest.now
    c.in-Some.found.rest.now is in
    let less : length c.in-Some.found.rest.now < length c.records.rest.now = omega (arith, within) in less

pub records-preserved : goal.records-preserved
records-preserved c =
    let base = c.args.base.now in
    let is = rw c.in-Some.is at c.in_ok-found.ensures.whole in
    one_more log_name (CanBeSaved base.binding.items) (book_text base.chained base.binding.items) with_changes
    c.args.text.now c.args.replaying.now c.records.records c.records.rest.now c.records.replaying
    c.in-Some.found.content.now c.in-Some.found.rest.now c.in-Some-2.change c.take.new.self (omega arith)
    c.records.invariant is (rw c.in-Some-2.is at c.in_ok-change.ensures.exact)
    (λ state fits same. rw c.in-Some-2.is at (c.in_ok-change.ensures.all state fits same)) c.in_ok-take.ensures
