use Rattle.std.proofs.Common.{◌≡◌, ◌+◌, ◌<◌, ◌++◌, ap, arith, length, refl}
use Rattle.cdc_frames.specs.Frames.{frame}
use Rattle.cdc_frames.specs.Records.{IsFitText}
use Rattle.cdc_frames.proofs.FrameLemmas.{content_within, none_torn}
use Rattle.cdc_frames.proofs.RecordLemmas.{all_read, none_yet, one_more, read_so, refused_all, refused_read}
use Rattle.cdc_chain_command.specs.Logs.{Fits, log_name, saved_text}
use Rattle.cdc_chain_command.specs.Private.Reads.{saved_of}
use Rattle.cdc_chain_command.proofs.LogLemmas.{reads_as}
use Rattle.cdc_chain_command.proofs.logs.read_later.Goals as goal

-- no frame is left
pub returns-in_default-clause-exact : goal.returns-in_default-clause-exact
returns-in_default-clause-exact c = (
  c.records.records,
  length c.records.rest.now,
  read_so log_name (Fits c.args.count) saved_text (λ before next. next) c.args.text.now (saved_of c.args.first)
      c.records.records c.records.rest.now (saved_of c.records.last) (length c.records.rest.now)
      c.records.invariant.so_far
      (none_torn log_name (IsFitText (Fits c.args.count) saved_text) (c.records.records + 1) c.records.rest.now
      (c.in_ok-found.ensures.torn c.in_default.is)) refl,
)

pub returns-in_default-clause-all : goal.returns-in_default-clause-all
returns-in_default-clause-all c = λ later torn fit split.
    (all_read log_name (Fits c.args.count) saved_text (λ before next. next) c.args.text.now (saved_of c.args.first)
    c.records.records c.records.rest.now (saved_of c.records.last) (length c.records.rest.now)
    c.records.invariant.so_far
    (λ one more fits is. (c.in_ok-found.ensures.torn c.in_default.is) (saved_text one) more is) refl later torn fit
    split).0.state_is

-- a frame with something else, and other bytes after it
pub returns-then-left-gt0-clause-all : goal.returns-then-left-gt0-clause-all
returns-then-left-gt0-clause-all c = λ later torn fit split.
    let is = rw c.in-Some.is at c.in_ok-found.ensures.whole in
    let read = refused_all log_name (Fits c.args.count) saved_text (λ before next. next) c.args.text.now
    (saved_of c.args.first) c.records.records c.records.rest.now (saved_of c.records.last)
    c.in-Some.found.content.now c.in-Some.found.rest.now (omega arith) c.records.invariant.so_far is
    (λ one fits same. rw c.in_default-2.is at
    (reads_as c.args.count c.in-Some.found.content.now _ c.in_ok-next.ensures.all one fits same)) later torn fit split
    in
    let size : length c.in-Some.found.rest.now ≡ 0 = ap length read.1 in
    absurd (omega (arith, size, c.if-left-gt0.true))

-- a last frame with something else
pub returns-in_default-2-clause-exact : goal.returns-in_default-2-clause-exact
returns-in_default-2-clause-exact c =
    let is = rw c.in-Some.is at c.in_ok-found.ensures.whole in (
      c.records.records,
      length c.records.rest.now,
      refused_read log_name (Fits c.args.count) saved_text (λ before next. next) c.args.text.now
          (saved_of c.args.first) c.records.records c.records.rest.now (saved_of c.records.last)
          c.in-Some.found.content.now c.in-Some.found.rest.now (omega arith) c.records.invariant.so_far is
          (λ one fits same. rw c.in_default-2.is at
          (reads_as c.args.count c.in-Some.found.content.now _ c.in_ok-next.ensures.all one fits same))
          c.if-left-gt0.false,
    )

pub returns-in_default-2-clause-all : goal.returns-in_default-2-clause-all
returns-in_default-2-clause-all c = λ later torn fit split.
    let is = rw c.in-Some.is at c.in_ok-found.ensures.whole in
    (refused_all log_name (Fits c.args.count) saved_text (λ before next. next) c.args.text.now
    (saved_of c.args.first) c.records.records c.records.rest.now (saved_of c.records.last)
    c.in-Some.found.content.now c.in-Some.found.rest.now (omega arith) c.records.invariant.so_far is
    (λ one fits same. rw c.in_default-2.is at
    (reads_as c.args.count c.in-Some.found.content.now _ c.in_ok-next.ensures.all one fits same)) later torn fit
    split).0.state_is

pub records-init : goal.records-init
records-init c = record {
  good = c.requires;
  so_far = none_yet log_name (Fits c.args.count) saved_text (λ before next. next) c.args.text.now
      (saved_of c.args.first);
}

pub records-smaller : goal.records-smaller
records-smaller c =
    let number = c.records.records + 1 in
    let is : c.records.rest.now ≡ frame log_name number c.in-Some.found.content.now ++ c.in-Some.found.rest.now =
    rw c.in-Some.is at c.in_ok-found.ensures.whole in
    let within = content_within log_name number c.in-Some.found.content.now c.records.rest.now
    c.in-Some.found.rest.now is in
    let less : length c.in-Some.found.rest.now < length c.records.rest.now = omega (arith, within) in less

pub records-preserved : goal.records-preserved
records-preserved c =
    let is = rw c.in-Some.is at c.in_ok-found.ensures.whole in
    let exact = rw c.in-Some-2.is at c.in_ok-next.ensures.exact in
    record {
      good = (exact.1, exact.2);
      so_far = one_more log_name (Fits c.args.count) saved_text (λ before next. next) c.args.text.now
          (saved_of c.args.first) c.records.records c.records.rest.now (saved_of c.records.last)
          c.in-Some.found.content.now c.in-Some.found.rest.now (saved_of c.in-Some-2.next)
          (saved_of c.in-Some-2.next) (omega arith) c.records.invariant.so_far is exact.0
          (λ one fits same. rw c.in-Some-2.is at
          (reads_as c.args.count c.in-Some.found.content.now _ c.in_ok-next.ensures.all one fits same)) refl;
    }
