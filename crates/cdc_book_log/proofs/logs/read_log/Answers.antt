use Rattle.std.proofs.Common.{◌++◌, ◌∙◌, ap, arith, refl, append_assoc}
use Rattle.std.specs.Prelude.{map}
use Rattle.cdc_follow.specs.Saved.{CanBeSaved, book_text}
use Rattle.cdc_frames.specs.Frames.{frame, frames}
use Rattle.cdc_frames.specs.Records.{IsFitText, IsText}
use Rattle.cdc_frames.proofs.RecordLemmas.{first_record, record_before}
use Rattle.cdc_book_log.specs.Logs.{log_name}
use Rattle.cdc_book_log.specs.Replay.{replay}
use Rattle.cdc_book_log.proofs.LogLemmas.{fit_for, records_for, whole_of}
use Rattle.cdc_book_log.proofs.logs.read_log.Goals as goal

pub returns-in_default-clause-all : goal.returns-in_default-clause-all
returns-in_default-clause-all c = λ chained binding base changes torn fit split.
    let text = book_text chained binding base in
    let others = frames log_name 1 (map (book_text chained binding) changes) in
    c.in_ok-found.ensures.torn c.in_default.is text (others ++ torn)
    (split.whole ∙ append_assoc (frame log_name 0 text) others torn)

pub returns-in_default-2-clause-all : goal.returns-in_default-2-clause-all
returns-in_default-2-clause-all c = λ chained binding base changes torn fit split.
    let is = rw c.in-Some.is at c.in_ok-found.ensures.whole in
    let first = first_record log_name (book_text chained binding) 0 c.args.text.now c.in-Some.found.content.now
    c.in-Some.found.rest.now torn base changes (omega arith) (omega arith) is split in
    rw c.in_default-2.is at (c.in_ok-base.ensures.all chained binding base fit.0 first.0)

pub returns-in_default-3-clause-all : goal.returns-in_default-3-clause-all
returns-in_default-3-clause-all c = λ chained binding base changes torn fit split.
    let is = rw c.in-Some.is at c.in_ok-found.ensures.whole in
    let first = first_record log_name (book_text chained binding) 0 c.args.text.now c.in-Some.found.content.now
    c.in-Some.found.rest.now torn base changes (omega arith) (omega arith) is split in
    let book = rw c.in-Some-2.is at (c.in_ok-base.ensures.all chained binding base fit.0 first.0) in
    rw c.in_default-3.is at (c.in_ok-tail.ensures.all changes torn
    (fit_for binding c.in-Some-2.base.binding.items changes book.binding_is fit.1)
    (records_for chained c.in-Some-2.base.chained binding c.in-Some-2.base.binding.items c.in-Some.found.rest.now torn
    changes book.chained_is book.binding_is first.1))

pub returns-clause-exact : goal.returns-clause-exact
returns-clause-exact c =
    let is = rw c.in-Some.is at c.in_ok-found.ensures.whole in
    let base = c.in-Some-2.base in
    let first = rw c.in-Some-2.is at c.in_ok-base.ensures.exact in
    let tail = rw c.in-Some-3.is at c.in_ok-tail.ensures.exact in
    let fits = CanBeSaved base.binding.items in
    let text = book_text base.chained base.binding.items in
    let whole = record_before log_name fits text 0 c.args.text.now c.in-Some.found.content.now
    c.in-Some.found.rest.now tail.torn base.follower tail.records is first tail.bytes_are in
    record {
      base = base.follower;
      changes = tail.records;
      torn = tail.torn;
      text_is = whole;
      log_is = record {
        chained_is = refl;
        binding_is = refl;
        follower_is = c.in_ok-follower.ensures ∙ tail.replayed.state_is
            ∙ ap (λ s. replay s tail.records) c.in_ok-replaying.ensures;
        records_are = tail.replayed.count_is;
        whole_is = whole_of (IsFitText fits text) c.args.text.now tail.torn _ c.in-Some-3.tail.torn whole
            tail.replayed.torn_is;
      };
    }

pub returns-clause-all : goal.returns-clause-all
returns-clause-all c = λ chained binding base changes torn fit split.
    let is = rw c.in-Some.is at c.in_ok-found.ensures.whole in
    let first = first_record log_name (book_text chained binding) 0 c.args.text.now c.in-Some.found.content.now
    c.in-Some.found.rest.now torn base changes (omega arith) (omega arith) is split in
    let book = rw c.in-Some-2.is at (c.in_ok-base.ensures.all chained binding base fit.0 first.0) in
    let tail = rw c.in-Some-3.is at (c.in_ok-tail.ensures.all changes torn
    (fit_for binding c.in-Some-2.base.binding.items changes book.binding_is fit.1)
    (records_for chained c.in-Some-2.base.chained binding c.in-Some-2.base.binding.items c.in-Some.found.rest.now torn
    changes book.chained_is book.binding_is first.1)) in
    record {
      chained_is = book.chained_is;
      binding_is = book.binding_is;
      follower_is = c.in_ok-follower.ensures ∙ tail.state_is
          ∙ ap (λ s. replay s changes) (c.in_ok-replaying.ensures ∙ book.follower_is);
      records_are = tail.count_is;
      whole_is = whole_of (IsText (book_text chained binding)) c.args.text.now torn _ c.in-Some-3.tail.torn split
          tail.torn_is;
    }
