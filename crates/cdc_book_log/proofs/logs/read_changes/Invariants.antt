use Rattle.std.proofs.Common.{length}
use Rattle.cdc_follow.specs.Saved.{CanBeSaved, book_text}
use Rattle.cdc_frames.proofs.RecordLemmas.{SoFar}
use Rattle.cdc_book_log.specs.Logs.{log_name}
use Rattle.cdc_book_log.specs.Replay.{with_changes}
use Rattle.cdc_book_log.proofs.logs.read_changes.Given as goal

-- the records so far are replayed
abbrev pub invariant-records : goal.invariant-records
invariant-records l =
    SoFar log_name (CanBeSaved l.base.binding.items) (book_text l.base.chained l.base.binding.items) with_changes l.text
    l.initial.replaying l.records l.rest l.replaying

abbrev pub decreases-records : goal.decreases-records
decreases-records l = length l.rest
