use Rattle.std.proofs.Common.{subst, sym, true}
use Rattle.cdc_sql_book.specs.Recording.{IsRecordedSince}
use Rattle.cdc_sql_book.proofs.RecordingLemmas.{fresh}
use Rattle.cdc_sql_book.proofs.followers.SqlFollowerSaved.begin_changes.Goals as goal

pub returns-clause-since : goal.returns-clause-since
returns-clause-since c =
    subst (IsRecordedSince c.args.self.now.recorded.follower) (sym c.begin.ensures)
    (fresh c.args.self.now.recorded true)
