use Rattle.std.proofs.Common.{false, refl, subst, sym}
use Rattle.cdc_sql_book.specs.Following.{IsNew}
use Rattle.cdc_sql_book.proofs.RecordingLemmas.{fresh}
use Rattle.cdc_sql_book.proofs.followers.SqlFollowerSaved.forget_changes.Goals as goal

pub returns-clause-untracked : goal.returns-clause-untracked
returns-clause-untracked c =
    subst IsNew (sym c.begin.ensures) (refl, fresh c.args.self.now.recorded false)
