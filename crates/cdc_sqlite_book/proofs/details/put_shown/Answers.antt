use Rattle.std.proofs.Common.{sym}
use Rattle.std.proofs.lemmas.Result.{IfOk-at_ok}
use Rattle.cdc_sqlite_book.proofs.DetailLemmas.{none_put, some_put}
use Rattle.cdc_sqlite_book.proofs.details.put_shown.Goals as goal

pub returns-in-Some-clause-details : goal.returns-in-Some-clause-details
returns-in-Some-clause-details c =
    some_put c.args.shown.now.entries c.args.known.now.entries c.insert.new.self.entries c.args.id c.in-Some.details
    (sym c.in-Some.ensures) (IfOk-at_ok _ c.unwrap-before.ensures c.insert.ensures.entries)

pub returns-in-None-clause-details : goal.returns-in-None-clause-details
returns-in-None-clause-details c =
    none_put c.args.shown.now.entries c.args.known.now.entries c.args.id (sym c.in-None.ensures)
