use Rattle.std.proofs.Common.{◌∙◌, ap}
use Rattle.std.proofs.lemmas.Result.{IfOk-at_ok}
use Rattle.cdc_subscriber.specs.Book.{entries_of}
use Rattle.cdc_subscriber.proofs.BookLemmas.{entries_of-insert_entry}
use Rattle.cdc_checked_follow.proofs.follower.put_balances.Goals as goal

pub returns-clause-entries : goal.returns-clause-entries
returns-clause-entries c =
    ap entries_of (IfOk-at_ok _ c.unwrap.ensures c.insert.ensures.entries)
    ∙ entries_of-insert_entry c.args.book.now.entries c.args.entry
