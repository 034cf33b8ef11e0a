use Rattle.std.proofs.Common.{◌∙◌, ap}
use Rattle.cdc_subscriber.specs.Book.{entries_of}
use Rattle.cdc_book_log.specs.Replay.{put_all}
use Rattle.cdc_sqlite_book.proofs.PlaceLemmas.{put_all-none}
use Rattle.cdc_sqlite_book.proofs.accounts.accounts_of.Goals as goal

pub returns : goal.returns
returns c =
    c.put_accounts.ensures
    ∙ ap (λ es. put_all c.args.book.now (entries_of es))
    (c.reserve.ensures.entries ∙ c.with_hasher-accounts.ensures.empty)
    ∙ put_all-none c.args.book.now c.len.ensures.distinct
