use Rattle.std.proofs.Common.{◌∷◌, [], ◌∙◌, ap, arith}
use Rattle.cdc_book_log.specs.Replay.{put_all}
use Rattle.cdc_sqlite_book.specs.Tables.{book_row, renewed, rows_from}
use Rattle.cdc_sqlite_book.proofs.tables.refill.Goals as goal

pub returns-clause-holds : goal.returns-clause-holds
returns-clause-holds g c clean held kept holds same =
    let rows = c.in_ok-replace_accounts.ensures.holds (omega (arith, c.replace_text.ensures.survives.clean)) held kept
    holds same in
    let all = c.in_ok-replace_text.ensures.holds clean held _ _ rows in
    record {
      schema = all.schema;
      book = all.book ∙ ap (λ n. book_row c.args.text.now n c.applied_count.result ∷ []) c.last.ensures
          ∙ ap (λ n. book_row c.args.text.now c.args.change.now.last n ∷ []) c.applied_count.ensures;
      accounts = all.accounts
          ∙ ap (λ b. rows_from (renewed b c.args.shown.now.entries c.args.details.now.entries) 1 (put_all b kept.book))
          c.book.ensures;
    }
