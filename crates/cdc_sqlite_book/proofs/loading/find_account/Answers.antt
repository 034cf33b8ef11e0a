use Rattle.std.proofs.Common.{None}
use Rattle.sqlite.specs.Held.{state}
use Rattle.sqlite.proofs.StateLemmas.{survives_weaker}
use Rattle.cdc_sqlite_book.specs.Loading.{Finds}
use Rattle.cdc_sqlite_book.proofs.FindLemmas.{account_commits_nothing, account_found, account_keeps, account_missing, none_found, none_keeps}
use Rattle.cdc_sqlite_book.proofs.loading.find_account.Goals as goal

pub returns-in-Ok-clause-found : goal.returns-in-Ok-clause-found
returns-in-Ok-clause-found g c clean has =
    account_found c.args.detailed c.args.place (state g.S.Store c.args.conn.now) (state g.S.Store c.query_row.new.self) has
    _ (rw (c.account_statement.ensures, c.params-to_sql.ensures) at (c.in-Ok.ensures.row clean))

pub returns-in-Ok-clause-same : goal.returns-in-Ok-clause-same
returns-in-Ok-clause-same g c clean has =
    account_keeps c.args.detailed c.args.place (state g.S.Store c.args.conn.now) (state g.S.Store c.query_row.new.self) has
    _ (rw (c.account_statement.ensures, c.params-to_sql.ensures) at (c.in-Ok.ensures.row clean))

pub returns-in-Ok-clause-survives : goal.returns-in-Ok-clause-survives
returns-in-Ok-clause-survives g c =
    let old = state g.S.Store c.args.conn.now in
    let new = state g.S.Store c.query_row.new.self in
    survives_weaker old new _ _ (λ _ db made has. account_commits_nothing c.args.detailed c.args.place old new has db made)
    (rw (c.account_statement.ensures, c.params-to_sql.ensures) at c.query_row.ensures.survives)

pub returns-in-Err-clause-found : goal.returns-in-Err-clause-found
returns-in-Err-clause-found g c clean has =
    let old = state g.S.Store c.args.conn.now in
    let new = state g.S.Store c.query_row.new.self in
    none_found c.in-Err.error None c.no_row.result
    (Finds c.args.detailed c.args.place (old.now.trees 1)) old new c.no_row.ensures
    (account_missing c.args.detailed c.args.place old new has _ (rw (c.account_statement.ensures, c.params-to_sql.ensures) at (c.in-Err.ensures.row clean)))

pub returns-in-Err-clause-same : goal.returns-in-Err-clause-same
returns-in-Err-clause-same g c clean has =
    let old = state g.S.Store c.args.conn.now in
    let new = state g.S.Store c.query_row.new.self in
    none_keeps c.in-Err.error None c.no_row.result _ old new
    c.no_row.ensures
    (account_missing c.args.detailed c.args.place old new has _ (rw (c.account_statement.ensures, c.params-to_sql.ensures) at (c.in-Err.ensures.row clean)))

pub returns-in-Err-clause-survives : goal.returns-in-Err-clause-survives
returns-in-Err-clause-survives g c =
    let old = state g.S.Store c.args.conn.now in
    let new = state g.S.Store c.query_row.new.self in
    survives_weaker old new _ _ (λ _ db made has. account_commits_nothing c.args.detailed c.args.place old new has db made)
    (rw (c.account_statement.ensures, c.params-to_sql.ensures) at c.query_row.ensures.survives)
