use Rattle.std.proofs.Common.{false}
use Rattle.sqlite.specs.Held.{state}
use Rattle.sqlite.proofs.StateLemmas.{survives_weaker}
use Rattle.cdc_sqlite_book.specs.Loading.{HasStray}
use Rattle.cdc_sqlite_book.proofs.FindLemmas.{stray_commits_nothing, stray_found, stray_keeps, stray_missing, none_found, none_keeps}
use Rattle.cdc_sqlite_book.proofs.loading.has_stray.Goals as goal

pub returns-in_default-clause-found : goal.returns-in_default-clause-found
returns-in_default-clause-found g c clean has =
    stray_found c.args.detailed c.args.count (state g.S.Store c.args.conn.now) (state g.S.Store c.query_row.new.self) has
    _ (rw c.params-to_sql.ensures at (c.in_default.ensures.row clean))

pub returns-in_default-clause-same : goal.returns-in_default-clause-same
returns-in_default-clause-same g c clean has =
    stray_keeps c.args.detailed c.args.count (state g.S.Store c.args.conn.now) (state g.S.Store c.query_row.new.self) has
    _ (rw c.params-to_sql.ensures at (c.in_default.ensures.row clean))

pub returns-in_default-clause-survives : goal.returns-in_default-clause-survives
returns-in_default-clause-survives g c =
    let old = state g.S.Store c.args.conn.now in
    let new = state g.S.Store c.query_row.new.self in
    survives_weaker old new _ _ (λ _ db made has. stray_commits_nothing c.args.detailed c.args.count old new has db made)
    (rw c.params-to_sql.ensures at c.query_row.ensures.survives)

pub returns-clause-found : goal.returns-clause-found
returns-clause-found g c clean has =
    let old = state g.S.Store c.args.conn.now in
    let new = state g.S.Store c.query_row.new.self in
    none_found c.in-Err.error false c.no_stray.result
    (HasStray c.args.count (old.now.trees 1)) old new c.no_stray.ensures
    (stray_missing c.args.detailed c.args.count old new has _ (rw c.params-to_sql.ensures at (c.in-Err.ensures.row clean)))

pub returns-clause-same : goal.returns-clause-same
returns-clause-same g c clean has =
    let old = state g.S.Store c.args.conn.now in
    let new = state g.S.Store c.query_row.new.self in
    none_keeps c.in-Err.error false c.no_stray.result _ old new
    c.no_stray.ensures
    (stray_missing c.args.detailed c.args.count old new has _ (rw c.params-to_sql.ensures at (c.in-Err.ensures.row clean)))

pub returns-clause-survives : goal.returns-clause-survives
returns-clause-survives g c =
    let old = state g.S.Store c.args.conn.now in
    let new = state g.S.Store c.query_row.new.self in
    survives_weaker old new _ _ (λ _ db made has. stray_commits_nothing c.args.detailed c.args.count old new has db made)
    (rw c.params-to_sql.ensures at c.query_row.ensures.survives)
