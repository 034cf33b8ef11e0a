use Rattle.sqlite.specs.Held.{state}
use Rattle.sqlite.proofs.StateLemmas.{survives_weaker}
use Rattle.cdc_sqlite_book.proofs.SelectLemmas.{finds, changes_nothing, commits_nothing}
use Rattle.cdc_sqlite_book.proofs.tables.find_text.Goals as goal

pub returns-clause-found : goal.returns-clause-found
returns-clause-found g c clean text holds =
    finds (state g.S.Store c.args.conn.now) (state g.S.Store c.query_row.new.self) text holds.last holds.applied
    c.query_row.result holds.schema holds.book
    (c.query_row.ensures.row clean)

pub returns-clause-same : goal.returns-clause-same
returns-clause-same g c clean has =
    changes_nothing (state g.S.Store c.args.conn.now) (state g.S.Store c.query_row.new.self) c.query_row.result has
    (c.query_row.ensures.row clean)

pub returns-clause-survives : goal.returns-clause-survives
returns-clause-survives g c =
    let old = state g.S.Store c.args.conn.now in
    survives_weaker old (state g.S.Store c.query_row.new.self) _ _ (λ _ db made. commits_nothing old db made)
    c.query_row.ensures.survives
