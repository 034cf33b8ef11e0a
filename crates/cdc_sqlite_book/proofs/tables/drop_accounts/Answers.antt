use Rattle.std.proofs.Common.{[], ap}
use Rattle.sqlite.specs.Held.{state}
use Rattle.cdc_sqlite_book.proofs.CreateLemmas.{ran}
use Rattle.cdc_sqlite_book.proofs.DropLemmas.{drops_either, drop_accounts_text}
use Rattle.cdc_sqlite_book.proofs.StepLemmas.{keeps}
use Rattle.cdc_sqlite_book.proofs.tables.drop_accounts.Goals as goal

pub returns-clause-schema : goal.returns-clause-schema
returns-clause-schema g c clean has =
    let old = state g.S.Store c.args.tx.now.conn.now in
    let new = state g.S.Store c.execute.new.self.conn.now in
    ran drop_accounts_text [] old new c.execute.result _ _ _ c.execute.ensures.ended (c.execute.ensures.runs clean)
    (λ h. (drops_either old new c.execute.result has h))

pub returns-clause-kept : goal.returns-clause-kept
returns-clause-kept g c clean =
    keeps drop_accounts_text [] (state g.S.Store c.args.tx.now.conn.now) (state g.S.Store c.execute.new.self.conn.now)
    c.execute.result
    (λ none. ap (state g.S.Store) (c.execute.ensures.ended none).1) (c.execute.ensures.runs clean)
