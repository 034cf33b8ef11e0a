use Rattle.std.proofs.Common.{[], ap}
use Rattle.sqlite.specs.Held.{state}
use Rattle.cdc_sqlite_book.proofs.CreateLemmas.{ran}
use Rattle.cdc_sqlite_book.proofs.CreateLemmas.{makes_accounts, accounts_text}
use Rattle.cdc_sqlite_book.proofs.StepLemmas.{keeps}
use Rattle.cdc_sqlite_book.proofs.tables.make_accounts.Goals as goal

pub returns-clause-schema : goal.returns-clause-schema
returns-clause-schema g c clean has =
    let old = state g.S.Store c.args.tx.now.conn.now in
    let new = state g.S.Store c.execute.new.self.conn.now in
    ran accounts_text [] old new c.execute.result _ _ _ c.execute.ensures.ended (c.execute.ensures.runs clean)
    (λ h. (makes_accounts old new c.execute.result has h).0)

pub returns-clause-empty : goal.returns-clause-empty
returns-clause-empty g c clean has =
    let old = state g.S.Store c.args.tx.now.conn.now in
    let new = state g.S.Store c.execute.new.self.conn.now in
    ran accounts_text [] old new c.execute.result _ _ _ c.execute.ensures.ended (c.execute.ensures.runs clean)
    (λ h. (makes_accounts old new c.execute.result has h).1)

pub returns-clause-book : goal.returns-clause-book
returns-clause-book g c clean has =
    let old = state g.S.Store c.args.tx.now.conn.now in
    let new = state g.S.Store c.execute.new.self.conn.now in
    ran accounts_text [] old new c.execute.result _ _ _ c.execute.ensures.ended (c.execute.ensures.runs clean)
    (λ h. (makes_accounts old new c.execute.result has h).2)

pub returns-clause-kept : goal.returns-clause-kept
returns-clause-kept g c clean =
    keeps accounts_text [] (state g.S.Store c.args.tx.now.conn.now) (state g.S.Store c.execute.new.self.conn.now)
    c.execute.result
    (λ none. ap (state g.S.Store) (c.execute.ensures.ended none).1) (c.execute.ensures.runs clean)
