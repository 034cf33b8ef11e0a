use Rattle.std.proofs.Common.{IsTrue}
use Rattle.sqlite.specs.State.{ExecutesInside}
use Rattle.sqlite.specs.Held.{state}
use Rattle.cdc_sqlite_book.proofs.CreateLemmas.{ran}
use Rattle.cdc_sqlite_book.proofs.UpsertLemmas.{placed_balances, rebare_text, replaces_bare}
use Rattle.cdc_sqlite_book.proofs.tables.replace_bare_account.Goals as goal

pub returns-clause-holds : goal.returns-clause-holds
returns-clause-holds g c clean held kept known holds distinct is =
    let old = state g.S.Store c.args.tx.now.conn.now in
    let new = state g.S.Store c.execute.new.self.conn.now in
    let values = placed_balances c.args.place c.args.entry.now in
    let runs : IsTrue old.in_transaction → ExecutesInside 0 rebare_text values old new c.execute.result =
    rw (
      c.params-to_sql.ensures,
      c.params-to_sql-2.ensures,
      c.params-to_sql-3.ensures,
      c.params-to_sql-4.ensures,
      c.params-to_sql-5.ensures,
      c.params-to_sql-6.ensures,
      c.format.ensures.text,
      c.format-2.ensures.text,
      c.format-3.ensures.text,
      c.format-4.ensures.text,
      c.format-5.ensures.text,
    )
    at (c.execute.ensures.runs clean) in
    ran rebare_text values old new c.execute.result _ _ _ c.execute.ensures.ended runs
    (λ h. replaces_bare old new held kept known c.args.place c.args.entry.now c.execute.result holds distinct
    is h)
