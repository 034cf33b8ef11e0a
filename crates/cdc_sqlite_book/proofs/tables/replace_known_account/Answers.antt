use Rattle.std.proofs.Common.{Some, ap, IsTrue}
use Rattle.sqlite.specs.State.{ExecutesInside}
use Rattle.sqlite.specs.Held.{state}
use Rattle.cdc_sqlite_book.proofs.CreateLemmas.{ran}
use Rattle.cdc_sqlite_book.proofs.UpsertLemmas.{placed, reknown_text, replaces_known}
use Rattle.cdc_sqlite_book.proofs.StepLemmas.{keeps}
use Rattle.cdc_sqlite_book.proofs.tables.replace_known_account.Goals as goal

pub returns-clause-holds : goal.returns-clause-holds
returns-clause-holds g c clean held kept known holds distinct is =
    let old = state g.S.Store c.args.tx.now.conn.now in
    let new = state g.S.Store c.execute.new.self.conn.now in
    let values = placed c.args.place (Some c.args.shown.now) c.args.entry.now in
    let runs : IsTrue old.in_transaction → ExecutesInside 0 reknown_text values old new c.execute.result =
    rw (
      c.params-to_sql.ensures,
      c.params-to_sql-2.ensures,
      c.params-to_sql-3.ensures,
      c.params-to_sql-4.ensures,
      c.params-to_sql-5.ensures,
      c.params-to_sql-6.ensures,
      c.params-to_sql-7.ensures,
      c.params-to_sql-8.ensures,
      c.params-to_sql-9.ensures,
      c.params-to_sql-10.ensures,
      c.params-to_sql-11.ensures,
      c.params-to_sql-12.ensures,
      c.params-to_sql-13.ensures,
      c.format.ensures.text,
      c.format-2.ensures.text,
      c.format-3.ensures.text,
      c.format-4.ensures.text,
      c.format-5.ensures.text,
      c.format-6.ensures.text,
      c.format-7.ensures.text,
      c.format-8.ensures.text,
      c.from.ensures,
      c.from-2.ensures,
    )
    at (c.execute.ensures.runs clean) in
    ran reknown_text values old new c.execute.result _ _ _ c.execute.ensures.ended runs
    (λ h. replaces_known old new held kept known c.args.place c.args.entry.now c.args.shown.now c.execute.result holds distinct
    is h)

pub returns-clause-kept : goal.returns-clause-kept
returns-clause-kept g c clean =
    keeps _ _ (state g.S.Store c.args.tx.now.conn.now) (state g.S.Store c.execute.new.self.conn.now) c.execute.result
    (λ none. ap (state g.S.Store) (c.execute.ensures.ended none).1) (c.execute.ensures.runs clean)
