use Rattle.std.proofs.Common.{IsTrue}
use Rattle.sqlite.specs.State.{ExecutesInside}
use Rattle.sqlite.specs.Held.{state}
use Rattle.cdc_sqlite_book.proofs.CreateLemmas.{ran}
use Rattle.cdc_sqlite_book.proofs.InsertLemmas.{progress_of}
use Rattle.cdc_sqlite_book.proofs.UpsertLemmas.{replaces_text, retext_text}
use Rattle.cdc_sqlite_book.proofs.tables.replace_text.Goals as goal

pub returns-clause-holds : goal.returns-clause-holds
returns-clause-holds g c clean held kept known holds =
    let old = state g.S.Store c.args.tx.now.conn.now in
    let new = state g.S.Store c.execute.new.self.conn.now in
    let values = progress_of c.args.text.now c.args.last c.args.applied in
    let runs : IsTrue old.in_transaction → ExecutesInside 0 retext_text values old new c.execute.result =
    rw (
      c.params-to_sql.ensures,
      c.params-to_sql-2.ensures,
      c.params-to_sql-3.ensures,
      c.format.ensures.text,
      c.format-2.ensures.text,
    )
    at (c.execute.ensures.runs clean) in
    ran retext_text values old new c.execute.result _ _ _ c.execute.ensures.ended runs
    (λ h. replaces_text old new held c.args.text.now kept known c.args.last c.args.applied c.execute.result holds h)
