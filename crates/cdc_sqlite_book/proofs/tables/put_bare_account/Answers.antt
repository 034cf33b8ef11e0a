use Rattle.std.proofs.Common.{ap, IsTrue}
use Rattle.sqlite.specs.State.{ExecutesInside}
use Rattle.sqlite.specs.Held.{state}
use Rattle.cdc_sqlite_book.proofs.CreateLemmas.{ran}
use Rattle.cdc_sqlite_book.proofs.InsertLemmas.{puts_bare, bare_text, balance_values}
use Rattle.cdc_sqlite_book.proofs.StepLemmas.{keeps}
use Rattle.cdc_sqlite_book.proofs.tables.put_bare_account.Goals as goal

pub returns-clause-schema : goal.returns-clause-schema
returns-clause-schema g c clean entries known has rows =
    let old = state g.S.Store c.args.tx.now.conn.now in
    let new = state g.S.Store c.execute.new.self.conn.now in
    let values = balance_values c.args.entry.now in
    let runs : IsTrue old.in_transaction → ExecutesInside 0 bare_text values old new c.execute.result =
    rw (
      c.params-to_sql.ensures,
      c.params-to_sql-2.ensures,
      c.params-to_sql-3.ensures,
      c.params-to_sql-4.ensures,
      c.params-to_sql-5.ensures,
      c.format.ensures.text,
      c.format-2.ensures.text,
      c.format-3.ensures.text,
      c.format-4.ensures.text,
      c.format-5.ensures.text,
    )
    at (c.execute.ensures.runs clean) in
    ran bare_text values old new c.execute.result _ _ _ c.execute.ensures.ended runs
    (λ h. (puts_bare old new known entries c.args.entry.now c.execute.result has rows h).0)

pub returns-clause-book : goal.returns-clause-book
returns-clause-book g c clean entries known has rows =
    let old = state g.S.Store c.args.tx.now.conn.now in
    let new = state g.S.Store c.execute.new.self.conn.now in
    let values = balance_values c.args.entry.now in
    let runs : IsTrue old.in_transaction → ExecutesInside 0 bare_text values old new c.execute.result =
    rw (
      c.params-to_sql.ensures,
      c.params-to_sql-2.ensures,
      c.params-to_sql-3.ensures,
      c.params-to_sql-4.ensures,
      c.params-to_sql-5.ensures,
      c.format.ensures.text,
      c.format-2.ensures.text,
      c.format-3.ensures.text,
      c.format-4.ensures.text,
      c.format-5.ensures.text,
    )
    at (c.execute.ensures.runs clean) in
    ran bare_text values old new c.execute.result _ _ _ c.execute.ensures.ended runs
    (λ h. (puts_bare old new known entries c.args.entry.now c.execute.result has rows h).1)

pub returns-clause-accounts : goal.returns-clause-accounts
returns-clause-accounts g c clean entries known has rows is =
    let old = state g.S.Store c.args.tx.now.conn.now in
    let new = state g.S.Store c.execute.new.self.conn.now in
    let values = balance_values c.args.entry.now in
    let runs : IsTrue old.in_transaction → ExecutesInside 0 bare_text values old new c.execute.result =
    rw (
      c.params-to_sql.ensures,
      c.params-to_sql-2.ensures,
      c.params-to_sql-3.ensures,
      c.params-to_sql-4.ensures,
      c.params-to_sql-5.ensures,
      c.format.ensures.text,
      c.format-2.ensures.text,
      c.format-3.ensures.text,
      c.format-4.ensures.text,
      c.format-5.ensures.text,
    )
    at (c.execute.ensures.runs clean) in
    ran bare_text values old new c.execute.result _ _ _ c.execute.ensures.ended runs
    (λ h. (puts_bare old new known entries c.args.entry.now c.execute.result has rows h).2 is)

pub returns-clause-kept : goal.returns-clause-kept
returns-clause-kept g c clean =
    keeps _ _ (state g.S.Store c.args.tx.now.conn.now) (state g.S.Store c.execute.new.self.conn.now) c.execute.result
    (λ none. ap (state g.S.Store) (c.execute.ensures.ended none).1) (c.execute.ensures.runs clean)
