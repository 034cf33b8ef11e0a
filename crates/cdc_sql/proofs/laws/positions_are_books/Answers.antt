use Rattle.cdc_sql.proofs.PositionLemmas.{positions}
use Rattle.cdc_sql.proofs.QuoteLemmas.{quoted}
use Rattle.cdc_sql.proofs.laws.positions_are_books.Goals as goal

pub returns-clause-books : goal.returns-clause-books
returns-clause-books c = positions

pub returns-clause-quoted : goal.returns-clause-quoted
returns-clause-quoted c = quoted
