use Rattle.cdc_sql.proofs.ShownLemmas.{books, each_once, last}
use Rattle.cdc_sql.proofs.laws.rows_are_books.Goals as goal

pub returns-clause-books : goal.returns-clause-books
returns-clause-books c = books

pub returns-clause-distinct : goal.returns-clause-distinct
returns-clause-distinct c = each_once

pub returns-clause-last : goal.returns-clause-last
returns-clause-last c = last
