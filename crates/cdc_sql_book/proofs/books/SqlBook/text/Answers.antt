use Rattle.cdc_sql_book.proofs.books.SqlBook.text.Goals as goal

pub returns-clause-text : goal.returns-clause-text
returns-clause-text g c = rw c.as_slice-binding.ensures.value at c.in_ok-text.ensures
