use Rattle.cdc_sql_book.proofs.PrintingLemmas.{fault_part}
use Rattle.cdc_sql_book.proofs.books.SqlBook.print.Goals as goal

pub returns-in-Err-clause-part : goal.returns-in-Err-clause-part
returns-in-Err-clause-part g c =
    fault_part c.in-Err._fault (g.W.Write.contents c.args.self.now.writer) (g.W.Write.contents c.write_part.new.writer)
    c.args.text.now c.in-Err.ensures.printed c.in-Err.ensures.fails
