use Rattle.cdc_end_laws.proofs.Closing.{books_are, reported_books_are}
use Rattle.cdc_end_laws.proofs.subscribers.books_are_the_ledgers.Goals as goal

pub returns-clause-faithful : goal.returns-clause-faithful
returns-clause-faithful c = books_are

pub returns-clause-reported : goal.returns-clause-reported
returns-clause-reported c = reported_books_are
