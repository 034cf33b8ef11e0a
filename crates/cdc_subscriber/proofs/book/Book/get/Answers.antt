use Rattle.std.proofs.Common.{◌∙◌, ap}
use Rattle.cdc_subscriber.specs.Book.{balances_in}
use Rattle.cdc_subscriber.proofs.BookFinds.{balances_in-book_of}
use Rattle.cdc_subscriber.proofs.BookLemmas.{lookup-balances_in}
use Rattle.cdc_subscriber.proofs.book.Book.get.Goals as goal

pub returns-clause-found : goal.returns-clause-found
returns-clause-found c =
    rw (c.copied.ensures, c.get.ensures.value, ← c.self.view_is) (lookup-balances_in _ c.args.id)

pub returns-clause-last : goal.returns-clause-last
returns-clause-last c events is =
    returns-clause-found c ∙ ap (λ book. balances_in book c.args.id) is ∙ balances_in-book_of events c.args.id
