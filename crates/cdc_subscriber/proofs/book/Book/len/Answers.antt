use Rattle.cdc_subscriber.proofs.PushLemmas.{are_distinct-keys}
use Rattle.cdc_subscriber.proofs.book.Book.len.Goals as goal

pub returns-clause-distinct : goal.returns-clause-distinct
returns-clause-distinct c =
    rw (← c.self.view_is) (are_distinct-keys c.self.inside.accounts.entries c.len.ensures.unique)
