use Rattle.cdc_laws.proofs.Books.{book_of-prefix, holds-balances}
use Rattle.cdc_laws.proofs.LateBooks.{holds-accounts}
use Rattle.cdc_laws.proofs.subscribers.book_laws.Goals as goal

pub returns-clause-holds : goal.returns-clause-holds
returns-clause-holds c = λ h es is front. holds-balances h es is front

pub returns-clause-has : goal.returns-clause-has
returns-clause-has c = λ h es is front. book_of-prefix h es is front

pub returns-clause-late : goal.returns-clause-late
returns-clause-late c = λ h start es is front. holds-accounts h start es is front
