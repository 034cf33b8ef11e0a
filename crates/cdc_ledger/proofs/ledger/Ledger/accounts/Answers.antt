use Rattle.cdc_ledger.proofs.Words.{IsBounded, subst}
use Rattle.cdc_ledger.proofs.ledger.Ledger.accounts.Goals as goal

pub returns-clause-bounded : goal.returns-clause-bounded
returns-clause-bounded c = subst IsBounded c.self.view_is c.accounts.ensures.sound.bounded
