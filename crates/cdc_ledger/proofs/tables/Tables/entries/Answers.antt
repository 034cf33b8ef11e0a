use Rattle.cdc_ledger.proofs.Words.{Contents, IsSound, subst}
use Rattle.cdc_ledger.proofs.tables.Tables.entries.Goals as goal

pub returns-clause-sound : goal.returns-clause-sound
returns-clause-sound c = subst (λ (v : Contents). IsSound v.history) c.self.view_is c.self.invariant.sound
