use Rattle.cdc_ledger.proofs.Words.{◌≤◌, Contents, ap, max_timestamp, subst}
use Rattle.cdc_ledger.proofs.tables.Tables.last.Goals as goal

pub returns : goal.returns
returns c = record {
  last = ap (λ (v : Contents). v.history.last) c.self.view_is;
  within = subst (λ (v : Contents). v.history.last ≤ max_timestamp) c.self.view_is c.self.invariant.sound.within;
}
