use Rattle.cdc_ledger.proofs.Words.{Contents, ap, history_of, true}
use Rattle.cdc_ledger.proofs.SoundLaws.{IsSound-closed}
use Rattle.cdc_ledger.proofs.tables.Tables.close.Goals as goal

pub invariant_of-self : goal.invariant_of-self
invariant_of-self c = record {
  balanced = c.self.invariant.balanced;
  accounts_placed = c.self.invariant.accounts_placed;
  ended = c.self.invariant.ended;
  transfers_placed = c.self.invariant.transfers_placed;
  sound = IsSound-closed (history_of c.self.inside) c.self.invariant.sound;
}

pub returns : goal.returns
returns c = ap (λ (v : Contents). record v.history { closed = true }) c.self.view_is
