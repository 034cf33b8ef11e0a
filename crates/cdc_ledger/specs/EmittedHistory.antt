-- The log and the index that the ledger keeps of its history (for private contracts and the laws).
use Rattle.std.specs.Prelude.{◌≡◌}
use Rattle.cdc_ledger.specs.declared.emitted.Emitted.{Emitted}
use Rattle.cdc_ledger.specs.Events.{events}
use Rattle.cdc_ledger.specs.History.{History}
use Rattle.cdc_ledger.specs.OpenTriples.{index_of}

-- the log has the events of the history, and the index a triple for each pending transfer with a timeout that nothing
-- settled yet
pub record IsEmitted (h : History) (emitted : Emitted) : Type 0 where
  pub logged : emitted.log.events ≡ events h
  pub indexed : emitted.index.triples ≡ index_of h
