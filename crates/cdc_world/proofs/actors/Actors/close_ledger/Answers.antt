use Rattle.cdc_world.proofs.Words.{CloseLedger, Done, Ok}
use Rattle.cdc_world.proofs.ActorMoves.{at_entry, close_done}
use Rattle.cdc_world.proofs.actors.Actors.close_ledger.Goals as goal

pub returns : goal.returns
returns c =
    record { next = at_entry CloseLedger (Ok Done) c.self.view_is (close_done _ c.close.new.self c.close.ensures) }
