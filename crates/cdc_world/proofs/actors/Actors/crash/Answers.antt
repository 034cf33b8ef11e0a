use Rattle.cdc_world.proofs.Words.{Crash, Done, Ok, ap, not, ◌∙◌}
use Rattle.cdc_world.proofs.ConnectorMoves.{crash_done}
use Rattle.cdc_world.proofs.ActorMoves.{at_entry}
use Rattle.cdc_world.proofs.actors.Actors.crash.Goals as goal

pub returns : goal.returns
returns c = record {
  next = at_entry Crash (Ok Done) c.self.view_is (crash_done _ (c.is_none.ensures ∙ ap not c.if-is_none.false));
}
