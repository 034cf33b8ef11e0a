use Rattle.cdc_world.proofs.Words.{Done, Ok}
use Rattle.cdc_types.specs.declared.steps.Step.TheVariants.{Publish}
use Rattle.cdc_world.proofs.ConnectorMoves.{publish_done}
use Rattle.cdc_world.proofs.ActorMoves.{at_entry}
use Rattle.cdc_world.proofs.actors.Actors.publish.Goals as goal

pub returns : goal.returns
returns c = record {
  next = at_entry Publish (Ok Done) c.self.view_is
      (publish_done _ c.in-Some.session c.publish.new.session c.publish.new.packets.items c.in-Some.is
      c.in_ok-publish.ensures.sends);
}
