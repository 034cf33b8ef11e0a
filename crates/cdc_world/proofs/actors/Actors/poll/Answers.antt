use Rattle.cdc_world.proofs.Words.{Done, Ok}
use Rattle.cdc_types.specs.declared.steps.Step.TheVariants.{Poll}
use Rattle.cdc_world.proofs.ConnectorMoves.{poll_done}
use Rattle.cdc_world.proofs.ActorMoves.{at_entry}
use Rattle.cdc_world.proofs.actors.Actors.poll.Goals as goal

pub returns : goal.returns
returns c = record {
  next = at_entry Poll (Ok Done) c.self.view_is
      (poll_done _ c.in-Some.session c.poll.new.session c.in-Some.is c.in_ok-poll.ensures.offers);
}
