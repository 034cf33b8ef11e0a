use Rattle.cdc_world.proofs.Words.{Ok, Submit, Submitted}
use Rattle.cdc_world.proofs.ActorMoves.{at_entry, submit_done}
use Rattle.cdc_world.proofs.actors.Actors.submit.Goals as goal

pub returns : goal.returns
returns c = record {
  next = at_entry (Submit c.args.batch.now) (Ok (Submitted c.in_ok-submit.field-0)) c.self.view_is
      (submit_done _ c.args.batch.now c.submit.new.self c.in_ok-submit.field-0 c.in_ok-submit.ensures);
}
