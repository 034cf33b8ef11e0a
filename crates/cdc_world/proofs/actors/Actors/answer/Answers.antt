use Rattle.cdc_world.proofs.Words.{Answer, Counted, Ok, sym, ◌∙◌}
use Rattle.cdc_world.proofs.ConnectorMoves.{answer_done}
use Rattle.cdc_world.proofs.NumberedElements.{numbered_some}
use Rattle.cdc_world.proofs.ActorMoves.{at_entry}
use Rattle.cdc_world.proofs.actors.Actors.answer.Goals as goal

pub returns : goal.returns
returns c = record {
  next = at_entry (Answer c.args.k) (Ok (Counted c.take_confirm.result)) c.self.view_is
      (answer_done _ c.in-Some.session c.take_confirm.new.session c.args.k c.index.result.now c.take_confirm.result
      c.in-Some.is
      (numbered_some c.self.inside.confirms.items c.args.k c.len.result c.in_ok-place.place c.index.result.now
      (c.len.ensures ∙ c.self.inside.confirms.ok.0) (sym c.place_of.ensures ∙ c.in_ok-place.ensures.ok_part)
      c.index.ensures) c.take_confirm.ensures.answer c.take_confirm.ensures.stands);
}
