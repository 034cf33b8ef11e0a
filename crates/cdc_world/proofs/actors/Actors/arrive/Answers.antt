use Rattle.cdc_world.proofs.Words.{Arrive, Arrived, Ok, OutOfMemory, sym, ◌∙◌}
use Rattle.cdc_world.proofs.BrokerMoves.{arrive_done, arrive_refused}
use Rattle.cdc_world.proofs.NumberedElements.{numbered_some}
use Rattle.cdc_world.proofs.ActorMoves.{at_entry, at_entry_err}
use Rattle.cdc_world.proofs.actors.Actors.arrive.Goals as goal

pub returns-in_err-taken : goal.returns-in_err-taken
returns-in_err-taken c = record {
  next = at_entry_err (Arrive c.args.k) c.from_residual-in_err-taken.result OutOfMemory
      c.from_residual-in_err-taken.ensures.1 c.self.view_is
      (arrive_refused _ c.index-packet.result.now c.args.k c.in_err-taken.field-0.0 c.take_in.new.broker
      c.take_in.new.confirms.items
      (numbered_some c.self.inside.packets.items c.args.k c.len.result c.in_ok-place.place c.index-packet.result.now
      (c.len.ensures ∙ c.self.inside.packets.ok.0) (sym c.place_of.ensures ∙ c.in_ok-place.ensures.ok_part)
      c.index-packet.ensures) c.in_err-taken.ensures);
}

pub returns : goal.returns
returns c = record {
  next = at_entry (Arrive c.args.k) (Ok (Arrived c.in_ok-taken.taken)) c.self.view_is
      (arrive_done _ c.index-packet.result.now c.args.k c.in_ok-taken.taken c.take_in.new.broker
      c.take_in.new.confirms.items
      (numbered_some c.self.inside.packets.items c.args.k c.len.result c.in_ok-place.place c.index-packet.result.now
      (c.len.ensures ∙ c.self.inside.packets.ok.0) (sym c.place_of.ensures ∙ c.in_ok-place.ensures.ok_part)
      c.index-packet.ensures) c.in_ok-taken.ensures);
}
