use Rattle.cdc_world.proofs.Words.{Break, Done, Ok, refl, sym, ◌∙◌}
use Rattle.cdc_world.proofs.ActorMoves.{at_entry}
use Rattle.cdc_world.proofs.SubscriberMoves.{break_at}
use Rattle.cdc_world.proofs.actors.Actors.break_off.Goals as goal

pub returns : goal.returns
returns c = record {
  next = at_entry (Break c.args.i) (Ok Done) c.self.view_is
      (break_at _ c.args.i c.len.result c.in_ok-place.place c.self.inside.subscriptions.items c.index_mut.result.now
      refl (c.len.ensures ∙ c.self.inside.subscriptions.ok.0)
      (sym c.place_of.ensures ∙ c.in_ok-place.ensures.ok_part) c.index_mut.ensures.value c.lose_flight.new.self
      c.rewind.new.self c.rewind.ensures.state c.lose_flight.ensures);
}
