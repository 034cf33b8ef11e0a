use Rattle.cdc_world.proofs.Words.{Close, Done, Ok, refl, sym, ◌∙◌}
use Rattle.cdc_world.proofs.ActorMoves.{at_entry}
use Rattle.cdc_world.proofs.SubscriberMoves.{close_at}
use Rattle.cdc_world.proofs.actors.Actors.close.Goals as goal

pub returns : goal.returns
returns c = record {
  next = at_entry (Close c.args.i) (Ok Done) c.self.view_is
      (close_at _ c.args.i c.len.result c.in_ok-place.place c.self.inside.subscriptions.items c.index_mut.result.now
      refl (c.len.ensures ∙ c.self.inside.subscriptions.ok.0)
      (sym c.place_of.ensures ∙ c.in_ok-place.ensures.ok_part) c.index_mut.ensures.value c.close.new.self
      c.close.ensures);
}
