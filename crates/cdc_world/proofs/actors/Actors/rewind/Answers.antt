use Rattle.cdc_world.proofs.Words.{Done, Ok, Rewind, refl, sym, ◌∙◌}
use Rattle.cdc_world.proofs.ActorMoves.{at_entry}
use Rattle.cdc_world.proofs.SubscriberMoves.{rewind_at}
use Rattle.cdc_world.proofs.actors.Actors.rewind.Goals as goal

pub returns : goal.returns
returns c = record {
  next = at_entry (Rewind c.args.i) (Ok Done) c.self.view_is
      (rewind_at _ c.args.i c.len.result c.in_ok-place.place c.self.inside.subscriptions.items c.rewind.new.self refl
      (c.len.ensures ∙ c.self.inside.subscriptions.ok.0) (sym c.place_of.ensures ∙ c.in_ok-place.ensures.ok_part)
      c.rewind.ensures.state);
}
