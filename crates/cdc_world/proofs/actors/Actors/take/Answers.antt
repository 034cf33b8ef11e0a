use Rattle.cdc_world.proofs.Words.{Ok, Take, Took, refl, sym, ◌∙◌}
use Rattle.cdc_world.proofs.ActorMoves.{at_entry, at_entry_err}
use Rattle.cdc_world.proofs.SubscriberMoves.{take_at, take_at_refused}
use Rattle.cdc_world.proofs.actors.Actors.take.Goals as goal

pub returns-in_err-take : goal.returns-in_err-take
returns-in_err-take c = record {
  next = at_entry_err (Take c.args.i) c.from_residual-in_err-take.result c.in_err-take.field-0.0
      c.from_residual-in_err-take.ensures.1 c.self.view_is
      (take_at_refused _ c.args.i c.len.result c.in_ok-place.place c.self.inside.subscriptions.items
      c.index_mut-subscription.result.now refl (c.len.ensures ∙ c.self.inside.subscriptions.ok.0)
      (sym c.place_of.ensures ∙ c.in_ok-place.ensures.ok_part) c.index_mut-subscription.ensures.value c.take.new.self
      c.in_err-take.field-0.0 c.in_err-take.ensures);
}

pub returns : goal.returns
returns c = record {
  next = at_entry (Take c.args.i) (Ok (Took c.in_ok-take.field-0)) c.self.view_is
      (take_at _ c.args.i c.len.result c.in_ok-place.place c.self.inside.subscriptions.items
      c.index_mut-subscription.result.now refl (c.len.ensures ∙ c.self.inside.subscriptions.ok.0)
      (sym c.place_of.ensures ∙ c.in_ok-place.ensures.ok_part) c.index_mut-subscription.ensures.value c.take.new.self
      c.in_ok-take.field-0 c.in_ok-take.ensures);
}
