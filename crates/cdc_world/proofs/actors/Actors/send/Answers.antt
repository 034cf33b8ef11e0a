use Rattle.cdc_world.proofs.Words.{Done, Ok, Send, refl, sym, ◌∙◌}
use Rattle.cdc_world.proofs.ActorMoves.{at_entry, at_entry_err}
use Rattle.cdc_world.proofs.SubscriberMoves.{send_at, send_at_refused}
use Rattle.cdc_world.proofs.actors.Actors.send.Goals as goal

pub returns-in_err-deliver : goal.returns-in_err-deliver
returns-in_err-deliver c = record {
  next = at_entry_err (Send c.args.i) c.from_residual-in_err-deliver.result c.in_err-deliver.field-0.0
      c.from_residual-in_err-deliver.ensures.1 c.self.view_is
      (send_at_refused _ c.args.i c.len.result c.in_ok-place.place c.self.inside.subscriptions.items
      c.index_mut.result.now refl (c.len.ensures ∙ c.self.inside.subscriptions.ok.0)
      (sym c.place_of.ensures ∙ c.in_ok-place.ensures.ok_part) c.index_mut.ensures.value c.deliver.new.subscription
      c.deliver.new.broker c.in_err-deliver.field-0.0 c.in_err-deliver.ensures);
}

pub returns : goal.returns
returns c = record {
  next = at_entry (Send c.args.i) (Ok Done) c.self.view_is
      (send_at _ c.args.i c.len.result c.in_ok-place.place c.self.inside.subscriptions.items c.index_mut.result.now
      refl (c.len.ensures ∙ c.self.inside.subscriptions.ok.0)
      (sym c.place_of.ensures ∙ c.in_ok-place.ensures.ok_part) c.index_mut.ensures.value c.deliver.new.subscription
      c.deliver.new.broker c.in_ok-deliver.ensures);
}
