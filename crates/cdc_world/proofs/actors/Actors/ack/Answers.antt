use Rattle.cdc_world.proofs.Words.{Ack, Counted, Ok, refl, sym, ◌∙◌}
use Rattle.cdc_world.proofs.NumberedElements.{numbered_none, numbered_some}
use Rattle.cdc_world.proofs.ActorMoves.{at_entry, at_entry_unchanged}
use Rattle.cdc_world.proofs.SubscriberMoves.{ack_at, ack_at_none}
use Rattle.cdc_world.proofs.actors.Actors.ack.Goals as goal

pub returns-in_err-ack : goal.returns-in_err-ack
returns-in_err-ack c = record {
  next = at_entry_unchanged (Ack c.args.i c.args.k) c.from_residual-in_err-ack.result c.in_err-ack.field-0.0
      c.from_residual-in_err-ack.ensures.1 c.self.view_is
      (ack_at_none _ c.args.i c.len.result c.in_ok-place.place c.self.inside.subscriptions.items c.index.result.now
      refl (c.len.ensures ∙ c.self.inside.subscriptions.ok.0)
      (sym c.place_of.ensures ∙ c.in_ok-place.ensures.ok_part) c.index.ensures c.args.k
      c.in_err-ack.field-0.0 c.place_of-2.result (sym c.ok_or-2.ensures.value ∙ c.in_err-ack.was)
      (λ none. numbered_none c.index.result.now.acks.items c.args.k c.len-2.result
      (c.len-2.ensures ∙ c.index.result.now.acks.ok.0) (sym c.place_of-2.ensures ∙ none)));
}

pub returns : goal.returns
returns c = record {
  next = at_entry (Ack c.args.i c.args.k) (Ok (Counted c.ack.result)) c.self.view_is
      (ack_at _ c.args.i c.len.result c.in_ok-place.place c.self.inside.subscriptions.items c.index.result.now
      refl (c.len.ensures ∙ c.self.inside.subscriptions.ok.0)
      (sym c.place_of.ensures ∙ c.in_ok-place.ensures.ok_part) c.index.ensures c.args.k
      c.index-2.result.now c.ack.new.self c.ack.result
      (numbered_some c.index.result.now.acks.items c.args.k c.len-2.result c.in_ok-ack.ack c.index-2.result.now
      (c.len-2.ensures ∙ c.index.result.now.acks.ok.0) (sym c.place_of-2.ensures ∙ c.in_ok-ack.ensures.ok_part)
      c.index-2.ensures) c.ack.ensures.answer c.ack.ensures.state);
}
