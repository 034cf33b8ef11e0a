use Rattle.std.proofs.Common.{◌∙◌}
use Rattle.cdc_world.proofs.ActorMoves.{new_counts}
use Rattle.cdc_world.proofs.actors.Actors.new.Goals as goal

pub invariant_of-result : goal.invariant_of-result
invariant_of-result c = (
  c.requires,
  new_counts c.args.bindings.items c.len.result c.in_ok-subscriptions.subscriptions.items c.in_ok-new.field-0
      (c.len.ensures ∙ c.args.bindings.ok.0) c.in_ok-subscriptions.ensures c.in_ok-new.ensures.state,
)
