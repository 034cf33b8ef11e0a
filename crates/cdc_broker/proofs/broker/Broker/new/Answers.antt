use Rattle.std.proofs.lemmas.Grind.{common_steps}
use Rattle.std.proofs.Common.{List, [], map, sym, subst, arith}
use Rattle.std.specs.Prelude.{All}
use Rattle.cdc_message.specs.declared.items.Item.{Item}
use Rattle.cdc_broker.specs.Kept.{queue_state}
use Rattle.cdc_broker.proofs.Accepted.{Holds}
use Rattle.cdc_broker.proofs.Made.{empty_push, Holds-empty}
use Rattle.cdc_broker.proofs.broker.Broker.new.Goals as goal

pub loop-binding-preserved : goal.loop-binding-preserved
loop-binding-preserved c =
    let made = c.loop-binding.invariant in
    record {
      parts = grind (arith, common_steps, made.parts);
      empty = empty_push c.loop-binding.queues.items _ c.loop-binding.yielded c.new.result c.in-Some.binding made.empty
          c.push_reserved.ensures.items c.new.ensures.state;
      in_order = grind (arith, common_steps, made.in_order);
      room = grind (arith, common_steps, made.room);
      count = grind (arith, common_steps, made.count);
    }

pub returns-clause-accepted : goal.returns-clause-accepted
returns-clause-accepted c =
    let queues = c.loop-binding.queues.items in
    subst (λ (items : List Item). All (Holds []) (map (queue_state items) queues)) (sym c.new-2.ensures.items)
    (Holds-empty c.loop-binding.yielded (map (queue_state []) queues) c.loop-binding.invariant.empty)
