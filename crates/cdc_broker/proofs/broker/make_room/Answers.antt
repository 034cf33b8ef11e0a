use Rattle.std.proofs.Common.{◌≤◌, List, max, subst, sym, arith}
use Rattle.std.specs.Prelude.{All}
use Rattle.cdc_message.specs.declared.items.Item.{Item}
use Rattle.cdc_broker.specs.Kept.{IsInOrder}
use Rattle.cdc_broker.proofs.States.{acknowledged_if_gone, done_with_within, gone_before_done, left_after}
use Rattle.cdc_broker.proofs.broker.make_room.Goals as goal

pub has_half_before-requires-clause-left : goal.has_half_before-requires-clause-left
has_half_before-requires-clause-left c =
    let gone = c.args.accepted.now.gone in
    let within : gone ≤ c.len.result = omega (arith, c.len.ensures.is, c.len.ensures.within) in
    subst (λ x. gone ≤ x) (sym c.done_with-place.ensures)
    (gone_before_done gone c.len.result c.args.queues.now within c.requires.left)

pub has_half_before-requires-clause-inside : goal.has_half_before-requires-clause-inside
has_half_before-requires-clause-inside c =
    let within = done_with_within c.len.result c.args.queues.now in
    omega (arith, c.done_with-place.ensures, c.len.ensures.is)

pub let_go-requires : goal.let_go-requires
let_go-requires c =
    let within = done_with_within c.len.result c.args.queues.now in
    omega (arith, c.done_with-place.ensures, c.len.ensures.is)

pub returns-then-has_half_before-clause-servable : goal.returns-then-has_half_before-clause-servable
returns-then-has_half_before-clause-servable c =
    let gone = c.args.accepted.now.gone in
    let queues = c.args.queues.now in
    record {
      in_order = subst (λ (items : List Item). All (IsInOrder items) queues) (sym c.let_go.ensures.items)
          c.requires.in_order;
      left = left_after gone c.let_go.new.self.gone c.len.result queues c.requires.left
          (subst (λ x. c.let_go.new.self.gone ≤ max gone x) c.done_with-place.ensures c.let_go.ensures.few);
    }

pub returns-then-not-is_full-clause-acknowledged : goal.returns-then-not-is_full-clause-acknowledged
returns-then-not-is_full-clause-acknowledged c =
    acknowledged_if_gone c.args.accepted.now c.args.queues.now c.requires

pub returns-then-has_half_before-clause-acknowledged : goal.returns-then-has_half_before-clause-acknowledged
returns-then-has_half_before-clause-acknowledged c =
    acknowledged_if_gone c.let_go.new.self c.args.queues.now (returns-then-has_half_before-clause-servable c)

pub returns-else-has_half_before-clause-acknowledged : goal.returns-else-has_half_before-clause-acknowledged
returns-else-has_half_before-clause-acknowledged c =
    acknowledged_if_gone c.args.accepted.now c.args.queues.now c.requires
