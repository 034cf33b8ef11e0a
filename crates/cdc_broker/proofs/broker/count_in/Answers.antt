use Rattle.std.proofs.Common.{◌≡◌, ◌<◌, ◌∙◌, ap, sym, get_or, length, arith}
use Rattle.std.specs.Prelude.{slice_set}
use Rattle.std.proofs.lemmas.List.Edits.{map_over_more}
use Rattle.cdc_broker.specs.declared.queue.Queue.{Queue}
use Rattle.cdc_broker.specs.Kept.{counting}
use Rattle.cdc_broker.proofs.States.{at_front, over_front}
use Rattle.cdc_broker.proofs.broker.count_in.Goals as goal

pub count-requires : goal.count-requires
count-requires c =
    let i = c.loop-queue.queue-index in
    let q = c.queue-item.result in
    let inside : i < length c.args.queues.now = omega arith in
    let same : (get_or c.loop-queue.queues i q).len ≡ (get_or c.args.queues.now i q).len =
    ap (λ (q : Queue). q.len) (ap (λ qs. get_or qs i q) c.loop-queue.invariant
    ∙ at_front (counting c.args.item.now c.args.len) c.args.queues.now i q inside) in
    let fits = c.requires i q inside in
    omega arith

pub loop-queue-preserved : goal.loop-queue-preserved
loop-queue-preserved c =
    let i = c.loop-queue.queue-index in
    let inside : i < length c.args.queues.now = omega arith in
    ap (λ q. slice_set c.loop-queue.queues i q)
    (c.count.ensures ∙ ap (counting c.args.item.now c.args.len) (sym c.queue-item.is))
    ∙ map_over_more (counting c.args.item.now c.args.len) c.args.queues.now c.loop-queue.queues i c.queue-item.result
    inside c.loop-queue.invariant c.queue-item.is

pub returns : goal.returns
returns c =
    c.loop-queue.invariant
    ∙ over_front (counting c.args.item.now c.args.len) c.args.queues.now c.loop-queue.queue-index
    c.loop-queue-test.false
