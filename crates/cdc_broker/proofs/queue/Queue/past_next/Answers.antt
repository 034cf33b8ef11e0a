use Rattle.std.proofs.Common.{◌≡◌, ◌-◌, ◌+◌, ◌<◌, ◌∙◌, ap, sym, length, take, arith}
use Rattle.std.specs.Prelude.{slice_get}
use Rattle.cdc_match.specs.Queue.{queue}
use Rattle.cdc_broker.proofs.Marks.{count_within, found_by_count, inside_by_count}
use Rattle.cdc_broker.proofs.queue.Queue.past_next.Goals as goal

pub overflow_add-result-2 : goal.overflow_add-result-2
overflow_add-result-2 c =
    let low = count_within c.args.accepted.now.items c.args.self.now.binding c.loop-place.place in
    omega arith

pub returns-clause-item : goal.returns-clause-item
returns-clause-item c =
    let accepted = c.args.accepted.now.items in
    let binding = c.args.self.now.binding in
    let place = c.loop-place.place in
    let item = c.item.result.now in
    let same : place + 1 - 1 ≡ place = omega arith in
    let fewer : length (queue (take place accepted) binding) < length (queue accepted binding) = omega arith in
    ap (slice_get accepted) same
    ∙ found_by_count accepted binding place item (inside_by_count accepted binding place fewer)
    c.item.ensures.is (sym c.wants.ensures ∙ c.loop-place-test.false)
    ∙ ap (slice_get (queue accepted binding)) (sym c.loop-place.invariant.counts)
