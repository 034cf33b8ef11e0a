use Rattle.std.proofs.Common.{◌≡◌, ◌+◌, ◌-◌, ◌≤◌, suc, [], ◌∷◌, ◌++◌, take, drop, sym, ap, ◌∙◌, arith}
use Rattle.cdc_log.proofs.Segments.{take-next}
use Rattle.cdc_log.proofs.log.EventLog.copy.Goals as goal

pub loop-place-preserved : goal.loop-place-preserved
loop-place-preserved c =
    let es = c.args.self.now.events in
    let first = c.args.first in
    let place = c.loop-place.place in
    let e = c.event.result.now in
    let from : first ≤ place = c.loop-place.invariant.from in
    let room = c.loop-place.invariant.room in
    let at : place ≡ first + (place - first) = omega arith in
    let next : suc (place - first) ≡ place + 1 - first = omega arith in
    record {
      items = c.push_reserved.ensures.items
          ∙ ap (λ read. read ++ e ∷ []) c.loop-place.invariant.items
          ∙ sym (take-next es first place (place - first) e at c.event.ensures)
          ∙ ap (λ k. take k (drop first es)) next;
      from = omega arith;
      room = omega (arith, c.push_reserved.ensures.len, c.push_reserved.ensures.capacity);
    }
