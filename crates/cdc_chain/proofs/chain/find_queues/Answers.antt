use Rattle.std.proofs.Common.{◌≡◌, ◌≤◌, ◌∙◌, true, false, ap, arith, length}
use Rattle.std.specs.declared.alloc.Global.{Global}
use Rattle.std.specs.declared.vec.Vec.{Vec}
use Rattle.std.specs.Vec.{vec_capacity}
use Rattle.cdc_match.specs.Queue.{takes_event}
use Rattle.cdc_queue_lines.specs.declared.predecessors.Predecessor.{Predecessor}
use Rattle.cdc_queue_lines.proofs.StepLemmas.{all_found, all_kept, passed, taken, takes_by}
use Rattle.cdc_chain.proofs.chain.find_queues.Goals as goal
use Rattle.cdc_chain.proofs.chain.find_queues.Goals.{then-matches, else-matches}

pub loop-place-preserved : goal.loop-place-preserved
loop-place-preserved c =
    let event = c.args.event.now in
    let binding = c.index-bindings-place.result in
    elim c.if-matches.branch [
      | then-matches w ↦
          let takes : takes_event c.index-bindings-place.result c.args.event.now ≡ true =
          takes_by binding event c.headers_of-headers.result c.matches.result true c.headers_of-headers.ensures
          c.matches.ensures w.if-matches.true in (
            rw (w.places-is, w.found-is, w.push_reserved.ensures.items)
                (taken event c.args.bindings.now c.args.places.now.items c.loop-place.place c.loop-place.places.items
                c.loop-place.found.items binding w.index-previous.result.now c.loop-place-test.true
                c.index-bindings-place.is w.index-previous.ensures takes c.loop-place.invariant.0),
            ap (λ (v : Vec Predecessor Global). vec_capacity v) w.found-is ∙ w.push_reserved.ensures.capacity
                ∙ c.loop-place.invariant.1,
          )
      | else-matches w ↦
          let takes : takes_event c.index-bindings-place.result c.args.event.now ≡ false =
          takes_by binding event c.headers_of-headers.result c.matches.result false c.headers_of-headers.ensures
          c.matches.ensures w.if-matches.false in (
            rw (w.places-is, w.found-is)
                (passed event c.args.bindings.now c.args.places.now.items c.loop-place.place c.loop-place.places.items
                c.loop-place.found.items binding c.loop-place-test.true c.index-bindings-place.is takes
                c.loop-place.invariant.0),
            ap (λ (v : Vec Predecessor Global). vec_capacity v) w.found-is ∙ c.loop-place.invariant.1,
          )
    ]

pub returns-clause-places : goal.returns-clause-places
returns-clause-places c =
    let past : length c.args.bindings.now ≤ c.loop-place.place = omega arith in
    all_kept c.args.event.now c.args.bindings.now c.args.places.now.items c.loop-place.place c.loop-place.places.items
    c.loop-place.found.items past c.loop-place.invariant.0

pub returns-clause-found : goal.returns-clause-found
returns-clause-found c =
    let past : length c.args.bindings.now ≤ c.loop-place.place = omega arith in
    all_found c.args.event.now c.args.bindings.now c.args.places.now.items c.loop-place.place c.loop-place.places.items
    c.loop-place.found.items past c.loop-place.invariant.0
