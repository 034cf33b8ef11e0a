use Rattle.std.proofs.Common.{◌≡◌}
use Rattle.std.specs.Vec.{vec_capacity}
use Rattle.cdc_queue_lines.proofs.StepLemmas.{IsTaking}
use Rattle.cdc_chain.proofs.chain.find_queues.Given as goal

abbrev pub invariant-loop-place : goal.invariant-loop-place
invariant-loop-place l =
    IsTaking l.event l.bindings l.fn.places.items l.place l.places.items l.found.items
    × (vec_capacity l.found ≡ vec_capacity l.fn.found)
