use Rattle.std.proofs.Common.{◌≡◌}
use Rattle.std.specs.Vec.{vec_capacity}
use Rattle.cdc_queue_lines.proofs.StepLemmas.{IsTaking}
use Rattle.cdc_queue_lines.proofs.predecessors.take_event.Given as goal

abbrev pub invariant-loop-place : goal.invariant-loop-place
invariant-loop-place l =
    IsTaking l.event l.bindings l.fn.last.items l.place l.last.items l.found.items
    × (vec_capacity l.found ≡ vec_capacity l.fn.found)
