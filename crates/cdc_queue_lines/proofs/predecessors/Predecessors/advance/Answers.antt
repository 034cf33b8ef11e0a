use Rattle.std.proofs.Common.{◌≡◌, ◌≤◌, ◌∙◌, ap, arith, length}
use Rattle.std.specs.Vec.{vec_capacity}
use Rattle.cdc_queue_lines.specs.Predecessors.{PredecessorState}
use Rattle.cdc_queue_lines.specs.Steps.{found_after, last_after}
use Rattle.cdc_queue_lines.proofs.StepLemmas.{found_after-predecessors, last_after-timestamps, length-last_after}
use Rattle.cdc_queue_lines.proofs.predecessors.Predecessors.advance.Goals as goal

pub invariant_of-self : goal.invariant_of-self
invariant_of-self c =
    let was : c.self.inside.last.items ≡ c.args.self.now.last = ap (λ (s : PredecessorState). s.last) c.self.view_is in
    let many : length c.self.inside.last.items ≡ length c.args.bindings.now = ap length was ∙ c.requires in
    let fits : length c.self.inside.last.items ≤ vec_capacity c.self.inside.found = c.self.invariant in
    let bound : length c.take_event.new.last.items ≤ vec_capacity c.take_event.new.found =
    omega (
      arith,
      ap length c.take_event.ensures.last,
      length-last_after c.args.event.now c.args.bindings.now c.self.inside.last.items many,
      c.take_event.ensures.capacity,
      c.clear.ensures.capacity,
      fits,
    ) in
    bound

pub returns-clause-last : goal.returns-clause-last
returns-clause-last c = λ before is.
    let was : c.self.inside.last.items ≡ c.args.self.now.last = ap (λ (s : PredecessorState). s.last) c.self.view_is in
    c.take_event.ensures.last ∙ ap (last_after c.args.event.now c.args.bindings.now) (was ∙ is)
    ∙ last_after-timestamps c.args.event.now c.args.bindings.now before

pub returns-clause-found : goal.returns-clause-found
returns-clause-found c = λ before is.
    let was : c.self.inside.last.items ≡ c.args.self.now.last = ap (λ (s : PredecessorState). s.last) c.self.view_is in
    c.take_event.ensures.found ∙ ap (found_after c.args.event.now 1 c.args.bindings.now) (was ∙ is)
    ∙ found_after-predecessors c.args.event.now 1 c.args.bindings.now before

pub returns-clause-many : goal.returns-clause-many
returns-clause-many c =
    let was : c.self.inside.last.items ≡ c.args.self.now.last = ap (λ (s : PredecessorState). s.last) c.self.view_is in
    let many : length c.self.inside.last.items ≡ length c.args.bindings.now = ap length was ∙ c.requires in
    ap length c.take_event.ensures.last
    ∙ length-last_after c.args.event.now c.args.bindings.now c.self.inside.last.items many ∙ ap length was
