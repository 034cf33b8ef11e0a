use Rattle.std.proofs.Common.{◌≡◌, ◌≤◌, ◌∙◌, ap, arith, length}
use Rattle.std.specs.Vec.{vec_capacity}
use Rattle.cdc_queue_lines.proofs.StepLemmas.{length-last_after}
use Rattle.cdc_chain.specs.Chains.{ChainState}
use Rattle.cdc_chain.proofs.chain.Chain.add_event.Goals as goal

pub invariant_of-self : goal.invariant_of-self
invariant_of-self c =
    let was : c.self.inside.places.items ≡ c.args.self.now.places = ap (λ (s : ChainState). s.places) c.self.view_is in
    let many : length c.self.inside.places.items ≡ length c.args.bindings.now = ap length was ∙ c.requires in
    let fits : length c.self.inside.places.items ≤ vec_capacity c.self.inside.found = c.self.invariant in
    let bound : length c.find_queues.new.places.items ≤ vec_capacity c.find_queues.new.found =
    omega (
      arith,
      ap length c.find_queues.ensures.places,
      length-last_after c.args.event.now c.args.bindings.now c.self.inside.places.items many,
      c.find_queues.ensures.capacity,
      c.clear.ensures.capacity,
      fits,
    ) in
    bound

pub returns-then-is_empty-clause-many : goal.returns-then-is_empty-clause-many
returns-then-is_empty-clause-many c =
    let was : c.self.inside.places.items ≡ c.args.self.now.places = ap (λ (s : ChainState). s.places) c.self.view_is in
    let many : length c.self.inside.places.items ≡ length c.args.bindings.now = ap length was ∙ c.requires in
    ap length c.find_queues.ensures.places
    ∙ length-last_after c.args.event.now c.args.bindings.now c.self.inside.places.items many ∙ ap length was

pub invariant_of-self-2 : goal.invariant_of-self-2
invariant_of-self-2 c =
    let was : c.self.inside.places.items ≡ c.args.self.now.places = ap (λ (s : ChainState). s.places) c.self.view_is in
    let many : length c.self.inside.places.items ≡ length c.args.bindings.now = ap length was ∙ c.requires in
    let fits : length c.self.inside.places.items ≤ vec_capacity c.self.inside.found = c.self.invariant in
    let bound : length c.find_queues.new.places.items ≤ vec_capacity c.find_queues.new.found =
    omega (
      arith,
      ap length c.find_queues.ensures.places,
      length-last_after c.args.event.now c.args.bindings.now c.self.inside.places.items many,
      c.find_queues.ensures.capacity,
      c.clear.ensures.capacity,
      fits,
    ) in
    bound

pub returns-clause-many : goal.returns-clause-many
returns-clause-many c =
    let was : c.self.inside.places.items ≡ c.args.self.now.places = ap (λ (s : ChainState). s.places) c.self.view_is in
    let many : length c.self.inside.places.items ≡ length c.args.bindings.now = ap length was ∙ c.requires in
    ap length c.find_queues.ensures.places
    ∙ length-last_after c.args.event.now c.args.bindings.now c.self.inside.places.items many ∙ ap length was
