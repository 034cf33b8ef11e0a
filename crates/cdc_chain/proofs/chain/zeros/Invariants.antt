use Rattle.std.proofs.Common.{◌≡◌, length, map, take}
use Rattle.std.specs.Vec.{vec_capacity}
use Rattle.cdc_chain.proofs.chain.zeros.Given as goal

abbrev pub invariant-loop : goal.invariant-loop
invariant-loop l =
    (l.zeros.items ≡ map (λ _. 0) (take l.index l.bindings)) × (vec_capacity l.zeros ≡ length l.bindings)
