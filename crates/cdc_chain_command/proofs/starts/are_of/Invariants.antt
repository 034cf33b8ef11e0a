use Rattle.std.proofs.Common.{◌≡◌, drop, map}
use Rattle.cdc_chain_command.specs.States.{are_of}
use Rattle.cdc_chain_command.proofs.starts.are_of.Given as goal

-- the bindings that are left decide
abbrev pub invariant-loop-place : goal.invariant-loop-place
invariant-loop-place l =
    are_of (drop l.place l.bindings) (drop l.place (map (λ t. t.items) l.texts))
    ≡ are_of l.bindings (map (λ t. t.items) l.texts)
