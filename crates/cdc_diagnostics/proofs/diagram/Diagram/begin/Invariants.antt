use Rattle.cdc_diagnostics.proofs.Words.{List, diagram_head, ℕ, ◌++◌}
use Rattle.cdc_diagnostics.specs.Texts.{Holds}
use Rattle.cdc_diagnostics.proofs.diagram.Diagram.begin.Given as goal

-- the actors, and the subscribers so far
abbrev pub invariant-loop-place : goal.invariant-loop-place
invariant-loop-place l =
    (bytes : List ℕ) → Holds l.fn.self.text bytes → Holds l.self.text (bytes ++ diagram_head l.place)
