use Rattle.std.proofs.Common.{◌++◌, map}
use Rattle.cdc_chain_command.specs.States.{rows}
use Rattle.cdc_chain_command.proofs.ReadLemmas.{WithRows}
use Rattle.cdc_chain_command.proofs.states.push_rows.Given as goal

-- the text so far, and the lines of the queues that are left, make the whole text
abbrev pub invariant-loop-place : goal.invariant-loop-place
invariant-loop-place l =
    WithRows (map (λ t. t.items) l.texts) l.places l.place l.text.items
    (l.fn.text.items ++ rows (map (λ t. t.items) l.texts) l.places)
