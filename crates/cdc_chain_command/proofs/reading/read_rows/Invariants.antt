use Rattle.std.proofs.Common.{map}
use Rattle.cdc_chain_command.proofs.ReadLemmas.{ReadTo}
use Rattle.cdc_chain_command.proofs.reading.read_rows.Given as goal

-- the lines before this one were read
abbrev pub invariant-loop-queue : goal.invariant-loop-queue
invariant-loop-queue l =
    ReadTo l.fn.text l.count l.queue l.rest l.places.items (map (λ t. t.items) l.texts.items)
