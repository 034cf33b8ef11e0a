use Rattle.cdc_amqp_dialogue.proofs.WritingLemmas.{HasPart}
use Rattle.cdc_amqp_dialogue.proofs.writing.send.Given as goal

-- a first part of the bytes was written, and the rest is left
abbrev pub invariant-loop : goal.invariant-loop
invariant-loop g l = HasPart (g.W.Write.contents l.fn.writer) (g.W.Write.contents l.writer) l.fn.bytes l.rest
