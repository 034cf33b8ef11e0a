use Rattle.cdc_files.proofs.Writing.{HasPart}
use Rattle.cdc_files.proofs.replacing.write_text.Given as goal

-- a first part of the text is written, and the rest is left
abbrev pub invariant-loop : goal.invariant-loop
invariant-loop g l = record {
  part : HasPart (g.W.Write.contents l.fn.writer) (g.W.Write.contents l.writer) l.fn.text l.rest;
}
