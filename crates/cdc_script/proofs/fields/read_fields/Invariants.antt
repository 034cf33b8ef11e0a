use Rattle.std.proofs.Common.{length}
use Rattle.cdc_script.specs.Fields.{fields_from, no_fields}
use Rattle.std.specs.Prelude.{[]}
use Rattle.cdc_script.specs.Private.Parts.{words_of}
use Rattle.cdc_script.proofs.FieldMarks.{IsRead}
use Rattle.cdc_script.proofs.fields.read_fields.Given as goal

abbrev pub invariant-loop-word : goal.invariant-loop-word
invariant-loop-word l =
    IsRead l.kind l.given l.fields (words_of l.rest) (fields_from l.kind [] no_fields (words_of l.words))

abbrev pub decreases-loop-word : goal.decreases-loop-word
decreases-loop-word l = length l.rest.bytes.now
