use Rattle.std.proofs.Common.{◌≡◌, ◌≤◌, length}
use Rattle.cdc_types.specs.declared.bounds.TheConstants.Limits.{SCRIPT_BYTES}
use Rattle.cdc_script.specs.Faults.{end_of}
use Rattle.cdc_script.specs.Private.Parts.{words_of}
use Rattle.cdc_script.proofs.words.end_of_words.Given as goal

abbrev pub invariant-loop-word : goal.invariant-loop-word
invariant-loop-word l = record {
  place : end_of l.end (words_of l.rest) ≡ end_of l.line.start (words_of l.line);
  within : l.end ≤ SCRIPT_BYTES;
}

abbrev pub decreases-loop-word : goal.decreases-loop-word
decreases-loop-word l = length l.rest.bytes.now
