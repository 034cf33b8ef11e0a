use Rattle.std.proofs.Common.{◌≡◌, ◌≤◌, length}
use Rattle.cdc_script.specs.Private.Parts.{words_of}
use Rattle.cdc_script.proofs.words.next_word.Given as goal

abbrev pub invariant-loop-word : goal.invariant-loop-word
invariant-loop-word l = record {
  words : words_of l.rest ≡ words_of l.line;
  shorter : length l.rest.bytes.now ≤ length l.line.bytes.now;
}

abbrev pub decreases-loop-word : goal.decreases-loop-word
decreases-loop-word l = length l.rest.bytes.now
