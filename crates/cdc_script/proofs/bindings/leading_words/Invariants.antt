use Rattle.std.proofs.Common.{◌≡◌, ◌++◌, length, map}
use Rattle.std.specs.Prelude.{find, not}
use Rattle.std.specs.List.{take_while}
use Rattle.cdc_script.specs.Private.Parts.{words_of}
use Rattle.cdc_script.specs.Words.{is_clear}
use Rattle.cdc_script.proofs.bindings.leading_words.Given as goal

abbrev pub invariant-loop-word : goal.invariant-loop-word
invariant-loop-word l = record {
  texts : map (λ text. text.now) l.texts.items ++ map (λ w. w.bytes) (take_while is_clear (words_of l.rest))
      ≡ map (λ w. w.bytes) (take_while is_clear (words_of l.words));
  bad : find (λ w. not (is_clear w)) (words_of l.rest) ≡ find (λ w. not (is_clear w)) (words_of l.words);
}

abbrev pub decreases-loop-word : goal.decreases-loop-word
decreases-loop-word l = length l.rest.bytes.now
