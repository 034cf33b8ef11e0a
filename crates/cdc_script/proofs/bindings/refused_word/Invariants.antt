use Rattle.std.proofs.Common.{◌≡◌, length, map, []}
use Rattle.std.specs.List.{take_while}
use Rattle.cdc_script.specs.Private.Parts.{words_of}
use Rattle.cdc_script.specs.Statements.{refused_word}
use Rattle.cdc_script.specs.Words.{is_clear}
use Rattle.cdc_script.proofs.bindings.refused_word.Given as goal

abbrev pub invariant-loop-word : goal.invariant-loop-word
invariant-loop-word l =
    refused_word (map (λ text. text.now) l.texts.items) (take_while is_clear (words_of l.rest))
    ≡ refused_word [] (take_while is_clear (words_of l.words))

abbrev pub decreases-loop-word : goal.decreases-loop-word
decreases-loop-word l = length l.rest.bytes.now
