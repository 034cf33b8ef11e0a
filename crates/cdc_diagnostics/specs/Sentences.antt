-- Sentences as texts.
use Rattle.std.specs.Prelude.{ℕ, List, ◌++◌, decimal}
use Rattle.cdc_diagnostics.specs.declared.sentences.Sentence.{Sentence}
use Rattle.cdc_diagnostics.specs.declared.sentences.Sentence.TheVariants.{Plain, One, Two, Three, Four}

-- the text of a sentence: its pieces, with the numbers between them in decimal digits
abbrev pub sentence_text : Sentence → List ℕ
sentence_text (Plain words) = words.now
sentence_text (One before number after) = before.now ++ decimal number ++ after.now
sentence_text (Two a first b second c) = a.now ++ decimal first ++ b.now ++ decimal second ++ c.now
sentence_text (Three a first b second c third d) =
    a.now ++ decimal first ++ b.now ++ decimal second ++ c.now ++ decimal third ++ d.now
sentence_text (Four a first b second c third d fourth) =
    a.now ++ decimal first ++ b.now ++ decimal second ++ c.now ++ decimal third ++ d.now ++ decimal fourth
