use Rattle.cdc_script.specs.Private.Parts.{seen, words_of}
use Rattle.cdc_script.proofs.BindingLemmas.{one_more}
use Rattle.cdc_script.proofs.bindings.leading_words.Goals as goal

pub loop-word-preserved : goal.loop-word-preserved
loop-word-preserved c =
    let before = c.loop-word.invariant in
    let found = c.in-Some.ensures.word in
    let printable = c.in-Some-printable_text.ensures in
    let rest = words_of c.in-Some.after in
    record {
      texts = rw c.in_ok-push.ensures.items
          (one_more c.loop-word.texts.items c.in-Some-printable_text.text (seen c.in-Some.word) rest _
          (rw found at before.texts) printable.0 printable.1);
      bad = rw printable.0 at (rw found at before.bad);
    }
