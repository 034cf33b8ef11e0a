use Rattle.std.proofs.Common.{◌∙◌, ap, sym}
use Rattle.std.specs.Option.{option_map}
use Rattle.cdc_script.specs.Faults.{span_of}
use Rattle.cdc_script.specs.Private.Parts.{seen, words_of}
use Rattle.cdc_script.proofs.BindingLemmas.{refused_here, refused_later}
use Rattle.cdc_script.proofs.bindings.refused_word.Goals as goal

pub returns-then-not-is_good : goal.returns-then-not-is_good
returns-then-not-is_good c =
    let found = c.in-Some.ensures.word in
    let printable = c.in-Some-printable_text.ensures in
    let asked = rw (c.as_slice.ensures.value, c.in_ok-push.ensures.items)
    at (sym c.in_ok-is_good.ensures ∙ c.if-not-is_good.true) in
    rw c.span_of.ensures (ap (option_map span_of)
    (refused_here c.loop-word.texts.items c.in-Some-printable_text.text (seen c.in-Some.word)
    (words_of c.in-Some.after) _
    (rw found at c.loop-word.invariant) printable.0 printable.1 asked))

pub loop-word-preserved : goal.loop-word-preserved
loop-word-preserved c =
    let found = c.in-Some.ensures.word in
    let printable = c.in-Some-printable_text.ensures in
    let asked = rw (c.as_slice.ensures.value, c.in_ok-push.ensures.items)
    at (sym c.in_ok-is_good.ensures ∙ c.if-not-is_good.false) in
    rw c.in_ok-push.ensures.items
    (refused_later c.loop-word.texts.items c.in-Some-printable_text.text (seen c.in-Some.word)
    (words_of c.in-Some.after) _
    (rw found at c.loop-word.invariant) printable.0 printable.1 asked)
