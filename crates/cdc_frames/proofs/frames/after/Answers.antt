use Rattle.std.proofs.Common.{◌≡◌, ◌∙◌, ◌++◌, ◌-◌, ap, arith, drop, length, length-drop, sym, take}
use Rattle.std.proofs.lemmas.Bool.{false≢true}
use Rattle.std.proofs.lemmas.Bool.Decides.{Decides-eqb}
use Rattle.std.proofs.lemmas.List.{take_all}
use Rattle.std.proofs.lemmas.Slice.Eq.{starts_is}
use Rattle.cdc_frames.proofs.frames.after.Goals as goal

pub returns-then-starts_with-clause-begins : goal.returns-then-starts_with-clause-begins
returns-then-starts_with-clause-begins c =
    let text = c.args.text.now in
    let start = c.args.start.now in
    let whole : take (length text - length start) (drop (length start) text) ≡ drop (length start) text =
    take_all (length text - length start) (drop (length start) text) (omega (arith, length-drop (length start) text)) in
    (starts_is Decides-eqb text start c.starts_with.result c.starts_with.ensures.value).0 c.if-starts_with.true
    ∙ ap (λ l. start ++ l) (sym whole)

pub returns-else-starts_with-clause-none : goal.returns-else-starts_with-clause-none
returns-else-starts_with-clause-none c = λ none rest is.
    let text = c.args.text.now in
    let start = c.args.start.now in
    false≢true (sym c.if-starts_with.false
    ∙ (starts_is Decides-eqb text start c.starts_with.result c.starts_with.ensures.value).1 rest is)
