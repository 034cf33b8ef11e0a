use Rattle.std.proofs.Common.{Some, None}
use Rattle.std.proofs.lemmas.Bool.{false≢true}
use Rattle.std.proofs.lemmas.Bool.Decides.{Decides-eqb}
use Rattle.std.proofs.lemmas.Slice.Eq.{strip_prefix_is}
use Rattle.cdc_progress.proofs.TextLemmas.{left_next, left_other}
use Rattle.cdc_progress.proofs.texts.is_made_of.Goals as goal

pub loop-part-preserved : goal.loop-part-preserved
loop-part-preserved c =
    left_next c.args.text.now c.args.parts.now c.loop-part.part-index _ c.loop-part.rest.now c.loop-part-test.true
    c.loop-part.invariant c.as_bytes.result.now c.in-Some.after.now c.as_bytes.ensures.value
    (strip_prefix_is Decides-eqb c.loop-part.rest.now c.as_bytes.result.now (Some c.in-Some.after)
    c.in-Some.ensures.cases)

pub returns-in-None : goal.returns-in-None
returns-in-None c =
    let other = left_other c.args.text.now c.args.parts.now c.loop-part.part-index _ c.loop-part.rest.now
    c.loop-part-test.true c.loop-part.invariant c.as_bytes.result.now c.as_bytes.ensures.value
    (strip_prefix_is Decides-eqb c.loop-part.rest.now c.as_bytes.result.now None c.in-None.ensures.cases) in
    (λ yes. absurd (false≢true yes), λ whole. absurd (other whole))
