use Rattle.std.proofs.Common.{◌++◌, ◌∷◌, ◌∙◌, ap, drop, refl}
use Rattle.std.specs.Prelude.{codes}
use Rattle.cdc_codec.specs.Texts.{spaced, yes_or_no}
use Rattle.cdc_checked_state.proofs.SavedLemmas.{front_text}
use Rattle.cdc_checked_state.proofs.saved.read_front.Goals as goal

pub returns : goal.returns
returns c binding follower lines one_line applied last is =
    let t4 = binding ++ 10 ∷ lines in
    let t3 = codes "\nbinding " ++ t4 in
    let t5 = codes " baseline" ++ (yes_or_no follower.baseline ++ t3) in
    let t2 = codes " ended" ++ (yes_or_no follower.ended ++ t5) in
    let t1 = codes " last" ++ (spaced follower.last ++ t2) in
    let whole = is ∙ front_text binding follower lines in
    let n1 = c.number_64-applied.ensures.reads follower.applied 32 (drop 1 t1) applied refl
    (c.skip.ensures.rest ∙ ap (drop 22) whole) in
    let n2 = c.number_64-last.ensures.reads follower.last 32 (drop 1 t2) last refl
    (c.skip-2.ensures.rest ∙ ap (drop 5) n1.1) in
    let f1 = c.flag-ended.ensures.reads follower.ended t5 (c.skip-3.ensures.rest ∙ ap (drop 6) n2.1) in
    let f2 = c.flag-baseline.ensures.reads follower.baseline t3 (c.skip-4.ensures.rest ∙ ap (drop 9) f1.1) in
    let b = c.line.ensures.reads binding lines one_line (c.skip-5.ensures.rest ∙ ap (drop 9) f2.1) in
    record {
      applied = n1.0;
      last = n2.0;
      ended = f1.0;
      baseline = f2.0;
      binding_is = b.0;
      lines_are = b.1;
    }
