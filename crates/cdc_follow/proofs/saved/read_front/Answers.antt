use Rattle.std.proofs.Common.{◌++◌, ◌∷◌, ◌∙◌, ap, arith, drop, refl}
use Rattle.std.specs.Prelude.{codes}
use Rattle.std.specs.List.{flat_map}
use Rattle.cdc_codec.specs.Texts.{spaced, yes_or_no}
use Rattle.cdc_subscriber.specs.Lines.{account_line}
use Rattle.cdc_follow.proofs.SavedLemmas.{book_parts}
use Rattle.cdc_follow.proofs.saved.read_front.Goals as goal

pub returns : goal.returns
returns c chained binding state can is =
    let kept = state.kept in
    let t8 = 10 ∷ flat_map account_line kept.book in
    let t7 = codes " closed" ++ (yes_or_no kept.closed ++ t8) in
    let t6 = codes " ended" ++ (yes_or_no kept.ended ++ t7) in
    let t5 = codes " last" ++ (spaced kept.last ++ t6) in
    let t4 = codes " applied" ++ (spaced kept.applied ++ t5) in
    let t3 = codes "subscriber" ++ (spaced 1 ++ t4) in
    let t2 = codes "\nbinding " ++ (binding ++ 10 ∷ t3) in
    let t1 = codes " seen" ++ (spaced state.seen ++ t2) in
    let whole = is ∙ book_parts chained binding state in
    let f1 = c.flag-chained.ensures.reads chained t1 (c.skip.ensures.rest ∙ ap (drop 14) whole) in
    let n1 = c.number_64-seen.ensures.reads state.seen 10 (drop 1 t2) can.seen refl
    (c.skip-2.ensures.rest ∙ ap (drop 5) f1.1) in
    let b = c.line.ensures.reads binding t3 can.line (c.skip-3.ensures.rest ∙ ap (drop 9) n1.1) in
    let n2 = c.number.ensures.reads 1 32 (drop 1 t4) (omega arith) refl (c.skip-4.ensures.rest ∙ ap (drop 10) b.1) in
    let n3 = c.number_64-applied.ensures.reads kept.applied 32 (drop 1 t5) can.applied refl
    (c.skip-5.ensures.rest ∙ ap (drop 8) n2.1) in
    let n4 = c.number_64-last.ensures.reads kept.last 32 (drop 1 t6) can.last refl
    (c.skip-6.ensures.rest ∙ ap (drop 5) n3.1) in
    let f2 = c.flag-ended.ensures.reads kept.ended t7 (c.skip-7.ensures.rest ∙ ap (drop 6) n4.1) in
    let f3 = c.flag-closed.ensures.reads kept.closed t8 (c.skip-8.ensures.rest ∙ ap (drop 7) f2.1) in
    record {
      chained_is = f1.0;
      seen = n1.0;
      binding_is = b.0;
      applied = n3.0;
      last = n4.0;
      ended = f2.0;
      closed = f3.0;
      accounts = c.skip-9.ensures.rest ∙ ap (drop 1) f3.1;
    }
