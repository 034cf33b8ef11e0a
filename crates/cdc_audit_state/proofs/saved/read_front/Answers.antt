use Rattle.cdc_audit_state.proofs.Words.{ap, arith, chain_text, codes, drop, refl, spaced, yes_or_no, ◌++◌, ◌∙◌, ◌∷◌}
use Rattle.cdc_audit_state.proofs.SavedLemmas.{front_text}
use Rattle.cdc_audit_state.proofs.saved.read_front.Goals as goal

pub returns : goal.returns
returns c auditor lines last applied chain is =
    let kept = auditor.kept in
    let t8 = 10 ∷ lines in
    let t7 = codes " closed" ++ (yes_or_no kept.closed ++ t8) in
    let t6 = codes " ended" ++ (yes_or_no kept.ended ++ t7) in
    let t5 = codes " last" ++ (spaced kept.last ++ t6) in
    let t4 = codes " applied" ++ (spaced kept.applied ++ t5) in
    let t3 = codes "\nsubscriber" ++ (spaced 1 ++ t4) in
    let t2 = codes " linked" ++ (chain_text auditor.chain ++ t3) in
    let whole = is ∙ front_text auditor lines in
    let f1 = c.flag-foreign.ensures.reads auditor.foreign t2 (c.skip.ensures.rest ∙ ap (drop 21) whole) in
    let f2 = c.read_chain-chain.ensures auditor.chain (drop 1 t3) chain (c.skip-2.ensures.rest ∙ ap (drop 7) f1.1) in
    let n1 = c.number.ensures.reads 1 32 (drop 1 t4) (omega arith) refl (c.skip-3.ensures.rest ∙ ap (drop 11) f2.1) in
    let n2 = c.number_64-applied.ensures.reads kept.applied 32 (drop 1 t5) applied refl
    (c.skip-4.ensures.rest ∙ ap (drop 8) n1.1) in
    let n3 = c.number_64-last.ensures.reads kept.last 32 (drop 1 t6) last refl
    (c.skip-5.ensures.rest ∙ ap (drop 5) n2.1) in
    let f3 = c.flag-ended.ensures.reads kept.ended t7 (c.skip-6.ensures.rest ∙ ap (drop 6) n3.1) in
    let f4 = c.flag.ensures.reads kept.closed t8 (c.skip-7.ensures.rest ∙ ap (drop 7) f3.1) in
    record {
      foreign = f1.0;
      chain = f2.0;
      applied = n2.0;
      last = n3.0;
      ended = f3.0;
      lines_are = c.skip-8.ensures.rest ∙ ap (drop 1) f4.1;
    }
