use Rattle.std.proofs.Common.{ap, drop, refl, ◌++◌, ◌∙◌, ◌∷◌}
use Rattle.cdc_codec.specs.Texts.{spaced}
use Rattle.cdc_checked_state.proofs.RowLemmas.{same_known}
use Rattle.cdc_checked_state.proofs.rows.read_known.Goals as goal

pub returns-clause-reads : goal.returns-clause-reads
returns-clause-reads c k rest fits is =
    let t4 = spaced k.last ++ 10 ∷ rest in
    let t3 = spaced k.balances.credits_posted ++ t4 in
    let t2 = spaced k.balances.credits_pending ++ t3 in
    let t1 = spaced k.balances.debits_posted ++ t2 in
    let a = c.number-debits_pending.ensures.reads k.balances.debits_pending 32 (drop 1 t1) fits.debits_pending refl is
    in
    let b = c.number-debits_posted.ensures.reads k.balances.debits_posted 32 (drop 1 t2) fits.debits_posted refl a.1 in
    let d = c.number-credits_pending.ensures.reads k.balances.credits_pending 32 (drop 1 t3) fits.credits_pending refl
    b.1 in
    let e = c.number-credits_posted.ensures.reads k.balances.credits_posted 32 (drop 1 t4) fits.credits_posted refl d.1
    in
    let f = c.number_64-last.ensures.reads k.last 10 rest fits.last refl e.1 in
    (same_known k a.0 b.0 d.0 e.0 f.0, c.skip.ensures.rest ∙ ap (drop 1) f.1)
