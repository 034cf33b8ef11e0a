use Rattle.std.proofs.Common.{◌++◌, ◌∷◌, ◌∙◌, ap, drop, refl}
use Rattle.cdc_codec.specs.Texts.{spaced}
use Rattle.cdc_follow.proofs.SavedLemmas.{account_parts, same_account}
use Rattle.cdc_follow.proofs.saved.read_account.Goals as goal

pub returns-clause-reads : goal.returns-clause-reads
returns-clause-reads c entry rest fits is =
    let b = entry.balances in
    let t4 = spaced b.credits_posted ++ 10 ∷ rest in
    let t3 = spaced b.credits_pending ++ t4 in
    let t2 = spaced b.debits_posted ++ t3 in
    let t1 = spaced b.debits_pending ++ t2 in
    let whole = c.skip.ensures.rest ∙ ap (drop 7) (is ∙ account_parts entry rest) in
    let one = c.number-id.ensures.reads entry.id 32 (drop 1 t1) fits.id refl whole in
    let two = c.number-debits_pending.ensures.reads b.debits_pending 32 (drop 1 t2) fits.debits_pending refl one.1 in
    let three = c.number-debits_posted.ensures.reads b.debits_posted 32 (drop 1 t3) fits.debits_posted refl two.1 in
    let four = c.number-credits_pending.ensures.reads b.credits_pending 32 (drop 1 t4) fits.credits_pending refl
    three.1 in
    let five = c.number-credits_posted.ensures.reads b.credits_posted 10 rest fits.credits_posted refl four.1 in
    (same_account entry one.0 two.0 three.0 four.0 five.0, c.skip-2.ensures.rest ∙ ap (drop 1) five.1)
