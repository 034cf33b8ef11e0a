use Rattle.cdc_audit_state.proofs.Words.{ap, drop, refl, spaced, ◌++◌, ◌∙◌, ◌∷◌}
use Rattle.cdc_audit_state.proofs.RowLemmas.{same_fields}
use Rattle.cdc_audit_state.proofs.rows.read_fields.Goals as goal

pub returns-clause-reads : goal.returns-clause-reads
returns-clause-reads c f rest fits is =
    let t6 = spaced f.timestamp ++ 10 ∷ rest in
    let t5 = spaced f.flags ++ t6 in
    let t4 = spaced f.code ++ t5 in
    let t3 = spaced f.ledger ++ t4 in
    let t2 = spaced f.user_data_32 ++ t3 in
    let t1 = spaced f.user_data_64 ++ t2 in
    let a = c.number-user_data_128.ensures.reads f.user_data_128 32 (drop 1 t1) fits.user_data_128 refl is in
    let b = c.number_64-user_data_64.ensures.reads f.user_data_64 32 (drop 1 t2) fits.user_data_64 refl a.1 in
    let d = c.number_32-user_data_32.ensures.reads f.user_data_32 32 (drop 1 t3) fits.user_data_32 refl b.1 in
    let e = c.number_32-ledger.ensures.reads f.ledger 32 (drop 1 t4) fits.ledger refl d.1 in
    let g = c.number_16-code.ensures.reads f.code 32 (drop 1 t5) fits.code refl e.1 in
    let h = c.number_16-flags.ensures.reads f.flags 32 (drop 1 t6) fits.flags refl g.1 in
    let i = c.number_64-timestamp.ensures.reads f.timestamp 10 rest fits.timestamp refl h.1 in
    (same_fields f a.0 b.0 d.0 e.0 g.0 h.0 i.0, c.skip.ensures.rest ∙ ap (drop 1) i.1)
