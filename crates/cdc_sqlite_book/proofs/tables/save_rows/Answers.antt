use Rattle.std.proofs.Common.{◌≡◌, sym, subst, arith, rules}
use Rattle.sqlite.specs.State.{HasCleanDisk, Survives}
use Rattle.sqlite.specs.Held.{state}
use Rattle.sqlite.proofs.StateLemmas.{survives_then}
use Rattle.sqlite.proofs.Callers.{survives_begin}
use Rattle.cdc_book_log.specs.Details.{details_in}
use Rattle.cdc_sqlite_book.specs.Tables.{IsSchemaIf, MayHold}
use Rattle.cdc_sqlite_book.proofs.tables.save_rows.Goals as goal

pub returns-clause-crash : goal.returns-clause-crash
returns-clause-crash g c =
    let old = c.args.conn.now in
    let cleared = c.clear.new.tx.conn.now in
    let filled = c.fill.new.tx.conn.now in
    let begun = c.transaction-tx.ensures.begun in
    let known = details_in c.args.details.now.entries in
    let before = (state g.S.Store old).now.schema in
    let P = MayHold (IsSchemaIf c.args.is_new before) c.args.text.now c.args.subscriber.now known in
    let holds = λ (clean : HasCleanDisk (state g.S.Store filled)) (of : IsSchemaIf c.args.is_new before).
    c.in_ok-fill.ensures.holds clean
    (c.in_ok-clear.ensures.schema (omega (arith, c.fill.ensures.survives.clean))
    (subst (λ h. IsSchemaIf c.args.is_new (state g.S.Store h).now.schema) (sym begun) of)) in
    let inside = survives_then (state g.S.Store c.transaction-tx.result.conn.now) (state g.S.Store cleared)
    (state g.S.Store filled) _ _ (λ _. ⊥) (λ _ db none. none) (λ _ db none. none)
    c.clear.ensures.survives c.fill.ensures.survives in
    let whole = survives_then (state g.S.Store old) (state g.S.Store filled) (state g.S.Store c.commit.new.self.0) _ _ P
    (λ _ db none. absurd none)
    (λ clean db is. (_, holds (omega (arith, c.commit.ensures.survives.clean)), is))
    (survives_begin g.S.Store old (state g.S.Store filled) _ (rw begun at inside)) c.commit.ensures.survives in
    let same : c.commit.new.self.0 ≡ c.conn-2-1.given.0 = search rules in
    subst (λ h. Survives (state g.S.Store old) (state g.S.Store h) P) same whole
