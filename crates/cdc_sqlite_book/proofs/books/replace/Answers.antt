use Rattle.std.proofs.Common.{◌≡◌, is_none, refl, sym, subst, ◌∙◌, arith}
use Rattle.sqlite.specs.State.{HasCleanDisk}
use Rattle.sqlite.specs.Effect.{Database}
use Rattle.sqlite.specs.Held.{state}
use Rattle.sqlite.proofs.StateLemmas.{survives_then}
use Rattle.cdc_book_log.specs.Details.{details_in}
use Rattle.cdc_sqlite_book.specs.Tables.{no_schema, IsSchemaIf, MayHold}
use Rattle.cdc_sqlite_book.proofs.KeptLemmas.{always, some_is, none_is, of_if, unreplaced}
use Rattle.cdc_sqlite_book.proofs.books.replace.Goals as goal

pub returns-in_err-found-clause-crash : goal.returns-in_err-found-clause-crash
returns-in_err-found-clause-crash g c =
    unreplaced (state g.S.Store c.args.conn.now) (state g.S.Store c.read_text.new.conn) c.args.text.now
    c.args.subscriber.now _ (is_none c.args.known)
    c.read_text.ensures.survives

pub returns-then-not-is_same-clause-crash : goal.returns-then-not-is_same-clause-crash
returns-then-not-is_same-clause-crash g c =
    unreplaced (state g.S.Store c.args.conn.now) (state g.S.Store c.read_text.new.conn) c.args.text.now
    c.args.subscriber.now _ (is_none c.args.known)
    c.read_text.ensures.survives

pub returns-clause-known : goal.returns-clause-known
returns-clause-known g c clean held holds =
    let before : HasCleanDisk (state g.S.Store c.read_text.new.conn) = omega (arith, c.save_rows.ensures.crash.clean) in
    let found = c.in_ok-found.ensures.found before held holds in
    always c.save_rows.result _ (sym (c.is_same.ensures.0 (cc c.if-not-is_same.false)) ∙ c.text_in.ensures
    ∙ some_is (λ it. it.items) _ held found)

pub returns-clause-saved : goal.returns-clause-saved
returns-clause-saved g c clean of =
    let before : HasCleanDisk (state g.S.Store c.read_text.new.conn) = omega (arith, c.save_rows.ensures.crash.clean) in
    let now = c.in_ok-found.ensures.same before (of_if (is_none c.args.known) _ of) in
    c.save_rows.ensures.saved clean
    (subst (λ none. IsSchemaIf none (state g.S.Store c.read_text.new.conn).now.schema)
    (sym (none_is c.is_none.result c.args.known c.is_none.ensures))
    (subst (λ (d : Database). IsSchemaIf (is_none c.args.known) d.schema) (sym now) of))

pub returns-clause-crash : goal.returns-clause-crash
returns-clause-crash g c =
    let old = state g.S.Store c.args.conn.now in
    let mid = state g.S.Store c.read_text.new.conn in
    let new = state g.S.Store c.save_rows.new.conn in
    let is_new = is_none c.args.known in
    let same : c.is_none.result ≡ is_new = none_is c.is_none.result c.args.known c.is_none.ensures in
    let P = MayHold (IsSchemaIf is_new old.now.schema) c.args.text.now c.args.subscriber.now
    (details_in c.args.details.now.entries) in
    let schema : HasCleanDisk mid → IsSchemaIf is_new old.now.schema → IsSchemaIf c.is_none.result mid.now.schema =
    λ clean of. subst (λ none. IsSchemaIf none mid.now.schema) (sym same)
    (subst (λ (d : Database). IsSchemaIf is_new d.schema)
    (sym (c.in_ok-found.ensures.same clean (of_if is_new old.now.schema of))) of) in
    survives_then old mid new _ _ P
    (λ _ db made. (
      record { schema = no_schema; trees = db },
      λ of. absurd (made (of_if is_new old.now.schema of)),
      refl,
    ))
    (λ clean db may. (may.0, λ of. may.1 (schema (omega (arith, c.save_rows.ensures.crash.clean)) of), may.2))
    c.read_text.ensures.survives c.save_rows.ensures.crash
