use Rattle.std.proofs.Common.{◌∙◌, inl, inr, refl, sym, subst, arith}
use Rattle.sqlite.specs.State.{HasCleanDisk}
use Rattle.sqlite.specs.Held.{state}
use Rattle.sqlite.proofs.StateLemmas.{survives_then}
use Rattle.cdc_subscriber.specs.Book.{entries_of}
use Rattle.cdc_book_log.specs.Details.{details_in}
use Rattle.cdc_sqlite_book.specs.Tables.{HoldsBook, IsOfBook, MayChange}
use Rattle.cdc_sqlite_book.proofs.KeptLemmas.{always, some_is, unchanged_book}
use Rattle.cdc_sqlite_book.proofs.books.update.Goals as goal

pub returns-in_err-held-clause-crash : goal.returns-in_err-held-clause-crash
returns-in_err-held-clause-crash g c =
    unchanged_book (state g.S.Store c.args.conn.now) (state g.S.Store c.read_text.new.conn)
    (entries_of c.args.accounts.now.entries) c.args.details.now.entries c.args.shown.now.entries c.args.text.now c.args.change.now c.read_text.ensures.survives

pub returns-then-not-is_same-clause-crash : goal.returns-then-not-is_same-clause-crash
returns-then-not-is_same-clause-crash g c =
    unchanged_book (state g.S.Store c.args.conn.now) (state g.S.Store c.read_text.new.conn)
    (entries_of c.args.accounts.now.entries) c.args.details.now.entries c.args.shown.now.entries c.args.text.now c.args.change.now c.read_text.ensures.survives

pub returns-clause-saved : goal.returns-clause-saved
returns-clause-saved g c clean held kept holds same =
    let before : HasCleanDisk (state g.S.Store c.read_text.new.conn) =
    omega (arith, c.save_changes.ensures.crash.clean) in
    let now = c.in_ok-held.ensures.same before (inr (inl holds.schema)) in
    c.save_changes.ensures.saved clean held kept
    (subst (HoldsBook held kept (details_in c.args.details.now.entries)) (sym now) holds) same

pub returns-clause-known : goal.returns-clause-known
returns-clause-known g c clean held holds =
    let before : HasCleanDisk (state g.S.Store c.read_text.new.conn) =
    omega (arith, c.save_changes.ensures.crash.clean) in
    let found = c.in_ok-held.ensures.found before held holds in
    always c.save_changes.result _ (sym (c.is_same.ensures.0 (cc c.if-not-is_same.false)) ∙ c.text_in.ensures
    ∙ some_is (λ it. it.items) _ held found)

pub returns-clause-crash : goal.returns-clause-crash
returns-clause-crash g c =
    let old = state g.S.Store c.args.conn.now in
    let mid = state g.S.Store c.read_text.new.conn in
    let new = state g.S.Store c.save_changes.new.conn in
    let entries = entries_of c.args.accounts.now.entries in
    let details = c.args.details.now.entries in
    let P = MayChange old.now entries details c.args.shown.now.entries c.args.text.now c.args.change.now in
    let now = λ (clean : HasCleanDisk mid) (of : IsOfBook old.now.schema). c.in_ok-held.ensures.same clean of in
    survives_then old mid new _ _ P
    (λ _ db made. (
      record { schema = old.now.schema; trees = db },
      λ held kept holds same. absurd (made (inr (inl holds.schema))),
      refl,
    ))
    (λ clean db may. (
      may.0,
      λ held kept holds same.
          may.1 held kept (subst (HoldsBook held kept (details_in details))
          (sym (now (omega (arith, c.save_changes.ensures.crash.clean)) (inr (inl holds.schema)))) holds) same,
      may.2,
    ))
    c.read_text.ensures.survives c.save_changes.ensures.crash
