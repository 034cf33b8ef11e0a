use Rattle.std.proofs.Common.{◌≡◌, ℕ, List, sym, subst, arith, rules}
use Rattle.sqlite.specs.State.{HasCleanDisk, Survives}
use Rattle.sqlite.specs.Held.{state}
use Rattle.sqlite.proofs.StateLemmas.{survives_then}
use Rattle.sqlite.proofs.Callers.{survives_begin}
use Rattle.cdc_subscriber.specs.SubscriberState.{SubscriberState}
use Rattle.cdc_subscriber.specs.Book.{entries_of}
use Rattle.cdc_book_log.specs.Details.{details_in}
use Rattle.cdc_sqlite_book.specs.Tables.{HoldsBook, MayChange}
use Rattle.cdc_sqlite_book.proofs.tables.save_changes.Goals as goal

pub returns-clause-crash : goal.returns-clause-crash
returns-clause-crash g c =
    let old = c.args.conn.now in
    let filled = c.refill.new.tx.conn.now in
    let begun = c.transaction-tx.ensures.begun in
    let before = state g.S.Store old in
    let entries = entries_of c.args.accounts.now.entries in
    let details = c.args.details.now.entries in
    let shown = c.args.shown.now.entries in
    let P = MayChange before.now entries details shown c.args.text.now c.args.change.now in
    let holds = λ (clean : HasCleanDisk (state g.S.Store filled)) (held : List ℕ) (kept : SubscriberState)
    (is : HoldsBook held kept (details_in details) before.now) (same : kept.book ≡ entries).
    c.in_ok-refill.ensures.holds clean held kept
    (subst (λ h. HoldsBook held kept (details_in details) (state g.S.Store h).now) (sym begun) is) same in
    let whole = survives_then (state g.S.Store old) (state g.S.Store filled) (state g.S.Store c.commit.new.self.0) _ _ P
    (λ _ db none. absurd none)
    (λ clean db is. (_, holds (omega (arith, c.commit.ensures.survives.clean)), is))
    (survives_begin g.S.Store old (state g.S.Store filled) _ (rw begun at c.refill.ensures.survives))
    c.commit.ensures.survives in
    let same : c.commit.new.self.0 ≡ c.conn-2-1.given.0 = search rules in
    subst (λ h. Survives (state g.S.Store old) (state g.S.Store h) P) same whole
