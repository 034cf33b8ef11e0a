use Rattle.std.proofs.Common.{◌≡◌, ◌+◌, suc, take, ap, sym, ◌∙◌, arith}
use Rattle.sqlite.specs.Held.{state}
use Rattle.sqlite.proofs.StateLemmas.{survives_then}
use Rattle.cdc_book_log.specs.Details.{details_in}
use Rattle.cdc_sqlite_book.specs.Tables.{rows_from}
use Rattle.cdc_sqlite_book.proofs.StepLemmas.{keeps_then, took}
use Rattle.cdc_sqlite_book.proofs.tables.put_accounts.Goals as goal

pub accounts-preserved : goal.accounts-preserved
accounts-preserved g c =
    let old = state g.S.Store c.args.tx.now.conn.now in
    let mid = state g.S.Store c.accounts.tx.conn.now in
    let new = state g.S.Store c.put_account.new.tx.conn.now in
    let made = c.put_account.ensures in
    let place = c.accounts.place in (
      made.same_reference ∙ c.accounts.invariant.0,
      survives_then old mid new _ _ (λ _. ⊥) (λ _ db none. none) (λ _ db none. none) c.accounts.invariant.1
          made.survives,
      λ clean. keeps_then old mid new (c.accounts.invariant.2 (omega (arith, made.survives.clean))) (made.kept clean),
      λ clean has none.
          let was = c.accounts.invariant.3 (omega (arith, made.survives.clean)) has none in
          let ok = c.in_ok-put_account.ensures in
          let known = details_in c.args.details.now.entries in
          let before = take place c.args.book.now in
          let one : take (suc place) c.args.book.now ≡ _ =
          took c.args.book.now place c.in-Some.id c.in-Some.balances (sym c.at_place.ensures ∙ c.in-Some.is) in
          let next : suc place ≡ place + 1 = omega arith in (
            ok.schema clean before known was.0 was.2,
            ok.book clean before known was.0 was.2 ∙ was.1,
            ok.accounts clean before known was.0 was.2 (sym c.details_for.ensures)
                ∙ ap (rows_from known 1) (sym one ∙ ap (λ n. take n c.args.book.now) next),
          ),
    )
