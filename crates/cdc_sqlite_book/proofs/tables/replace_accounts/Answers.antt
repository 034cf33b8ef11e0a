use Rattle.std.proofs.Common.{◌≡◌, ◌+◌, ℕ, true, suc, take, ap, sym, subst, ◌∙◌, arith}
use Rattle.sqlite.specs.Held.{state}
use Rattle.sqlite.proofs.StateLemmas.{survives_then}
use Rattle.cdc_subscriber.specs.declared.book.BookEntry.{BookEntry}
use Rattle.cdc_subscriber.specs.Book.{are_distinct, entries_of, ids_of, put}
use Rattle.cdc_subscriber.proofs.PushLemmas.{are_distinct-keys}
use Rattle.cdc_book_log.specs.Replay.{put_all}
use Rattle.cdc_sqlite_book.specs.Tables.{HoldsBook, place_in, renewed, with_details}
use Rattle.cdc_sqlite_book.proofs.DetailLemmas.{holds_same, renew_at}
use Rattle.cdc_sqlite_book.proofs.PlaceLemmas.{distinct_all, put_next, step_next, step_place}
use Rattle.cdc_sqlite_book.proofs.StepLemmas.{keeps_then}
use Rattle.cdc_sqlite_book.proofs.tables.replace_accounts.Goals as goal

pub accounts-preserved : goal.accounts-preserved
accounts-preserved g c =
    let old = state g.S.Store c.args.tx.now.conn.now in
    let mid = state g.S.Store c.accounts.tx.conn.now in
    let new = state g.S.Store c.replace_account.new.tx.conn.now in
    let made = c.replace_account.ensures in
    let book = c.args.changed.now in
    let at = c.accounts.at in
    let id = c.in-Some.id in
    let balances = c.in-Some.balances in
    let one : BookEntry = record { id = id; balances = balances } in
    let entries = entries_of c.args.accounts.now.entries in
    let before = take at book in
    let there = sym c.at_place.ensures ∙ c.in-Some.is in
    let place = step_place book entries at id balances c.accounts.next c.place_for-index.result
    c.len-count.ensures.distinct there c.accounts.invariant.3 c.place_for-index.ensures in
    let number : c.in_ok-number.number ≡ suc c.place_for-index.result = c.in_ok-number.ensures in
    let after : suc at ≡ at + 1 = omega arith in (
      made.same_reference ∙ c.accounts.invariant.0,
      survives_then old mid new _ _ (λ _. ⊥) (λ _ db none. none) (λ _ db none. none) c.accounts.invariant.1
          made.survives,
      λ clean. keeps_then old mid new (c.accounts.invariant.2 (omega (arith, made.survives.clean))) (made.kept clean),
      omega (
        arith,
        c.max-next.ensures,
        number,
        step_next book entries at id balances c.accounts.next c.place_for-index.result there c.accounts.invariant.3
            place,
      ),
      λ clean held kept holds same.
          let was = c.accounts.invariant.4 (omega (arith, made.survives.clean)) held kept holds same in
          let where_it_is : c.in_ok-number.number ≡ suc (place_in (put_all before kept.book) id) =
          number ∙ ap suc (place ∙ ap (λ es. place_in (put_all before es) id) (sym same)) in
          let distinct : are_distinct (ids_of kept.book) ≡ true =
          ap (λ es. are_distinct (ids_of es)) same
          ∙ are_distinct-keys c.args.accounts.now.entries c.len-next.ensures.unique in
          let shown = c.args.shown.now.entries in
          let details = c.args.details.now.entries in
          let put_it = c.in_ok-replace_account.ensures.holds clean held
          (record kept { book = put_all before kept.book }) (renewed before shown details) was
          (distinct_all before kept.book distinct) where_it_is in
          let known : (other : ℕ) → with_details id c.newest_for-known.result (renewed before shown details) other
          ≡ renewed (take (at + 1) book) shown details other =
          λ other. ap (λ d. with_details id d (renewed before shown details) other) c.newest_for-known.ensures
          ∙ renew_at book at id balances shown details other there
          ∙ ap (λ n. renewed (take n book) shown details other) after in
          let books : put one (put_all before kept.book) ≡ put_all (take (at + 1) book) kept.book =
          sym (put_next book kept.book at id balances there) ∙ ap (λ n. put_all (take n book) kept.book) after in
          holds_same held (record kept { book = put_all (take (at + 1) book) kept.book }) _ _ new.now known
          (subst (λ es. HoldsBook held (record kept { book = es })
          (with_details id c.newest_for-known.result (renewed before shown details)) new.now) books put_it),
    )
