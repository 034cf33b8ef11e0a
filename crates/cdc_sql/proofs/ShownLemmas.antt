-- What the rows of events are: the accounts and balances of their book, and what the last of them shows.
use Rattle.std.proofs.Common.{◌≡◌, ◌==◌, ℕ, List, [], ◌∷◌, ◌++◌, true, false, cond, Some, append_assoc, append-nil, refl, sym, ap, ◌∙◌, inl, inr, subst}
use Rattle.std.specs.Prelude.{map}
use Rattle.std.proofs.lemmas.Bool.Decides.{eqb_tells}
use Rattle.std.proofs.lemmas.List.Sums.{fold-append}
use Rattle.cdc_types.specs.declared.events.Event.{Event}
use Rattle.cdc_subscriber.specs.Book.{are_distinct, book_of, entry_of, ids_of, put}
use Rattle.cdc_subscriber.specs.Steps.{book_after}
use Rattle.cdc_subscriber.specs.declared.book.BookEntry.{BookEntry}
use Rattle.cdc_subscriber.proofs.BookLemmas.{book_of-push, eqb_same, eqb_swap}
use Rattle.cdc_book_log.proofs.ReplayLemmas as replaying
use Rattle.cdc_sql.specs.Laws.{RowsAreBooks, RowsAreDistinct, RowsAreLast, entry_of_row, row_in}
use Rattle.cdc_sql.specs.Rows.{row_of, rows_after, rows_by, show_rows}
use Rattle.cdc_sql.specs.declared.rows.AccountRow.{AccountRow}
use Rattle.cdc_sql.proofs.PutLemmas.{Rows, ins}

-- a row that is put is an entry that is put
entry_put : (id : ℕ) (row : AccountRow) (rows : Rows)
    → map entry_of_row (ins rows id row) ≡ put (entry_of_row (id, row)) (map entry_of_row rows)
entry_put id row [] = refl
entry_put id row (r ∷ rest) =
    elim (eqb_tells id r.0) [
      | inl same ↦
          let back : (r.0 == id) ≡ true = subst (λ n. (n == id) ≡ true) same.1 (eqb_same id) in
          rw (same.0, back) (ap (λ n. entry_of_row (n, row) ∷ map entry_of_row rest) (sym same.1))
      | inr other ↦
          let back : (r.0 == id) ≡ false = eqb_swap id r.0 other.0 in
          rw (other.0, back) (ap (λ (l : List BookEntry). entry_of_row r ∷ l) (entry_put id row rest))
    ]

entries_shown : (rows : Rows) (e : Event)
    → map entry_of_row (show_rows e rows) ≡ book_after (map entry_of_row rows) e
entries_shown rows e =
    entry_put e.credit_account.id (row_of e e.credit_account) (ins rows e.debit_account.id (row_of e e.debit_account))
    ∙ ap (put (entry_of e.credit_account)) (entry_put e.debit_account.id (row_of e e.debit_account) rows)

book_shown : (rows : Rows) (done events : List Event) → map entry_of_row rows ≡ book_of done
    → map entry_of_row (rows_after rows events) ≡ book_of (done ++ events)
book_shown rows done [] is = is ∙ ap book_of (sym (append-nil done))
book_shown rows done (e ∷ events) is =
    book_shown (show_rows e rows) (done ++ e ∷ []) events
    (entries_shown rows e ∙ ap (λ b. book_after b e) is ∙ sym (book_of-push done e))
    ∙ ap book_of (append_assoc done (e ∷ []) events)

pub books : RowsAreBooks
books events = book_shown [] [] events refl

stay_distinct : (rows : Rows) (events : List Event) → are_distinct (ids_of (map entry_of_row rows)) ≡ true
    → are_distinct (ids_of (map entry_of_row (rows_after rows events))) ≡ true
stay_distinct rows [] is = is
stay_distinct rows (e ∷ events) is =
    let book = map entry_of_row rows in
    stay_distinct (show_rows e rows) events
    (subst (λ b. are_distinct (ids_of b) ≡ true) (sym (entries_shown rows e))
    (replaying.put_distinct (entry_of e.credit_account) (put (entry_of e.debit_account) book)
    (replaying.put_distinct (entry_of e.debit_account) book is)))

pub each_once : RowsAreDistinct
each_once events = stay_distinct [] events refl

-- the row of an account, once one was put
row_put : (n id : ℕ) (row : AccountRow) (rows : Rows)
    → row_in (ins rows id row) n ≡ cond (n == id) (Some row) (row_in rows n)
row_put n id row [] = refl
row_put n id row (r ∷ rest) =
    elim (eqb_tells id r.0) [
      | inl same ↦ elim (eqb_tells n r.0) [
        | inl is ↦
            let back : (n == id) ≡ true = subst (λ m. (n == m) ≡ true) (sym same.1) is.0 in
            rw (same.0, is.0, back) refl
        | inr differs ↦
            let back : (n == id) ≡ false = subst (λ m. (n == m) ≡ false) (sym same.1) differs.0 in
            rw (same.0, differs.0, back) refl
      ]
      | inr other ↦ elim (eqb_tells n r.0) [
        | inl is ↦
            let back : (n == id) ≡ false =
            subst (λ m. (m == id) ≡ false) (sym is.1) (eqb_swap id r.0 other.0) in
            rw (other.0, is.0, back) refl
        | inr differs ↦ rw (other.0, differs.0) (row_put n id row rest)
      ]
    ]

pub last : RowsAreLast
last events e id =
    let debit = row_of e e.debit_account in
    let credit = row_of e e.credit_account in
    ap (λ rows. row_in rows id) (fold-append (λ (shown : Rows) (one : Event). show_rows one shown) [] events (e ∷ []))
    ∙ row_put id e.credit_account.id credit (ins (rows_by events) e.debit_account.id debit)
    ∙ ap (cond (id == e.credit_account.id) (Some credit)) (row_put id e.debit_account.id debit (rows_by events))
