-- The rows of accounts.
use Rattle.std.proofs.Common.{◌≡◌, ℕ, ◌+◌, ◌<◌, suc, pos, ◌+ℤ◌, List, [], ◌∷◌, ◌++◌, length, fold, Less, Option, refl, ap, ◌∙◌, arith}
use Rattle.std.proofs.lemmas.Int.{ints}
use Rattle.std.proofs.lemmas.Bool.Decides.{nat_tests}
use Rattle.sqlite.specs.declared.types.Value.TheVariants.{Int}
use Rattle.sqlite.specs.Order.{Row, value_cmp}
use Rattle.sqlite.specs.Tree.{rowid, put_row}
use Rattle.sqlite.specs.Edit.{id_in, next_rowid}
use Rattle.sqlite_value.proofs.OrderLemmas.{value_cmp-Int}
use Rattle.cdc_subscriber.specs.declared.book.BookEntry.{BookEntry}
use Rattle.cdc_book_log.specs.declared.details.Details.{Details}
use Rattle.cdc_sqlite_book.specs.Tables.{entry_row, rows_from}

-- a smaller row number comes first
lower_id : (m n : ℕ) → m < n → value_cmp (Int (pos m)) (Int (pos n)) ≡ Less
lower_id m n h = value_cmp-Int (pos m) (pos n) ∙ grind (arith, ints, nat_tests)

module _ (known : ℕ → Option Details) where
  -- a row whose number follows the others comes last
  pub put_end : (new : Row) (place : ℕ) (entries : List BookEntry) → rowid new ≡ Int (pos (place + length entries))
      → put_row new (rows_from known place entries) ≡ rows_from known place entries ++ new ∷ []
  put_end new place [] is = refl
  put_end new place (entry ∷ more) is =
      let below : value_cmp (Int (pos place)) (rowid new) ≡ Less =
      ap (value_cmp (Int (pos place))) is ∙ lower_id place (place + length (entry ∷ more)) (omega arith) in
      let later : rowid new ≡ Int (pos (suc place + length more)) =
      is ∙ ap (λ n. Int (pos n)) (omega arith) in
      rw below (ap (λ rows. entry_row (known entry.id) place entry ∷ rows) (put_end new (suc place) more later))

  -- the rows of one account more
  pub rows_end : (place : ℕ) (entries : List BookEntry) (entry : BookEntry)
      → rows_from known place (entries ++ entry ∷ [])
      ≡ rows_from known place entries ++ entry_row (known entry.id) (place + length entries) entry ∷ []
  rows_end place [] entry = ap (λ n. entry_row (known entry.id) n entry ∷ []) (omega arith)
  rows_end place (first ∷ more) entry =
      ap (λ rows. entry_row (known first.id) place first ∷ rows) (rows_end (suc place) more entry
      ∙ ap (λ n. rows_from known (suc place) more ++ entry_row (known entry.id) n entry ∷ []) (omega arith))

  -- the number that a next row gets, after some rows
  next_from : (place : ℕ) (entries : List BookEntry) → fold (λ _ r. id_in (rowid r) +ℤ pos 1) (pos place)
      (rows_from known place entries) ≡ pos (place + length entries)
  next_from place [] = ap pos (omega arith)
  next_from place (entry ∷ more) =
      let step : pos place +ℤ pos 1 ≡ pos (suc place) = grind (arith, ints) in
      ap (λ n. fold (λ _ r. id_in (rowid r) +ℤ pos 1) n (rows_from known (suc place) more)) step
      ∙ next_from (suc place) more ∙ ap pos (omega arith)

  -- the number that a next row gets
  pub next_is : (entries : List BookEntry) → next_rowid (rows_from known 1 entries) ≡ pos (1 + length entries)
  next_is entries = next_from 1 entries

-- the rows of accounts of which the same is known
pub rows_same : (known other : ℕ → Option Details) → ((id : ℕ) → known id ≡ other id) → (place : ℕ)
    (entries : List BookEntry) → rows_from known place entries ≡ rows_from other place entries
rows_same known other same place [] = refl
rows_same known other same place (entry ∷ more) =
    ap (λ details. entry_row details place entry ∷ rows_from known (suc place) more) (same entry.id)
    ∙ ap (λ rows. entry_row (other entry.id) place entry ∷ rows) (rows_same known other same (suc place) more)
