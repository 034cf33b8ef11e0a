-- Rows that are put into others, which are put into a table.
use Rattle.std.proofs.Common.{◌≡◌, ◌==◌, ℕ, List, [], ◌∷◌, ◌++◌, Bool, true, false, cond, not, ◌&&◌, refl, sym, ap, ◌∙◌, inl, inr, subst}
use Rattle.std.specs.Prelude.{nat_eq}
use Rattle.std.proofs.lemmas.Bool.{false≢true}
use Rattle.std.proofs.lemmas.Bool.Decides.{eqb_tells}
use Rattle.std.proofs.lemmas.List.Sums.{fold-append}
use Rattle.indexmap.specs.IndexMap.{insert_entry}
use Rattle.cdc_types.specs.declared.events.Event.{Event}
use Rattle.cdc_subscriber.proofs.BookLemmas.{eqb_same, eqb_swap}
use Rattle.cdc_sql.specs.Rows.{put_rows, row_of, rows_after, rows_by, show_rows}
use Rattle.cdc_sql.specs.declared.rows.AccountRow.{AccountRow}

-- rows by the numbers of their accounts
abbrev pub Rows : Type 0
Rows = List (ℕ × AccountRow)

-- a row that is put
abbrev pub ins : Rows → ℕ → AccountRow → Rows
ins rows id row = insert_entry nat_eq rows id row

-- an account with this number has a row
abbrev has : ℕ → Rows → Bool
has id [] = false
has id (r ∷ rest) = cond (id == r.0) true (has id rest)

-- no account has two rows
abbrev distinct : Rows → Bool
distinct [] = true
distinct (r ∷ rest) = not (has r.0 rest) && distinct rest

both_true : (a b : Bool) → (not a && b) ≡ true → (a ≡ false) × (b ≡ true)
both_true true b is = absurd cc
both_true false b is = (refl, is)

both_no : (a b : Bool) → cond a true b ≡ false → (a ≡ false) × (b ≡ false)
both_no true b is = absurd (false≢true (sym is))
both_no false b is = (refl, is)

-- a row that is put is there
here : (id : ℕ) (row : AccountRow) (rows : Rows) → has id (ins rows id row) ≡ true
here id row [] = rw (eqb_same id) refl
here id row (r ∷ rest) =
    elim (eqb_tells id r.0) [
      | inl same ↦ rw (same.0, same.0) refl
      | inr other ↦ rw (other.0, other.0) (here id row rest)
    ]

-- what is there stays there
stays : (other id : ℕ) (row : AccountRow) (rows : Rows) → has other rows ≡ true → has other (ins rows id row) ≡ true
stays other id row [] there = absurd (false≢true there)
stays other id row (r ∷ rest) there =
    elim (eqb_tells id r.0) [
      | inl same ↦ rw same.0 there
      | inr apart ↦ elim (eqb_tells other r.0) [
        | inl is ↦ rw (apart.0, is.0) refl
        | inr differs ↦
            let later : has other rest ≡ true = rw differs.0 at there in
            rw (apart.0, differs.0) (stays other id row rest later)
      ]
    ]

-- of two rows with one number the later counts
put_twice : (id : ℕ) (a b : AccountRow) (rows : Rows) → ins (ins rows id a) id b ≡ ins rows id b
put_twice id a b [] = rw (eqb_same id) refl
put_twice id a b (r ∷ rest) =
    elim (eqb_tells id r.0) [
      | inl same ↦ rw (same.0, same.0) refl
      | inr other ↦ rw (other.0, other.0) (ap (λ l. r ∷ l) (put_twice id a b rest))
    ]

-- a row whose number is there can be put before another one or after it
put_swap : (k : ℕ) (a : AccountRow) (j : ℕ) (b : AccountRow) (rows : Rows) → (k == j) ≡ false → has j rows ≡ true
    → ins (ins rows k a) j b ≡ ins (ins rows j b) k a
put_swap k a j b [] apart there = absurd (false≢true there)
put_swap k a j b (r ∷ rest) apart there =
    let back = eqb_swap k j apart in
    elim (eqb_tells k r.0) [
      | inl same ↦
          let no : (j == r.0) ≡ false = subst (λ n. (j == n) ≡ false) same.1 back in
          rw (same.0, no, same.0) refl
      | inr not_k ↦ elim (eqb_tells j r.0) [
        | inl same ↦ rw (not_k.0, same.0, not_k.0) refl
        | inr not_j ↦
            let later : has j rest ≡ true = rw not_j.0 at there in
            rw (not_k.0, not_j.0, not_k.0) (ap (λ l. r ∷ l) (put_swap k a j b rest apart later))
      ]
    ]

-- a row whose number is there, and not among further rows, can be put before them or after
put_all_swap : (changed : Rows) (j : ℕ) (b : AccountRow) (rows : Rows) → has j changed ≡ false → has j rows ≡ true
    → put_rows changed (ins rows j b) ≡ ins (put_rows changed rows) j b
put_all_swap [] j b rows apart there = refl
put_all_swap (r ∷ rest) j b rows apart there =
    let both = both_no (j == r.0) (has j rest) apart in
    ap (put_rows rest) (sym (put_swap r.0 r.1 j b rows (eqb_swap j r.0 both.0) there))
    ∙ put_all_swap rest j b (ins rows r.0 r.1) both.1 (stays j r.0 r.1 rows there)

-- one more row among the changes is one more that is put
put_one_more : (id : ℕ) (row : AccountRow) (changed rows : Rows) → distinct changed ≡ true
    → put_rows (ins changed id row) rows ≡ ins (put_rows changed rows) id row
put_one_more id row [] rows is = refl
put_one_more id row (r ∷ rest) rows is =
    let both = both_true (has r.0 rest) (distinct rest) is in
    elim (eqb_tells id r.0) [
      | inl same ↦
          rw same.0 (ap (put_rows rest) (sym (put_twice r.0 r.1 row rows))
          ∙ put_all_swap rest r.0 row (ins rows r.0 r.1) both.0 (here r.0 r.1 rows)
          ∙ ap (λ n. ins (put_rows rest (ins rows r.0 r.1)) n row) (sym same.1))
      | inr other ↦ rw other.0 (put_one_more id row rest (ins rows r.0 r.1) both.1)
    ]

-- a row that is put is the only further one
put_apart : (n id : ℕ) (row : AccountRow) (rows : Rows) → (n == id) ≡ false → has n rows ≡ false
    → has n (ins rows id row) ≡ false
put_apart n id row [] differs apart = rw differs refl
put_apart n id row (r ∷ rest) differs apart =
    let both = both_no (n == r.0) (has n rest) apart in
    elim (eqb_tells id r.0) [
      | inl same ↦ rw same.0 apart
      | inr other ↦ rw (other.0, both.0) (put_apart n id row rest differs both.1)
    ]

put_distinct : (id : ℕ) (row : AccountRow) (rows : Rows) → distinct rows ≡ true → distinct (ins rows id row) ≡ true
put_distinct id row [] is = refl
put_distinct id row (r ∷ rest) is =
    let both = both_true (has r.0 rest) (distinct rest) is in
    elim (eqb_tells id r.0) [
      | inl same ↦ rw same.0 is
      | inr other ↦
          let absent = put_apart r.0 id row rest (eqb_swap id r.0 other.0) both.0 in
          rw (other.0, absent) (put_distinct id row rest both.1)
    ]

-- the rows that an event shows can be put into the changes, or into the table after these
show_put : (changed rows : Rows) (e : Event) → distinct changed ≡ true
    → put_rows (show_rows e changed) rows ≡ show_rows e (put_rows changed rows)
show_put changed rows e is =
    let debit = row_of e e.debit_account in
    let credit = row_of e e.credit_account in
    put_one_more e.credit_account.id credit (ins changed e.debit_account.id debit) rows
    (put_distinct e.debit_account.id debit changed is)
    ∙ ap (λ l. ins l e.credit_account.id credit) (put_one_more e.debit_account.id debit changed rows is)

show_distinct : (rows : Rows) (e : Event) → distinct rows ≡ true → distinct (show_rows e rows) ≡ true
show_distinct rows e is =
    put_distinct e.credit_account.id (row_of e e.credit_account) (ins rows e.debit_account.id (row_of e e.debit_account))
    (put_distinct e.debit_account.id (row_of e e.debit_account) rows is)

after_put : (changed rows : Rows) (events : List Event) → distinct changed ≡ true
    → put_rows (rows_after changed events) rows ≡ rows_after (put_rows changed rows) events
after_put changed rows [] is = refl
after_put changed rows (e ∷ events) is =
    after_put (show_rows e changed) rows events (show_distinct changed e is)
    ∙ ap (λ l. rows_after l events) (show_put changed rows e is)

-- the rows of events, put into the rows of those before them, are the rows of all
pub put_join : (applied more : List Event) → put_rows (rows_by more) (rows_by applied) ≡ rows_by (applied ++ more)
put_join applied more =
    after_put [] (rows_by applied) more refl
    ∙ sym (fold-append (λ (shown : Rows) (e : Event). show_rows e shown) [] applied more)
