-- What the statements that replace a row leave in the tables.
use Rattle.std.proofs.Common.{◌≡◌, ◌≢◌, ℕ, suc, ◌+◌, ℤ, pos, List, [], ◌∷◌, drop, codes, true, Option, None, Some, Ok, Err, Result, OnOk, refl, sym, ap, subst, ◌∙◌, inl, inr, arith}
use Rattle.sqlite.specs.declared.types.Value.TheVariants.{Null, Int}
use Rattle.sqlite.specs.Order.{Row}
use Rattle.sqlite.specs.Term.{Term, lit, col}
use Rattle.sqlite.specs.Source.TheVariants.{Values}
use Rattle.sqlite.specs.Command.TheVariants.{InsertOr}
use Rattle.sqlite_schema.specs.declared.command.Conflict.TheVariants.{Replace}
use Rattle.sqlite_schema.specs.declared.schema.Keys.{Keys}
use Rattle.sqlite.specs.Table.{Table}
use Rattle.sqlite.specs.Edit.{edit_of, taken_by, with_rowid}
use Rattle.sqlite.specs.Cast.{cast_row}
use Rattle.sqlite.specs.Rowids.TheVariants.{Chosen, Given}
use Rattle.sqlite_rules.specs.declared.error.Refusal.{Refusal}
use Rattle.sqlite_rules.specs.Action.{works}
use Rattle.sqlite_rules.specs.Keys.{AreConflicts}
use Rattle.sqlite_rules.specs.Calls.{ids_of as rowids_of}
use Rattle.sqlite.specs.Does.{Tally, Does}
use Rattle.sqlite.specs.Rows.{Written, Task, Puts, Clears, Tries, Judged, TriesEach, mended, nothing, count_of}
use Rattle.sqlite.specs.Tree.{Trees, rowid, put_row, without_rowid}
use Rattle.sqlite_tied.specs.Compute.{everything}
use Rattle.sqlite.specs.declared.error.Error.{Error}
use Rattle.sqlite.specs.Listing.{understood}
use Rattle.sqlite.specs.Effect.{Database}
use Rattle.sqlite.specs.State.{State, mode_of, Executes}
use Rattle.sqlite.proofs.Callers.{IsPlain, command_of, statement_of, runs_as, one_step}
use Rattle.cdc_subscriber.specs.SubscriberState.{SubscriberState}
use Rattle.cdc_subscriber.specs.declared.book.BookEntry.{BookEntry}
use Rattle.cdc_subscriber.specs.Book.{are_distinct, ids_of, put}
use Rattle.cdc_book_log.specs.declared.details.Details.{Details}
use Rattle.cdc_sqlite_book.specs.Tables.{book_schema, book_table, account_table, book_row, entry_row, rows_from, HoldsBook, place_in, with_details}
use Rattle.cdc_sqlite_book.proofs.CreateLemmas.{went, same_value}
use Rattle.cdc_sqlite_book.proofs.InsertLemmas.{balance_values, cast_int, cast_null, progress_of, values_of}
use Rattle.cdc_sqlite_book.proofs.ReplaceLemmas.{Numbered, conflicts_are, entries_numbered, equal_to, put_at, put_without, without_found}

-- ---- one row, in either table

module _ (limit : Option ℕ) (keys : Keys) (params : Row) (table : Table)
    (acts : (gone news : List Row) → works book_schema keys 0 table.tree gone news ≡ []) where
  abbrev task : Task
  task = record { limit = limit; keys = keys; schema = book_schema; table = table; params = params }

  -- a row that is put, and the other table
  puts : (new : Row) (db : Trees) (one : Written) → Puts task new db (Ok one)
      → (one.trees table.tree ≡ put_row (cast_row table (drop 0 new)) (db table.tree))
      × ((t : ℕ) → t ≢ table.tree → one.trees t ≡ db t)
  puts new db one h =
      let it = went h in
      let edit = edit_of db table [] Given 0 (new ∷ []) in
      let step = one_step book_schema keys db it.0 edit (acts (taken_by db edit) edit.news) it.1 in
      let trees : one.trees ≡ it.0 = ap (λ (w : Written). w.trees) (same_value it.2) in (
        ap (λ (t : Trees). t table.tree) trees ∙ step.rows,
        λ t other. ap (λ (all : Trees). all t) trees ∙ step.others t other tt,
      )

  -- the row that replaces those with its number
  clears : (p : ℕ) (new : Row) (db : Trees) (found : List Row) (one : Written) → Numbered (db table.tree)
      → rowid new ≡ Int (pos p) → AreConflicts None [] table (db table.tree) new found
      → put_row (cast_row table (drop 0 new)) (without_rowid (pos p) (db table.tree))
      ≡ put_row (cast_row table (drop 0 new)) (db table.tree)
      → Clears task Replace new db found (Ok one)
      → (one.trees table.tree ≡ put_row (cast_row table (drop 0 new)) (db table.tree))
      × ((t : ℕ) → t ≢ table.tree → one.trees t ≡ db t)
  clears p new db [] one numbered is conflicts same h = puts new db one h
  clears p new db (x ∷ more) one numbered is conflicts same h =
      let all = conflicts_are p table (db table.tree) new (x ∷ more) numbered is conflicts in
      let it = went h in
      let edit = edit_of db table (rowids_of (x ∷ more)) Given 0 [] in
      let step = one_step book_schema keys db it.0 edit (acts (taken_by db edit) edit.news) it.1 in
      let left : it.0 table.tree ≡ without_rowid (pos p) (db table.tree) =
      step.rows ∙ without_found p x more (db table.tree) all in
      let done = puts new it.0 one it.2 in (
        done.0 ∙ ap (put_row (cast_row table (drop 0 new))) left ∙ same,
        λ t other. done.1 t other ∙ step.others t other tt,
      )

  -- a row that went in did so in place of those with its number
  tried : (new : Row) (db : Trees) (one : Written) → Tries task Replace [] new db (Ok one)
      → (found : List Row) × AreConflicts None [] table (db table.tree) new found
      × Clears task Replace new db found (Ok one)
  tried new db one (inl misfit) = absurd (let e = misfit.1 in cc)
  tried new db one (inr h) = by_verdict h.0 h.2
    where
      by_verdict : (verdict : Option Refusal) → Judged task Replace [] new db verdict (Ok one)
          → (found : List Row) × AreConflicts None [] table (db table.tree) new found
          × Clears task Replace new db found (Ok one)
      by_verdict None h = h
      by_verdict (Some why) h = absurd (let e = h in cc)

-- ---- the text

-- the statement that replaces the book's text
abbrev pub retext_text : List ℕ
retext_text = codes "INSERT OR REPLACE INTO book (id, text, last, applied) VALUES (1, ?1, ?2, ?3)"

abbrev retext_terms : List Term
retext_terms = lit (Int (pos 1)) ∷ lit Null ∷ col 0 0 ∷ col 0 1 ∷ col 0 2 ∷ []

retext_is : command_of (understood book_schema retext_text) ≡ InsertOr 0 Replace (Values retext_terms 5) []
unfolding understood everything
retext_is = refl

retext_plain : IsPlain (understood book_schema retext_text)
unfolding understood everything
retext_plain = (refl, refl)

book_numbered : (held : List ℕ) (last applied : ℕ) → Numbered (book_row held last applied ∷ [])
book_numbered held last applied r (inl is) = (1, ap rowid is)
book_numbered held last applied r (inr none) = absurd none

-- the row of the book's text is replaced
pub replaces_text : (old new : State) (held text : List ℕ) (kept : SubscriberState) (known : ℕ → Option Details)
    (last applied : ℕ) (r : Result ℕ Error) → HoldsBook held kept known old.now
    → Executes retext_text (progress_of text last applied) old new r
    → OnOk r (HoldsBook text (record kept { last = last; applied = applied }) known new.now)
replaces_text old new held text kept known last applied (Err e) holds h = tt
replaces_text old new held text kept known last applied (Ok count) holds h =
    let params = progress_of text last applied in
    let db = old.now.trees in
    let command = InsertOr 0 Replace (Values retext_terms 5) [] in
    let w = runs_as retext_text params old new book_schema holds.schema command retext_is retext_plain count h in
    let sql = statement_of retext_text (understood book_schema retext_text) in
    let done = went
    (subst (λ s. Does old.step_limit (mode_of old) params (record old.now { schema = s }) sql None command
    (Ok (w.tally, new.now))) holds.schema w.changed) in
    let now = ap (λ (p : Tally × Database). p.1) (same_value (went (went done.2).2).2) in
    let given = went done.1 in
    let counter = went given.2 in
    let each = went counter.2 in
    let counted = went each.2 in
    let trees : done.0.trees ≡ each.0.0.trees = ap (λ (it : Written). it.trees) (same_value counted.2)
    ∙ same_value counted.1 in
    let row = book_row text last applied in
    let it = task old.step_limit (mode_of old).keys params book_table (λ gone news. refl) in
    let tries = went (subst (λ rows. TriesEach it Replace [] rows (count_of counter.0) (nothing db) (Ok each.0))
    given.1.1 each.1) in
    let one = tries.0 in
    let last_trees : each.0.0.trees ≡ one.trees = ap (λ (p : Written × ℤ). p.0.trees) (same_value tries.2) in
    let new_is : with_rowid Chosen (db 0) (cast_row book_table (mended Replace book_table row)) ≡ row =
    rw (cast_int (pos 1), cast_null) refl in
    let found = tried old.step_limit (mode_of old).keys params book_table (λ gone news. refl) row db one
    (subst (λ n. Tries it Replace [] n db (Ok one)) new_is tries.1) in
    let again : cast_row book_table (drop 0 row) ≡ row = rw (cast_int (pos 1), cast_null) refl in
    let numbered = subst Numbered (sym holds.book) (book_numbered held kept.last kept.applied) in
    let same : put_row (cast_row book_table (drop 0 row)) (without_rowid (pos 1) (db 0))
    ≡ put_row (cast_row book_table (drop 0 row)) (db 0) = rw (again, holds.book, equal_to 1) refl in
    let put = clears old.step_limit (mode_of old).keys params book_table (λ gone news. refl) 1 row db found.0 one
    numbered refl found.1 same found.2 in
    let all : new.now.trees ≡ one.trees = ap (λ (d : Database). d.trees) now ∙ trees ∙ last_trees in
    let rows : put_row (cast_row book_table (drop 0 row)) (db 0) ≡ row ∷ [] = rw (again, holds.book, equal_to 1) refl in
    record {
      schema = ap (λ (d : Database). d.schema) now;
      book = ap (λ (t : Trees). t 0) all ∙ put.0 ∙ rows;
      accounts = ap (λ (t : Trees). t 1) all ∙ put.1 1 (λ e. omega (arith, e)) ∙ holds.accounts;
    }

-- ---- an account

-- the values of an account's balances, after its place
abbrev pub placed_balances : ℕ → BookEntry → Row
placed_balances place entry = Int (pos place) ∷ balance_values entry

-- the values of an account of which this is known, after its place
abbrev pub placed : ℕ → Option Details → BookEntry → Row
placed place details entry = Int (pos place) ∷ values_of details entry

-- the statement that puts the row of an account of which only the balances are known
abbrev pub rebare_text : List ℕ
rebare_text =
    codes "INSERT OR REPLACE INTO accounts (place, id, debits_pending, debits_posted, credits_pending, credits_posted) VALUES (?1, ?2, ?3, ?4, ?5, ?6)"

abbrev rebare_terms : List Term
rebare_terms = col 0 0 ∷ lit Null ∷ col 0 1 ∷ col 0 2 ∷ col 0 3 ∷ col 0 4 ∷ col 0 5 ∷ lit Null ∷ lit Null ∷ lit Null ∷ lit Null
    ∷ lit Null ∷ lit Null ∷ lit Null ∷ []

rebare_is : command_of (understood book_schema rebare_text) ≡ InsertOr 1 Replace (Values rebare_terms 14) []
unfolding understood everything
rebare_is = refl

rebare_plain : IsPlain (understood book_schema rebare_text)
unfolding understood everything
rebare_plain = (refl, refl)

-- its row is put at its place
pub replaces_bare : (old new : State) (held : List ℕ) (kept : SubscriberState) (known : ℕ → Option Details)
    (place : ℕ) (entry : BookEntry) (r : Result ℕ Error) → HoldsBook held kept known old.now
    → are_distinct (ids_of kept.book) ≡ true → place ≡ suc (place_in kept.book entry.id)
    → Executes rebare_text (placed_balances place entry) old new r
    → OnOk r (HoldsBook held (record kept { book = put entry kept.book })
    (with_details entry.id (None) known) new.now)
replaces_bare old new held kept known place entry (Err e) holds distinct is h = tt
replaces_bare old new held kept known place entry (Ok count) holds distinct is h =
    let params = placed_balances place entry in
    let db = old.now.trees in
    let command = InsertOr 1 Replace (Values rebare_terms 14) [] in
    let w = runs_as rebare_text params old new book_schema holds.schema command rebare_is rebare_plain count h in
    let sql = statement_of rebare_text (understood book_schema rebare_text) in
    let done = went
    (subst (λ s. Does old.step_limit (mode_of old) params (record old.now { schema = s }) sql None command
    (Ok (w.tally, new.now))) holds.schema w.changed) in
    let now = ap (λ (p : Tally × Database). p.1) (same_value (went (went done.2).2).2) in
    let given = went done.1 in
    let counter = went given.2 in
    let each = went counter.2 in
    let counted = went each.2 in
    let trees : done.0.trees ≡ each.0.0.trees = ap (λ (it : Written). it.trees) (same_value counted.2)
    ∙ same_value counted.1 in
    let row = entry_row (None) place entry in
    let it = task old.step_limit (mode_of old).keys params account_table (λ gone news. refl) in
    let tries = went (subst (λ rows. TriesEach it Replace [] rows (count_of counter.0) (nothing db) (Ok each.0))
    given.1.1 each.1) in
    let one = tries.0 in
    let last_trees : each.0.0.trees ≡ one.trees = ap (λ (p : Written × ℤ). p.0.trees) (same_value tries.2) in
    let new_is : with_rowid Chosen (db 1) (cast_row account_table (mended Replace account_table row)) ≡ row =
    rw (cast_int (pos place), cast_null) refl in
    let found = tried old.step_limit (mode_of old).keys params account_table (λ gone news. refl) row db one
    (subst (λ n. Tries it Replace [] n db (Ok one)) new_is tries.1) in
    let again : cast_row account_table (drop 0 row) ≡ row = rw (cast_int (pos place), cast_null) refl in
    let numbered = subst Numbered (sym holds.accounts) (entries_numbered known 1 kept.book) in
    let same : put_row (cast_row account_table (drop 0 row)) (without_rowid (pos place) (db 1))
    ≡ put_row (cast_row account_table (drop 0 row)) (db 1) =
    rw (again, holds.accounts) (put_without known place 1 row kept.book refl) in
    let put_row_is = clears old.step_limit (mode_of old).keys params account_table (λ gone news. refl) place row db
    found.0 one numbered refl found.1 same found.2 in
    let all : new.now.trees ≡ one.trees = ap (λ (d : Database). d.trees) now ∙ trees ∙ last_trees in
    let at : row ≡ entry_row (None) (1 + place_in kept.book entry.id) entry =
    ap (λ n. entry_row (None) n entry) (is ∙ omega arith) in
    let rows : put_row (cast_row account_table (drop 0 row)) (db 1)
    ≡ rows_from (with_details entry.id (None) known) 1 (put entry kept.book) =
    rw (again, holds.accounts) (put_at known 1 entry (None) kept.book row distinct at) in
    record {
      schema = ap (λ (d : Database). d.schema) now;
      book = ap (λ (t : Trees). t 0) all ∙ put_row_is.1 0 (λ e. omega (arith, e)) ∙ holds.book;
      accounts = ap (λ (t : Trees). t 1) all ∙ put_row_is.0 ∙ rows;
    }

-- the statement that puts the row of an account with its details
abbrev pub reknown_text : List ℕ
reknown_text =
    codes "INSERT OR REPLACE INTO accounts (place, id, debits_pending, debits_posted, credits_pending, credits_posted, last_timestamp, ledger, code, flags, user_data_128, user_data_64, user_data_32) VALUES (?1, ?2, ?3, ?4, ?5, ?6, ?7, ?8, ?9, ?10, ?11, ?12, ?13)"

abbrev reknown_terms : List Term
reknown_terms = col 0 0 ∷ lit Null ∷ col 0 1 ∷ col 0 2 ∷ col 0 3 ∷ col 0 4 ∷ col 0 5 ∷ col 0 6 ∷ col 0 7 ∷ col 0 8
    ∷ col 0 9 ∷ col 0 10 ∷ col 0 11 ∷ col 0 12 ∷ []

reknown_is : command_of (understood book_schema reknown_text) ≡ InsertOr 1 Replace (Values reknown_terms 14) []
unfolding understood everything
reknown_is = refl

reknown_plain : IsPlain (understood book_schema reknown_text)
unfolding understood everything
reknown_plain = (refl, refl)

-- its row is put at its place
pub replaces_known : (old new : State) (held : List ℕ) (kept : SubscriberState) (known : ℕ → Option Details)
    (place : ℕ) (entry : BookEntry) (details : Details) (r : Result ℕ Error) → HoldsBook held kept known old.now
    → are_distinct (ids_of kept.book) ≡ true → place ≡ suc (place_in kept.book entry.id)
    → Executes reknown_text (placed place (Some details) entry) old new r
    → OnOk r (HoldsBook held (record kept { book = put entry kept.book })
    (with_details entry.id (Some details) known) new.now)
replaces_known old new held kept known place entry details (Err e) holds distinct is h = tt
replaces_known old new held kept known place entry details (Ok count) holds distinct is h =
    let params = placed place (Some details) entry in
    let db = old.now.trees in
    let command = InsertOr 1 Replace (Values reknown_terms 14) [] in
    let w = runs_as reknown_text params old new book_schema holds.schema command reknown_is reknown_plain count h in
    let sql = statement_of reknown_text (understood book_schema reknown_text) in
    let done = went
    (subst (λ s. Does old.step_limit (mode_of old) params (record old.now { schema = s }) sql None command
    (Ok (w.tally, new.now))) holds.schema w.changed) in
    let now = ap (λ (p : Tally × Database). p.1) (same_value (went (went done.2).2).2) in
    let given = went done.1 in
    let counter = went given.2 in
    let each = went counter.2 in
    let counted = went each.2 in
    let trees : done.0.trees ≡ each.0.0.trees = ap (λ (it : Written). it.trees) (same_value counted.2)
    ∙ same_value counted.1 in
    let row = entry_row (Some details) place entry in
    let it = task old.step_limit (mode_of old).keys params account_table (λ gone news. refl) in
    let tries = went (subst (λ rows. TriesEach it Replace [] rows (count_of counter.0) (nothing db) (Ok each.0))
    given.1.1 each.1) in
    let one = tries.0 in
    let last_trees : each.0.0.trees ≡ one.trees = ap (λ (p : Written × ℤ). p.0.trees) (same_value tries.2) in
    let new_is : with_rowid Chosen (db 1) (cast_row account_table (mended Replace account_table row)) ≡ row =
    rw (cast_int (pos place), cast_null, cast_int (pos details.ledger), cast_int (pos details.code), cast_int (pos details.flags), cast_int (pos details.user_data_32)) refl in
    let found = tried old.step_limit (mode_of old).keys params account_table (λ gone news. refl) row db one
    (subst (λ n. Tries it Replace [] n db (Ok one)) new_is tries.1) in
    let again : cast_row account_table (drop 0 row) ≡ row = rw (cast_int (pos place), cast_null, cast_int (pos details.ledger), cast_int (pos details.code), cast_int (pos details.flags), cast_int (pos details.user_data_32)) refl in
    let numbered = subst Numbered (sym holds.accounts) (entries_numbered known 1 kept.book) in
    let same : put_row (cast_row account_table (drop 0 row)) (without_rowid (pos place) (db 1))
    ≡ put_row (cast_row account_table (drop 0 row)) (db 1) =
    rw (again, holds.accounts) (put_without known place 1 row kept.book refl) in
    let put_row_is = clears old.step_limit (mode_of old).keys params account_table (λ gone news. refl) place row db
    found.0 one numbered refl found.1 same found.2 in
    let all : new.now.trees ≡ one.trees = ap (λ (d : Database). d.trees) now ∙ trees ∙ last_trees in
    let at : row ≡ entry_row (Some details) (1 + place_in kept.book entry.id) entry =
    ap (λ n. entry_row (Some details) n entry) (is ∙ omega arith) in
    let rows : put_row (cast_row account_table (drop 0 row)) (db 1)
    ≡ rows_from (with_details entry.id (Some details) known) 1 (put entry kept.book) =
    rw (again, holds.accounts) (put_at known 1 entry (Some details) kept.book row distinct at) in
    record {
      schema = ap (λ (d : Database). d.schema) now;
      book = ap (λ (t : Trees). t 0) all ∙ put_row_is.1 0 (λ e. omega (arith, e)) ∙ holds.book;
      accounts = ap (λ (t : Trees). t 1) all ∙ put_row_is.0 ∙ rows;
    }
