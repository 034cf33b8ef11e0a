-- What INSERT adds.
use Rattle.std.proofs.Common.{◌≡◌, ℕ, ℤ, pos, ◌+◌, List, [], ◌∷◌, ◌++◌, length, codes, decimal, Bool, true, false, cond, Option, None, Some, Ok, Err, Result, OnOk, refl, sym, ap, subst, ◌∙◌, arith}
use Rattle.sqlite.specs.declared.types.Value.{Value}
use Rattle.sqlite.specs.declared.types.Value.TheVariants.{Null, Int, Text, Blob}
use Rattle.sqlite.specs.Order.{Row}
use Rattle.sqlite.specs.Term.{Term, lit, col}
use Rattle.sqlite.specs.Ops.{unary}
use Rattle.sqlite.specs.Kind.TheVariants.{Integer}
use Rattle.sqlite.specs.Source.TheVariants.{Values}
use Rattle.sqlite.specs.Command.TheVariants.{Insert}
use Rattle.sqlite.specs.Edit.{edit_of, edited, next_rowid}
use Rattle.sqlite.specs.Cast.{cast}
use Rattle.sqlite.specs.Rowids.TheVariants.{Chosen}
use Rattle.sqlite.specs.Does.{Tally, Does}
use Rattle.sqlite.specs.Rows.{Written}
use Rattle.sqlite.specs.Tree.{Trees, put_row}
use Rattle.sqlite_tied.specs.Compute.{everything}
use Rattle.sqlite.specs.declared.error.Error.{Error}
use Rattle.sqlite.specs.Listing.{understood}
use Rattle.sqlite.specs.Effect.{Database}
use Rattle.sqlite.specs.State.{State, mode_of, Executes}
use Rattle.sqlite.proofs.Callers.{IsPlain, command_of, statement_of, runs_as, one_step}
use Rattle.cdc_subscriber.specs.declared.book.BookEntry.{BookEntry}
use Rattle.cdc_book_log.specs.declared.details.Details.{Details}
use Rattle.cdc_sqlite_book.specs.Tables.{book_schema, book_table, account_table, book_row, detail_values, entry_row, rows_from}
use Rattle.cdc_sqlite_book.proofs.CreateLemmas.{went, same_value}
use Rattle.cdc_sqlite_book.proofs.RowLemmas.{put_end, rows_end, next_is}

-- whatever a test comes to, one value comes out of it
pub either : (b : Bool) (x : Value) → cond b x x ≡ x
either true x = refl
either false x = refl

-- nothing stays nothing
pub cast_null : cast Integer Null ≡ Null
unfolding unary
cast_null = either _ Null

-- a whole number stays
pub cast_int : (n : ℤ) → cast Integer (Int n) ≡ Int n
unfolding unary
cast_int n = either _ (Int n)

-- the statement that inserts the book's text
abbrev pub text_text : List ℕ
text_text = codes "INSERT INTO book (text, last, applied) VALUES (?1, ?2, ?3)"

abbrev text_terms : List Term
text_terms = lit Null ∷ lit Null ∷ col 0 0 ∷ col 0 1 ∷ col 0 2 ∷ []

text_is : command_of (understood book_schema text_text) ≡ Insert 0 (Values text_terms 5)
unfolding understood everything
text_is = refl

text_plain : IsPlain (understood book_schema text_text)
unfolding understood everything
text_plain = (refl, refl)

-- the values of the book's row
abbrev pub progress_of : List ℕ → ℕ → ℕ → Row
progress_of text last applied = Blob text ∷ Text (decimal last) ∷ Text (decimal applied) ∷ []

-- the row of the book's text is added
pub puts_text : (old new : State) (text : List ℕ) (last applied : ℕ) (r : Result ℕ Error) → old.now.schema ≡ book_schema
    → old.now.trees 0 ≡ []
    → Executes text_text (progress_of text last applied) old new r
    → OnOk r (new.now.schema ≡ book_schema) × OnOk r (new.now.trees 0 ≡ book_row text last applied ∷ [])
    × OnOk r (new.now.trees 1 ≡ old.now.trees 1)
puts_text old new text last applied (Err e) has none h = (tt, tt, tt)
puts_text old new text last applied (Ok count) has none h =
    let params = progress_of text last applied in
    let db = old.now.trees in
    let command = Insert 0 (Values text_terms 5) in
    let w = runs_as text_text params old new book_schema has command text_is text_plain count h in
    let sql = statement_of text_text (understood book_schema text_text) in
    let done = went
    (subst (λ s. Does old.step_limit (mode_of old) params (record old.now { schema = s }) sql None command
    (Ok (w.tally, new.now))) has w.changed) in
    let now = ap (λ (p : Tally × Database). p.1) (same_value (went (went done.2).2).2) in
    let given = went done.1 in
    let written = went (went given.2).2 in
    let counted = went written.2 in
    let trees : done.0.trees ≡ written.0 = ap (λ (it : Written). it.trees) (same_value counted.2)
    ∙ same_value counted.1 in
    let step = one_step book_schema _ db written.0 (edit_of db book_table [] Chosen 0 given.0) refl written.1 in
    let edit : edited db (edit_of db book_table [] Chosen 0 given.0) ≡ book_row text last applied ∷ [] =
    ap (λ all. edited db (edit_of db book_table [] Chosen 0 all)) given.1.1 ∙ rw (none, cast_null) in
    let other : written.0 1 ≡ db 1 = step.tables.1.0 (λ e. omega (arith, e)) in (
      ap (λ (d : Database). d.schema) now,
      ap (λ (d : Database). d.trees 0) now ∙ ap (λ (t : Trees). t 0) trees ∙ step.rows ∙ edit,
      ap (λ (d : Database). d.trees 1) now ∙ ap (λ (t : Trees). t 1) trees ∙ other,
    )

-- the values of an account's balances
abbrev pub balance_values : BookEntry → Row
balance_values entry =
    Text (decimal entry.id) ∷ Text (decimal entry.balances.debits_pending) ∷ Text (decimal entry.balances.debits_posted)
    ∷ Text (decimal entry.balances.credits_pending) ∷ Text (decimal entry.balances.credits_posted) ∷ []

-- the values of an account of which this is known
abbrev pub values_of : Option Details → BookEntry → Row
values_of details entry =
    Text (decimal entry.id) ∷ Text (decimal entry.balances.debits_pending) ∷ Text (decimal entry.balances.debits_posted)
    ∷ Text (decimal entry.balances.credits_pending) ∷ Text (decimal entry.balances.credits_posted)
    ∷ detail_values details

-- a row without a number gets the next one, and comes last
adds_row : (known : ℕ → Option Details) (entries : List BookEntry) (entry : BookEntry) (details : Option Details)
    → known entry.id ≡ details
    → put_row (Int (next_rowid (rows_from known 1 entries)) ∷ Null ∷ values_of details entry) (rows_from known 1 entries)
    ≡ rows_from known 1 (entries ++ entry ∷ [])
adds_row known entries entry details is =
    ap (λ d. put_row (Int (next_rowid (rows_from known 1 entries)) ∷ Null ∷ values_of d entry)
    (rows_from known 1 entries)) (sym is)
    ∙ ap (λ n. put_row (Int n ∷ Null ∷ values_of (known entry.id) entry) (rows_from known 1 entries))
    (next_is known entries)
    ∙ put_end known (entry_row (known entry.id) (1 + length entries) entry) 1 entries refl
    ∙ sym (rows_end known 1 entries entry)

-- the statement that inserts an account of which only the balances are known
abbrev pub bare_text : List ℕ
bare_text =
    codes "INSERT INTO accounts (id, debits_pending, debits_posted, credits_pending, credits_posted) VALUES (?1, ?2, ?3, ?4, ?5)"

abbrev bare_terms : List Term
bare_terms = lit Null ∷ lit Null ∷ col 0 0 ∷ col 0 1 ∷ col 0 2 ∷ col 0 3 ∷ col 0 4 ∷ lit Null ∷ lit Null ∷ lit Null ∷ lit Null
    ∷ lit Null ∷ lit Null ∷ lit Null ∷ []

bare_is : command_of (understood book_schema bare_text) ≡ Insert 1 (Values bare_terms 14)
unfolding understood everything
bare_is = refl

bare_plain : IsPlain (understood book_schema bare_text)
unfolding understood everything
bare_plain = (refl, refl)

-- its row is added after the others
pub puts_bare : (old new : State) (known : ℕ → Option Details) (entries : List BookEntry) (entry : BookEntry)
    (r : Result ℕ Error) → old.now.schema ≡ book_schema → old.now.trees 1 ≡ rows_from known 1 entries
    → Executes bare_text (balance_values entry) old new r
    → OnOk r (new.now.schema ≡ book_schema) × OnOk r (new.now.trees 0 ≡ old.now.trees 0)
    × (known entry.id ≡ None → OnOk r (new.now.trees 1 ≡ rows_from known 1 (entries ++ entry ∷ [])))
puts_bare old new known entries entry (Err e) has rows h = (tt, tt, λ _. tt)
puts_bare old new known entries entry (Ok count) has rows h =
    let params = balance_values entry in
    let db = old.now.trees in
    let command = Insert 1 (Values bare_terms 14) in
    let w = runs_as bare_text params old new book_schema has command bare_is bare_plain count h in
    let sql = statement_of bare_text (understood book_schema bare_text) in
    let done = went
    (subst (λ s. Does old.step_limit (mode_of old) params (record old.now { schema = s }) sql None command
    (Ok (w.tally, new.now))) has w.changed) in
    let now = ap (λ (p : Tally × Database). p.1) (same_value (went (went done.2).2).2) in
    let given = went done.1 in
    let written = went (went given.2).2 in
    let counted = went written.2 in
    let trees : done.0.trees ≡ written.0 = ap (λ (it : Written). it.trees) (same_value counted.2)
    ∙ same_value counted.1 in
    let step = one_step book_schema _ db written.0 (edit_of db account_table [] Chosen 0 given.0) refl written.1 in
    let edit : known entry.id ≡ None
    → edited db (edit_of db account_table [] Chosen 0 given.0) ≡ rows_from known 1 (entries ++ entry ∷ []) =
    λ is. ap (λ all. edited db (edit_of db account_table [] Chosen 0 all)) given.1.1
    ∙ rw (rows, cast_null) (adds_row known entries entry (None) is) in
    let other : written.0 0 ≡ db 0 = step.tables.0 (λ e. omega (arith, e)) in (
      ap (λ (d : Database). d.schema) now,
      ap (λ (d : Database). d.trees 0) now ∙ ap (λ (t : Trees). t 0) trees ∙ other,
      λ is. ap (λ (d : Database). d.trees 1) now ∙ ap (λ (t : Trees). t 1) trees ∙ step.rows ∙ edit is,
    )

-- the statement that inserts an account with its details
abbrev pub known_text : List ℕ
known_text =
    codes "INSERT INTO accounts (id, debits_pending, debits_posted, credits_pending, credits_posted, last_timestamp, ledger, code, flags, user_data_128, user_data_64, user_data_32) VALUES (?1, ?2, ?3, ?4, ?5, ?6, ?7, ?8, ?9, ?10, ?11, ?12)"

abbrev known_terms : List Term
known_terms = lit Null ∷ lit Null ∷ col 0 0 ∷ col 0 1 ∷ col 0 2 ∷ col 0 3 ∷ col 0 4 ∷ col 0 5 ∷ col 0 6 ∷ col 0 7 ∷ col 0 8
    ∷ col 0 9 ∷ col 0 10 ∷ col 0 11 ∷ []

known_is : command_of (understood book_schema known_text) ≡ Insert 1 (Values known_terms 14)
unfolding understood everything
known_is = refl

known_plain : IsPlain (understood book_schema known_text)
unfolding understood everything
known_plain = (refl, refl)

-- its row is added after the others
pub puts_known : (old new : State) (known : ℕ → Option Details) (entries : List BookEntry) (entry : BookEntry)
    (details : Details) (r : Result ℕ Error) → old.now.schema ≡ book_schema → old.now.trees 1 ≡ rows_from known 1 entries
    → Executes known_text (values_of (Some details) entry) old new r
    → OnOk r (new.now.schema ≡ book_schema) × OnOk r (new.now.trees 0 ≡ old.now.trees 0)
    × (known entry.id ≡ Some details → OnOk r (new.now.trees 1 ≡ rows_from known 1 (entries ++ entry ∷ [])))
puts_known old new known entries entry details (Err e) has rows h = (tt, tt, λ _. tt)
puts_known old new known entries entry details (Ok count) has rows h =
    let params = values_of (Some details) entry in
    let db = old.now.trees in
    let command = Insert 1 (Values known_terms 14) in
    let w = runs_as known_text params old new book_schema has command known_is known_plain count h in
    let sql = statement_of known_text (understood book_schema known_text) in
    let done = went
    (subst (λ s. Does old.step_limit (mode_of old) params (record old.now { schema = s }) sql None command
    (Ok (w.tally, new.now))) has w.changed) in
    let now = ap (λ (p : Tally × Database). p.1) (same_value (went (went done.2).2).2) in
    let given = went done.1 in
    let written = went (went given.2).2 in
    let counted = went written.2 in
    let trees : done.0.trees ≡ written.0 = ap (λ (it : Written). it.trees) (same_value counted.2)
    ∙ same_value counted.1 in
    let step = one_step book_schema _ db written.0 (edit_of db account_table [] Chosen 0 given.0) refl written.1 in
    let edit : known entry.id ≡ Some details
    → edited db (edit_of db account_table [] Chosen 0 given.0) ≡ rows_from known 1 (entries ++ entry ∷ []) =
    λ is. ap (λ all. edited db (edit_of db account_table [] Chosen 0 all)) given.1.1
    ∙ rw (rows, cast_null, cast_int (pos details.ledger), cast_int (pos details.code), cast_int (pos details.flags), cast_int (pos details.user_data_32)) (adds_row known entries entry (Some details) is) in
    let other : written.0 0 ≡ db 0 = step.tables.0 (λ e. omega (arith, e)) in (
      ap (λ (d : Database). d.schema) now,
      ap (λ (d : Database). d.trees 0) now ∙ ap (λ (t : Trees). t 0) trees ∙ other,
      λ is. ap (λ (d : Database). d.trees 1) now ∙ ap (λ (t : Trees). t 1) trees ∙ step.rows ∙ edit is,
    )
