-- What DROP TABLE leaves.
use Rattle.std.proofs.Common.{◌≡◌, inl, inr, ℕ, List, [], codes, None, Ok, Err, Result, OnOk, refl, ap, subst, ◌∙◌}
use Rattle.sqlite.specs.Command.TheVariants.{DropTable}
use Rattle.sqlite.specs.Does.{Tally, Does}
use Rattle.sqlite_tied.specs.Compute.{everything}
use Rattle.sqlite.specs.declared.error.Error.{Error}
use Rattle.sqlite.specs.Listing.{understood}
use Rattle.sqlite.specs.Effect.{Database}
use Rattle.sqlite.specs.State.{State, mode_of, Executes}
use Rattle.sqlite.proofs.Callers.{IsPlain, command_of, statement_of, runs_as}
use Rattle.cdc_sqlite_book.specs.Tables.{no_schema, book_only, book_schema, earlier_schema, HasTables}
use Rattle.cdc_sqlite_book.proofs.CreateLemmas.{went, same_value}

-- the statement that drops the second table
abbrev pub drop_accounts_text : List ℕ
drop_accounts_text = codes "DROP TABLE accounts"

accounts_is : command_of (understood book_schema drop_accounts_text) ≡ DropTable 1
unfolding understood everything
accounts_is = refl

accounts_plain : IsPlain (understood book_schema drop_accounts_text)
unfolding understood everything
accounts_plain = (refl, refl)

-- the second table is dropped
pub drops_accounts : (old new : State) (r : Result ℕ Error) → old.now.schema ≡ book_schema
    → Executes drop_accounts_text [] old new r → OnOk r (new.now.schema ≡ book_only)
drops_accounts old new (Err e) has h = tt
drops_accounts old new (Ok count) has h =
    let w = runs_as drop_accounts_text [] old new book_schema has (DropTable 1) accounts_is accounts_plain count h in
    let text = statement_of drop_accounts_text (understood book_schema drop_accounts_text) in
    let emptied =
    went (subst
    (λ s. Does old.step_limit (mode_of old) [] (record old.now { schema = s }) text None (DropTable 1)
    (Ok (w.tally, new.now))) has w.changed) in
    let left = went (went (went emptied.2).2).2 in
    let now = ap (λ (p : Tally × Database). p.1) (same_value left.2) in
    ap (λ (d : Database). d.schema) now ∙ left.1.0

earlier_is : command_of (understood earlier_schema drop_accounts_text) ≡ DropTable 1
unfolding understood everything
earlier_is = refl

earlier_plain : IsPlain (understood earlier_schema drop_accounts_text)
unfolding understood everything
earlier_plain = (refl, refl)

-- so is that of an earlier version
pub drops_earlier : (old new : State) (r : Result ℕ Error) → old.now.schema ≡ earlier_schema
    → Executes drop_accounts_text [] old new r → OnOk r (new.now.schema ≡ book_only)
drops_earlier old new (Err e) has h = tt
drops_earlier old new (Ok count) has h =
    let w = runs_as drop_accounts_text [] old new earlier_schema has (DropTable 1) earlier_is earlier_plain count h in
    let text = statement_of drop_accounts_text (understood earlier_schema drop_accounts_text) in
    let emptied =
    went (subst
    (λ s. Does old.step_limit (mode_of old) [] (record old.now { schema = s }) text None (DropTable 1)
    (Ok (w.tally, new.now))) has w.changed) in
    let left = went (went (went emptied.2).2).2 in
    let now = ap (λ (p : Tally × Database). p.1) (same_value left.2) in
    ap (λ (d : Database). d.schema) now ∙ left.1.0

-- the table of accounts is dropped, of this version or an earlier one
pub drops_either : (old new : State) (r : Result ℕ Error) → HasTables old.now.schema
    → Executes drop_accounts_text [] old new r → OnOk r (new.now.schema ≡ book_only)
drops_either old new r (inl has) h = drops_accounts old new r has h
drops_either old new r (inr has) h = drops_earlier old new r has h

-- the statement that drops the first table
abbrev pub drop_book_text : List ℕ
drop_book_text = codes "DROP TABLE book"

book_is : command_of (understood book_only drop_book_text) ≡ DropTable 0
unfolding understood everything
book_is = refl

book_plain : IsPlain (understood book_only drop_book_text)
unfolding understood everything
book_plain = (refl, refl)

-- the first table is dropped
pub drops_book : (old new : State) (r : Result ℕ Error) → old.now.schema ≡ book_only
    → Executes drop_book_text [] old new r → OnOk r (new.now.schema ≡ no_schema)
drops_book old new (Err e) has h = tt
drops_book old new (Ok count) has h =
    let w = runs_as drop_book_text [] old new book_only has (DropTable 0) book_is book_plain count h in
    let text = statement_of drop_book_text (understood book_only drop_book_text) in
    let emptied =
    went (subst
    (λ s. Does old.step_limit (mode_of old) [] (record old.now { schema = s }) text None (DropTable 0)
    (Ok (w.tally, new.now))) has w.changed) in
    let left = went (went (went emptied.2).2).2 in
    let now = ap (λ (p : Tally × Database). p.1) (same_value left.2) in
    ap (λ (d : Database). d.schema) now ∙ left.1.0
