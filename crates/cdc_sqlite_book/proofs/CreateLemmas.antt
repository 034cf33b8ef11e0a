-- What CREATE TABLE makes.
use Rattle.std.proofs.Common.{◌≡◌, ◌⊎◌, inl, inr, ℕ, List, [], codes, false, IsTrue, None, Ok, Err, Result, OnOk, refl, sym, ap, subst, ◌∙◌}
use Rattle.std.proofs.lemmas.Bool.{cases_Bool}
use Rattle.sqlite.specs.Order.{Row}
use Rattle.sqlite.specs.Schema.{Schema}
use Rattle.sqlite.specs.Command.TheVariants.{CreateTable}
use Rattle.sqlite.specs.Compile.{table_defined_by}
use Rattle.sqlite.specs.Change.{created, next_tree, KeepsRows}
use Rattle.sqlite.specs.Does.{Tally, lacks_sequence}
use Rattle.sqlite_tied.specs.Compute.{everything}
use Rattle.sqlite.specs.declared.error.Error.{Error}
use Rattle.sqlite.specs.Listing.{understood}
use Rattle.sqlite.specs.Effect.{Database}
use Rattle.sqlite.specs.State.{State, Writes, Executes, ExecutesInside}
use Rattle.sqlite.proofs.Callers.{IsPlain, command_of, statement_of, runs_as}
use Rattle.cdc_sqlite_book.specs.Tables.{no_schema, book_table, account_table, book_only, book_schema}

-- a part that gave a value didn't stop
pub went : {B E R : Type 0} {b : B} {Stops : E → Type 0} → ((stop : E) × Stops stop × (Ok b ≡ Err stop)) ⊎ R → R
went (inl stopped) = absurd (let e = stopped.2 in cc)
went (inr on) = on

-- equal results have equal values
pub same_value : {B E : Type 0} {a b : B} → ◌≡◌ {A = Result B E} (Ok a) (Ok b) → a ≡ b
same_value e = cc

-- a statement inside a transaction ran, or it failed
pub ran : (sql : List ℕ) (params : Row) (old new : State) (r : Result ℕ Error) (P X : Type 0) (gone : Error)
    → (old.in_transaction ≡ false → (r ≡ Err gone) × X)
    → (IsTrue old.in_transaction → ExecutesInside 0 sql params old new r)
    → (Executes sql params old new r → OnOk r P) → OnOk r P
ran sql params old new (Err e) P X gone ended runs f = tt
ran sql params old new (Ok count) P X gone ended runs f = elim (cases_Bool old.in_transaction) [
  | inl inside ↦ f (runs inside).0
  | inr none ↦ absurd (let e = (ended none).0 in cc)
]

-- the statement of the first table
abbrev pub book_text : List ℕ
book_text =
    codes "CREATE TABLE book (id INTEGER PRIMARY KEY, text BLOB NOT NULL, last TEXT NOT NULL, applied TEXT NOT NULL) STRICT"

book_is : (command_of (understood no_schema book_text) ≡ CreateTable)
    × (statement_of book_text (understood no_schema book_text) ≡ book_text)
    × (table_defined_by book_text ≡ Ok book_table)
unfolding understood everything
book_is = (refl, refl, refl)

book_plain : IsPlain (understood no_schema book_text)
unfolding understood everything
book_plain = (refl, refl)

-- the first table is made
pub makes_book : (old new : State) (r : Result ℕ Error) → old.now.schema ≡ no_schema → Executes book_text [] old new r
    → OnOk r (new.now.schema ≡ book_only) × OnOk r (new.now.trees 0 ≡ [])
makes_book old new (Err e) has h = (tt, tt)
makes_book old new (Ok count) has h =
    let w = subst (λ t. Writes old new None CreateTable t [] count) book_is.1
    (runs_as book_text [] old new no_schema has CreateTable book_is.0 book_plain count h) in
    let all = went w.changed in
    let first = went all.1 in
    let made = first.1 in
    let both : Ok made.table ≡ Ok book_table = sym made.defined ∙ book_is.2 in
    let same : made.table ≡ book_table = cc in
    let schema : first.0.schema ≡ book_only = made.is ∙ ap (λ s. created s made.table) has
    ∙ ap (created no_schema) same in
    let plain : lacks_sequence first.0.schema ≡ false = ap lacks_sequence schema in
    let now : new.now ≡ first.0 = ap (λ (p : Tally × Database). p.1) (same_value all.2)
    ∙ same_value (rw plain at first.2) in (
      ap (λ (d : Database). d.schema) now ∙ schema,
      ap (λ (d : Database). d.trees 0) now
          ∙ subst (λ s. first.0.trees (next_tree s) ≡ []) has made.empty,
    )

-- the statement of the second table
abbrev pub accounts_text : List ℕ
accounts_text =
    codes "CREATE TABLE accounts (place INTEGER PRIMARY KEY, id TEXT NOT NULL, debits_pending TEXT NOT NULL, debits_posted TEXT NOT NULL, credits_pending TEXT NOT NULL, credits_posted TEXT NOT NULL, last_timestamp TEXT, ledger INTEGER, code INTEGER, flags INTEGER, user_data_128 TEXT, user_data_64 TEXT, user_data_32 INTEGER) STRICT"

-- (a table gets its tree where it is made)
accounts_is : (command_of (understood book_only accounts_text) ≡ CreateTable)
    × (statement_of accounts_text (understood book_only accounts_text) ≡ accounts_text)
    × (table_defined_by accounts_text ≡ Ok (record account_table { tree = 0 }))
unfolding understood everything
accounts_is = (refl, refl, refl)

accounts_plain : IsPlain (understood book_only accounts_text)
unfolding understood everything
accounts_plain = (refl, refl)

-- the second table is made
pub makes_accounts : (old new : State) (r : Result ℕ Error) → old.now.schema ≡ book_only
    → Executes accounts_text [] old new r
    → OnOk r (new.now.schema ≡ book_schema) × OnOk r (new.now.trees 1 ≡ []) × OnOk r (new.now.trees 0 ≡ old.now.trees 0)
makes_accounts old new (Err e) has h = (tt, tt, tt)
makes_accounts old new (Ok count) has h =
    let w = subst (λ t. Writes old new None CreateTable t [] count) accounts_is.1
    (runs_as accounts_text [] old new book_only has CreateTable accounts_is.0 accounts_plain count h) in
    let all = went w.changed in
    let first = went all.1 in
    let made = first.1 in
    let both : Ok made.table ≡ Ok (record account_table { tree = 0 }) = sym made.defined ∙ accounts_is.2 in
    let same : made.table ≡ record account_table { tree = 0 } = cc in
    let schema : first.0.schema ≡ book_schema = made.is ∙ ap (λ s. created s made.table) has
    ∙ ap (created book_only) same in
    let plain : lacks_sequence first.0.schema ≡ false = ap lacks_sequence schema in
    let now : new.now ≡ first.0 = ap (λ (p : Tally × Database). p.1) (same_value all.2)
    ∙ same_value (rw plain at first.2) in
    let others : KeepsRows book_only.tables old.now.trees first.0.trees =
    subst (λ (s : Schema). KeepsRows s.tables old.now.trees first.0.trees) has made.others in (
      ap (λ (d : Database). d.schema) now ∙ schema,
      ap (λ (d : Database). d.trees 1) now ∙ subst (λ s. first.0.trees (next_tree s) ≡ []) has made.empty,
      ap (λ (d : Database). d.trees 0) now ∙ others.0,
    )
