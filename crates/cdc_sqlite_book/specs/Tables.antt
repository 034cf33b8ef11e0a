-- The tables of a book in SQLite.
use Rattle.std.specs.Prelude.{◌≡◌, ◌==◌, ◌⊎◌, ◌++◌, Bool, true, false, [], ◌∷◌, Option, Some, None, codes, decimal, is_some, List, ℕ, suc, pos}
use Rattle.std.specs.Prelude.{if◌then◌else◌}
use Rattle.sqlite.specs.Collation.TheVariants.{Binary}
use Rattle.sqlite.specs.declared.types.Value.TheVariants.{Null, Int, Text as Words, Blob as Bytes}
use Rattle.sqlite.specs.Order.{Row}
use Rattle.sqlite.specs.Table.{Table}
use Rattle.sqlite_schema.specs.declared.schema.Column.{Column}
use Rattle.sqlite.specs.Schema.{Schema}
use Rattle.sqlite.specs.Tree.{Trees}
use Rattle.sqlite.specs.Effect.{Database}
use Rattle.cdc_subscriber.specs.SubscriberState.{SubscriberState}
use Rattle.cdc_subscriber.specs.declared.book.BookEntry.{BookEntry}
use Rattle.cdc_subscriber.specs.Book.{ids_of, is_among}
use Rattle.cdc_book_log.specs.declared.details.Details.{Details}
use Rattle.cdc_book_log.specs.Details.{details_in}
use Rattle.cdc_book_log.specs.Replay.{put_all}
use Rattle.sqlite.specs.Kind.{Kind}
use Rattle.sqlite.specs.Kind.TheVariants.{Integer, Text, Blob}

-- a column that holds a value of this kind in each row
abbrev pub filled : List ℕ → Kind → Column
filled name kind =
    record { name = name; kind = kind; is_strict = true; not_null = true; default = Null; collation = Binary }

-- a column that holds a value of this kind, or null
abbrev pub optional : List ℕ → Kind → Column
optional name kind =
    record { name = name; kind = kind; is_strict = true; not_null = false; default = Null; collation = Binary }

-- the column of a row's number
abbrev pub numbers : List ℕ → Column
numbers name = optional name Integer

-- a table whose first column is the row's number
abbrev pub table_of : List ℕ → ℕ → List Column → Table
table_of name tree columns = record {
  name = name;
  tree = tree;
  columns = columns;
  key = Some 0;
  primary = 0 ∷ [];
  uniques = [];
  orders = [];
  checks = [];
  references = [];
  computed = [];
  stamps = record { places = []; terms = []; formats = [] };
  is_counted = false;
}

-- the table of the book's text
abbrev pub book_table : Table
book_table = table_of (codes "book") 0
    (numbers (codes "id") ∷ filled (codes "text") Blob ∷ filled (codes "last") Text ∷ filled (codes "applied") Text
    ∷ [])

-- the columns of an account's number and balances
abbrev pub balance_columns : List Column
balance_columns =
    numbers (codes "place") ∷ filled (codes "id") Text ∷ filled (codes "debits_pending") Text
    ∷ filled (codes "debits_posted") Text ∷ filled (codes "credits_pending") Text
    ∷ filled (codes "credits_posted") Text ∷ []

-- the columns of its details
abbrev pub detail_columns : List Column
detail_columns =
    optional (codes "last_timestamp") Text ∷ optional (codes "ledger") Integer ∷ optional (codes "code") Integer
    ∷ optional (codes "flags") Integer ∷ optional (codes "user_data_128") Text ∷ optional (codes "user_data_64") Text
    ∷ optional (codes "user_data_32") Integer ∷ []

-- the table of the accounts
abbrev pub account_table : Table
account_table = table_of (codes "accounts") 1 (balance_columns ++ detail_columns)

-- the table of the accounts in a file of an earlier version
abbrev pub earlier_table : Table
earlier_table = table_of (codes "accounts") 1 balance_columns

-- the schema of an empty file
abbrev pub no_schema : Schema
no_schema = record { tables = []; indexes = []; views = [] }

-- the schema with the first table alone
abbrev pub book_only : Schema
book_only = record { tables = book_table ∷ []; indexes = []; views = [] }

-- the schema of a book
abbrev pub book_schema : Schema
book_schema = record { tables = book_table ∷ account_table ∷ []; indexes = []; views = [] }

-- the schema of a book of an earlier version
abbrev pub earlier_schema : Schema
earlier_schema = record { tables = book_table ∷ earlier_table ∷ []; indexes = []; views = [] }

-- the schema of a book, of this version or an earlier one
abbrev pub HasTables : Schema → Type 0
HasTables schema = (schema ≡ book_schema) ⊎ (schema ≡ earlier_schema)

-- the schema of a book, or of an empty file
abbrev pub IsOfBook : Schema → Type 0
IsOfBook schema = (schema ≡ no_schema) ⊎ HasTables schema

-- the schema of a file of which this is known: whether it is new
abbrev pub IsSchemaIf : Bool → Schema → Type 0
IsSchemaIf true schema = schema ≡ no_schema
IsSchemaIf false schema = HasTables schema

-- what the text of a book begins with, if its accounts are in rows of their own
abbrev pub rows_mark : List ℕ
rows_mark = codes "rows "

-- the row of the book's text, of the timestamp of the last event applied and of how many were
abbrev pub book_row : List ℕ → ℕ → ℕ → Row
book_row text last applied = Int (pos 1) ∷ Null ∷ Bytes text ∷ Words (decimal last) ∷ Words (decimal applied) ∷ []

-- the values of what is known of an account besides its balances; nulls, if nothing is
abbrev pub detail_values : Option Details → Row
detail_values None = Null ∷ Null ∷ Null ∷ Null ∷ Null ∷ Null ∷ Null ∷ []
detail_values (Some details) =
    Words (decimal details.last_timestamp) ∷ Int (pos details.ledger) ∷ Int (pos details.code)
    ∷ Int (pos details.flags) ∷ Words (decimal details.user_data_128) ∷ Words (decimal details.user_data_64)
    ∷ Int (pos details.user_data_32) ∷ []

-- the row of the account with this place, counted from 1, of which these details are known
abbrev pub entry_row : Option Details → ℕ → BookEntry → Row
entry_row details place entry =
    Int (pos place) ∷ Null ∷ Words (decimal entry.id) ∷ Words (decimal entry.balances.debits_pending)
    ∷ Words (decimal entry.balances.debits_posted) ∷ Words (decimal entry.balances.credits_pending)
    ∷ Words (decimal entry.balances.credits_posted) ∷ detail_values details

-- the rows of these accounts, the first of which has this place, by what is known of the account with each number
abbrev pub rows_from : (ℕ → Option Details) → ℕ → List BookEntry → List Row
rows_from known place [] = []
rows_from known place (entry ∷ more) = entry_row (known entry.id) place entry ∷ rows_from known (suc place) more

-- the tables hold this text, and what the subscriber keeps: its last timestamp, its count, and its accounts, with what is
-- known of each
pub record HoldsBook (text : List ℕ) (kept : SubscriberState) (known : ℕ → Option Details) (db : Database) : Type 0
  where
    pub schema : db.schema ≡ book_schema
    pub book : db.trees 0 ≡ book_row text kept.last kept.applied ∷ []
    pub accounts : db.trees 1 ≡ rows_from known 1 kept.book

-- the tables, of this version or an earlier one, hold this text
pub record HoldsText (text : List ℕ) (db : Database) : Type 0 where
  pub last : ℕ
  pub applied : ℕ
  pub schema : HasTables db.schema
  pub book : db.trees 0 ≡ book_row text last applied ∷ []

-- what a crash during a save may leave, besides what was there: if the schema is known, a database that holds the book
abbrev pub MayHold : Type 0 → List ℕ → SubscriberState → (ℕ → Option Details) → Trees → Type 0
MayHold schema text kept known trees =
    (db : Database) × (schema → HoldsBook text kept known db) × (trees ≡ db.trees)

-- the index of the account with this number, from 0, or of the next account, if it isn't there
abbrev pub place_in : List BookEntry → ℕ → ℕ
place_in [] id = 0
place_in (other ∷ rest) id = if other.id == id then 0 else suc (place_in rest id)

-- what a subscriber keeps after a save by changes: the changed accounts are put into its book, and all else is theirs
abbrev pub changed : SubscriberState → SubscriberState → SubscriberState
changed kept change = record change { book = put_all change.book kept.book }

-- what is known of accounts, once these details of the account with this number are
abbrev pub with_details : ℕ → Option Details → (ℕ → Option Details) → ℕ → Option Details
with_details id details known other = if id == other then details else known other

-- what is known of the account with this number: what was shown since, or else what was known before
abbrev pub newest : List (ℕ × Details) → List (ℕ × Details) → ℕ → Option Details
newest shown before id = if is_some (details_in shown id) then details_in shown id else details_in before id

-- the same, if it is known what was shown since; else nothing is known
abbrev pub newest_if : Option (List (ℕ × Details)) → List (ℕ × Details) → ℕ → Option Details
newest_if None before id = None
newest_if (Some shown) before id = newest shown before id

-- what is known of accounts after a save by changes: of those that changed what is newest, of others what was known before
abbrev pub renewed : List BookEntry → List (ℕ × Details) → List (ℕ × Details) → ℕ → Option Details
renewed changed shown before id =
    if is_among id (ids_of changed) then newest shown before id else details_in before id

-- what a crash during a save by changes may leave, besides what was there: if the tables held these accounts with these
-- details, the book with the changes
abbrev pub MayChange : Database → List BookEntry → List (ℕ × Details) → List (ℕ × Details) → List ℕ → SubscriberState
    → Trees → Type 0
MayChange before book details shown text change trees =
    (after : Database)
    × ((held : List ℕ) (kept : SubscriberState) → HoldsBook held kept (details_in details) before → kept.book ≡ book
    → HoldsBook text (changed kept change) (renewed change.book shown details) after)
    × (trees ≡ after.trees)
