-- What is read back from the rows of a book.
use Rattle.std.specs.Prelude.{◌≡◌, ◌≢◌, ◌⊎◌, ◌≤◌, ◌<◌, ◌^◌, ◌++◌, ℕ, suc, pos, Bool, true, false, [], ◌∷◌, List, Option, Some, None, Result, MatchResult, IsTrue, ⊤, length, map, codes, decimal}
use Rattle.std.specs.Prelude.{nat_eq}
use Rattle.std.specs.declared.cmp.Ordering.TheVariants.{Less, Equal, Greater}
use Rattle.sqlite.specs.declared.error.ErrorCode.TheVariants as code
use Rattle.sqlite.specs.declared.error.Error.{Error}
use Rattle.sqlite.specs.declared.error.Error.TheVariants.{QueryReturnedNoRows, SqliteFailure}
use Rattle.sqlite.specs.declared.types.Value.TheVariants.{Null, Int, Text as Words}
use Rattle.sqlite.specs.Order.{Row, column, value_cmp}
use Rattle.sqlite.specs.Tree.{rowid}
use Rattle.sqlite.specs.Schema.{Schema}
use Rattle.sqlite.specs.Effect.{Database}
use Rattle.sqlite_rules.specs.Lists.{Has}
use Rattle.cdc_subscriber.specs.declared.book.BookEntry.{BookEntry}
use Rattle.cdc_subscriber.specs.Book.{are_distinct, ids_of, is_among}
use Rattle.indexmap.specs.IndexMap.{insert_entry}
use Rattle.cdc_follow.specs.Following.{FollowState}
use Rattle.cdc_follow.specs.Saved.{book_text}
use Rattle.cdc_book_log.specs.declared.details.Details.{Details}
use Rattle.cdc_book_log.specs.Details.{details_in}
use Rattle.cdc_sqlite_book.specs.Tables.{book_schema, earlier_schema, rows_mark}

-- a load may stop by these, whatever the rows have: memory ran out, a read failed, the connection is closed, the limit on
-- steps was met, or there are more rows than places
abbrev pub is_failure : Error → Bool
is_failure (SqliteFailure code.OutOfMemory) = true
is_failure (SqliteFailure code.SystemIoFailure) = true
is_failure (SqliteFailure code.DatabaseCorrupt) = true
is_failure (SqliteFailure code.DiskFull) = true
is_failure (SqliteFailure code.Closed) = true
is_failure (SqliteFailure code.OperationInterrupted) = true
is_failure (SqliteFailure code.TooBig) = true
is_failure _ = false

-- what is made of a query's error: nothing was found, or the error stays
abbrev pub IsNone : {X : Type 0} → Error → X → Result X Error → Type 0
IsNone error none r =
    MatchResult r (λ found. (found ≡ none) × (error ≡ QueryReturnedNoRows)) (λ e. (e ≡ error) × (error ≢ QueryReturnedNoRows))

-- this is read, unless there was a failure
abbrev pub ReadsAs : {X : Type 0} → Result X Error → X → Type 0
ReadsAs result x = MatchResult result (λ y. y ≡ x) (λ e. IsTrue (is_failure e))

-- the schema of a book, whose table of the accounts has columns for details, as those of earlier versions don't
abbrev pub IsDetailed : Bool → Schema → Type 0
IsDetailed true schema = schema ≡ book_schema
IsDetailed false schema = schema ≡ earlier_schema

-- what is read of a row of the accounts: the number and the balances, and with columns for details these
abbrev pub shown_of : Bool → Row → Row
shown_of true row = map (column row) (2 ∷ 3 ∷ 4 ∷ 5 ∷ 6 ∷ 7 ∷ 8 ∷ 9 ∷ 10 ∷ 11 ∷ 12 ∷ 13 ∷ [])
shown_of false row = map (column row) (2 ∷ 3 ∷ 4 ∷ 5 ∷ 6 ∷ [])

-- the statement that reads the row of the account at a place, without the place; with details, if the table has them
abbrev pub account_text : Bool → List ℕ
account_text true =
    codes "SELECT id, debits_pending, debits_posted, credits_pending, credits_posted, last_timestamp, ledger, code, flags, user_data_128, user_data_64, user_data_32 FROM accounts WHERE place = ?1"
account_text false =
    codes "SELECT id, debits_pending, debits_posted, credits_pending, credits_posted FROM accounts WHERE place = ?1"

-- the row has this place
abbrev pub IsAt : ℕ → Row → Type 0
IsAt place row = value_cmp (rowid row) (Int (pos place)) ≡ Equal

-- its place isn't one of the first so many
abbrev pub IsStray : ℕ → Row → Type 0
IsStray count row =
    (rowid row ≢ Null)
    × ((value_cmp (rowid row) (Int (pos 1)) ≡ Less) ⊎ (value_cmp (rowid row) (Int (pos count)) ≡ Greater))

-- what the search for the account at a place finds in the rows of the accounts
abbrev pub Finds : Bool → ℕ → List Row → Option Row → Type 0
Finds detailed place rows (Some shown) =
    (row : Row) × Has rows row × IsAt place row × (shown ≡ shown_of detailed row)
Finds detailed place rows None = (row : Row) → Has rows row → ¬ IsAt place row

-- whether a row is at none of the first so many places
abbrev pub HasStray : ℕ → List Row → Bool → Type 0
HasStray count rows true = (row : Row) × Has rows row × IsStray count row
HasStray count rows false = (row : Row) → Has rows row → ¬ IsStray count row

-- what is read of a row is the number and the balances of an account, each as a save writes it
pub record HasEntry (row : Row) (entry : BookEntry) : Type 0 where
  pub id : column row 0 ≡ Words (decimal entry.id)
  pub debits_pending : column row 1 ≡ Words (decimal entry.balances.debits_pending)
  pub debits_posted : column row 2 ≡ Words (decimal entry.balances.debits_posted)
  pub credits_pending : column row 3 ≡ Words (decimal entry.balances.credits_pending)
  pub credits_posted : column row 4 ≡ Words (decimal entry.balances.credits_posted)

-- and these details
pub record HasDetails (row : Row) (details : Details) : Type 0 where
  pub last_timestamp : column row 5 ≡ Words (decimal details.last_timestamp)
  pub ledger : column row 6 ≡ Int (pos details.ledger)
  pub code : column row 7 ≡ Int (pos details.code)
  pub flags : column row 8 ≡ Int (pos details.flags)
  pub user_data_128 : column row 9 ≡ Words (decimal details.user_data_128)
  pub user_data_64 : column row 10 ≡ Words (decimal details.user_data_64)
  pub user_data_32 : column row 11 ≡ Int (pos details.user_data_32)

-- or nulls in their place
abbrev pub HasNulls : Row → Type 0
HasNulls row = (at : ℕ) → 5 ≤ at → at < 12 → column row at ≡ Null

-- what is read of a row has these details, if they are known
abbrev pub HasKnown : Row → Option Details → Type 0
HasKnown row None = HasNulls row
HasKnown row (Some details) = HasDetails row details

-- the numbers of details have their widths
pub record DetailsFit (details : Details) : Type 0 where
  pub last_timestamp : details.last_timestamp < 2 ^ 64
  pub ledger : details.ledger < 2 ^ 32
  pub code : details.code < 2 ^ 16
  pub flags : details.flags < 2 ^ 16
  pub user_data_128 : details.user_data_128 < 2 ^ 128
  pub user_data_64 : details.user_data_64 < 2 ^ 64
  pub user_data_32 : details.user_data_32 < 2 ^ 32

-- what is read of a row has these details, if they are known; without columns for details they aren't
abbrev pub IsKnown : Bool → Row → Option Details → Type 0
IsKnown true row known = HasKnown row known
IsKnown false row known = known ≡ None

-- what is known of accounts, with these details of the account with this number, if they are known
abbrev pub with_known : List (ℕ × Details) → ℕ → Option Details → List (ℕ × Details)
with_known details id None = details
with_known details id (Some known) = insert_entry nat_eq details id known

-- the account that a row shows was added to a book, which didn't have it, and its details to what is known
pub record AddsRow (detailed : Bool) (row : Row) (book : List BookEntry) (details : List (ℕ × Details))
    (longer : List BookEntry) (more : List (ℕ × Details)) : Type 0 where
  pub entry : BookEntry
  pub known : Option Details
  pub has : HasEntry row entry
  pub shows : IsKnown detailed row known
  pub absent : is_among entry.id (ids_of book) ≡ false
  pub book_is : longer ≡ book ++ entry ∷ []
  pub details_are : more ≡ with_known details entry.id known

-- the table has a row at this place, of this account, of which this is known
pub record HasAccount (detailed : Bool) (rows : List Row) (place : ℕ) (entry : BookEntry) (known : Option Details)
    : Type 0 where
  pub row : Row
  pub stands : Has rows row
  pub placed : IsAt place row
  pub has : HasEntry (shown_of detailed row) entry
  pub shows : IsKnown detailed (shown_of detailed row) known

-- it has a row of each of these accounts, the first of which has this place, by what is known of the account with each
-- number
abbrev pub HasAccounts : Bool → List Row → (ℕ → Option Details) → ℕ → List BookEntry → Type 0
HasAccounts detailed rows known place [] = ⊤
HasAccounts detailed rows known place (entry ∷ more) =
    HasAccount detailed rows place entry (known entry.id) × HasAccounts detailed rows known (suc place) more

-- these accounts were read, in the order of their places: no number occurs twice, and of no other account is anything
-- known
pub record AreRead (detailed : Bool) (rows : List Row) (book : List BookEntry) (details : List (ℕ × Details)) : Type 0
  where
    pub accounts : HasAccounts detailed rows (details_in details) 1 book
    pub distinct : are_distinct (ids_of book) ≡ true
    pub others : (id : ℕ) → is_among id (ids_of book) ≡ false → details_in details id ≡ None

-- these are all accounts of a table: no row has another place
pub record AreAccounts (detailed : Bool) (rows : List Row) (book : List BookEntry) (details : List (ℕ × Details))
    : Type 0 where
  pub read : AreRead detailed rows book details
  pub all : (row : Row) → Has rows row → ¬ IsStray (length book) row

-- the accounts of the tables, of this version or an earlier one
abbrev pub AreAccountsOf : Database → List BookEntry → List (ℕ × Details) → Type 0
AreAccountsOf db book details =
    (detailed : Bool) × IsDetailed detailed db.schema × AreAccounts detailed (db.trees 1) book details

-- what is followed, with these accounts
abbrev pub with_book : FollowState → List BookEntry → FollowState
with_book state book = record state { kept = record state.kept { book = book } }

-- the text of the whole book: the text of its row with these accounts. That of a book of version 1.1 has the accounts.
abbrev pub IsWholeText : List ℕ → List BookEntry → List ℕ → Type 0
IsWholeText text book whole =
    (((rest : List ℕ) → text ≢ rows_mark ++ rest) × (whole ≡ text))
    ⊎ ((chained : Bool) × (binding : List ℕ) × (bare : FollowState)
    × (text ≡ rows_mark ++ book_text chained binding bare)
    × (whole ≡ book_text chained binding (with_book bare book)))
