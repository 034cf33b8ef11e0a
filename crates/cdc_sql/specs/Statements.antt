-- The statements of a save that put rows into tables.
use Rattle.std.specs.Prelude.{ℕ, ◌+◌, ◌%◌, ◌==◌, if◌then◌else◌, List, [], ◌∷◌, ◌++◌, codes, decimal, length}
use Rattle.std.specs.List.{flat_map}
use Rattle.cdc_types.specs.declared.events.Event.{Event}
use Rattle.cdc_types.specs.declared.events.EventAccount.{EventAccount}
use Rattle.cdc_types.specs.declared.events.EventTransfer.{EventTransfer}
use Rattle.cdc_message.specs.Kinds.{kind_text}
use Rattle.cdc_sql.specs.declared.rows.AccountRow.{AccountRow}

-- the table `accounts` of the schema of this name
abbrev pub accounts_table : List ℕ → List ℕ
accounts_table name = codes "\"" ++ (name ++ codes "\".accounts")

-- the table `events`
abbrev pub events_table : List ℕ → List ℕ
events_table name = codes "\"" ++ (name ++ codes "\".events")

-- ---- statements, each of at most a thousand rows

abbrev pub statement_rows : ℕ
statement_rows = 1000

-- a statement ends, and another one begins
abbrev pub next_text : List ℕ → List ℕ → List ℕ
next_text head tail = tail ++ head

-- what stands between two rows, of which the second one has this place, counted from 0
abbrev pub between_text : List ℕ → List ℕ → ℕ → List ℕ
between_text head tail place = if (place % statement_rows) == 0 then next_text head tail else codes ",\n"

-- what precedes the row of this place
abbrev pub lead_text : List ℕ → List ℕ → ℕ → List ℕ
lead_text head tail place = if place == 0 then head else between_text head tail place

-- rows, of which the first has this place, each after what precedes it
abbrev pub list_text : {X : Type 0} → (ℕ → List ℕ) → (X → List ℕ) → ℕ → List X → List ℕ
list_text lead row place [] = []
list_text lead row place (x ∷ later) = lead place ++ (row x ++ list_text lead row (place + 1) later)

-- the statements that put rows, which begin and end so; none if there is no row
abbrev pub statements_text : {X : Type 0} → List ℕ → List ℕ → (X → List ℕ) → List X → List ℕ
statements_text head tail row items =
    if length items == 0 then [] else (list_text (lead_text head tail) row 0 items ++ tail)

-- numbers, each after a comma
abbrev pub numbers_text : List ℕ → List ℕ
numbers_text numbers = flat_map (λ n. codes ", " ++ decimal n) numbers

-- ---- accounts

-- the columns of an account's row, except its number
abbrev pub row_columns : List ℕ
row_columns =
    codes "debits_pending, debits_posted, credits_pending, credits_posted, "
    ++ codes "last_timestamp, ledger, code, flags, user_data_128, user_data_64, user_data_32"

abbrev pub row_numbers : AccountRow → List ℕ
row_numbers row =
    row.balances.debits_pending ∷ row.balances.debits_posted ∷ row.balances.credits_pending
    ∷ row.balances.credits_posted ∷ row.details.last_timestamp ∷ row.details.ledger ∷ row.details.code
    ∷ row.details.flags ∷ row.details.user_data_128 ∷ row.details.user_data_64 ∷ row.details.user_data_32 ∷ []

-- the row of an account, by its number
abbrev pub row_text : ℕ × AccountRow → List ℕ
row_text account = (codes "(" ++ decimal account.0) ++ (numbers_text (row_numbers account.1) ++ codes ")")

-- how a statement begins that puts accounts
abbrev pub account_statement : List ℕ → List ℕ
account_statement name =
    codes "INSERT INTO " ++ (accounts_table name ++ (codes " (id, " ++ (row_columns ++ codes ") VALUES\n")))

-- how it ends: an account that is there already gets the new values
abbrev pub account_conflict : List ℕ
account_conflict =
    codes "\nON CONFLICT (id) DO UPDATE SET "
    ++ (codes "debits_pending = excluded.debits_pending, debits_posted = excluded.debits_posted, "
    ++ (codes "credits_pending = excluded.credits_pending, credits_posted = excluded.credits_posted, "
    ++ (codes "last_timestamp = excluded.last_timestamp, ledger = excluded.ledger, code = excluded.code, "
    ++ (codes "flags = excluded.flags, user_data_128 = excluded.user_data_128, "
    ++ codes "user_data_64 = excluded.user_data_64, user_data_32 = excluded.user_data_32;\n"))))

-- the accounts of a save are put
abbrev pub accounts_text : List ℕ → List (ℕ × AccountRow) → List ℕ
accounts_text name rows = statements_text (account_statement name) account_conflict row_text rows

-- ---- events

-- the columns of an event's row
abbrev pub event_columns : List ℕ
event_columns =
    codes "type, timestamp, ledger, transfer_id, transfer_amount, transfer_pending_id, transfer_user_data_128, "
    ++ (codes "transfer_user_data_64, transfer_user_data_32, transfer_timeout, transfer_code, transfer_flags, "
    ++ (codes "transfer_timestamp, debit_account_id, debit_account_debits_pending, debit_account_debits_posted, "
    ++ (codes "debit_account_credits_pending, debit_account_credits_posted, debit_account_user_data_128, "
    ++ (codes "debit_account_user_data_64, debit_account_user_data_32, debit_account_code, debit_account_flags, "
    ++ (codes "debit_account_timestamp, credit_account_id, credit_account_debits_pending, "
    ++ (codes "credit_account_debits_posted, credit_account_credits_pending, credit_account_credits_posted, "
    ++ (codes "credit_account_user_data_128, credit_account_user_data_64, credit_account_user_data_32, "
    ++ codes "credit_account_code, credit_account_flags, credit_account_timestamp")))))))

abbrev pub transfer_numbers : EventTransfer → List ℕ
transfer_numbers t =
    t.id ∷ t.amount ∷ t.pending_id ∷ t.user_data_128 ∷ t.user_data_64 ∷ t.user_data_32 ∷ t.timeout ∷ t.code ∷ t.flags
    ∷ t.timestamp ∷ []

abbrev pub account_numbers : EventAccount → List ℕ
account_numbers a =
    a.id ∷ a.debits_pending ∷ a.debits_posted ∷ a.credits_pending ∷ a.credits_posted ∷ a.user_data_128 ∷ a.user_data_64
    ∷ a.user_data_32 ∷ a.code ∷ a.flags ∷ a.timestamp ∷ []

-- the row of an event
abbrev pub event_text : Event → List ℕ
event_text e =
    codes "('" ++ (kind_text e.kind ++ ((codes "', " ++ decimal e.timestamp) ++ ((codes ", " ++ decimal e.ledger)
    ++ (numbers_text (transfer_numbers e.transfer) ++ (numbers_text (account_numbers e.debit_account)
    ++ (numbers_text (account_numbers e.credit_account) ++ codes ")"))))))

-- how a statement begins that adds events, and how it ends
abbrev pub event_statement : List ℕ → List ℕ
event_statement name =
    codes "INSERT INTO " ++ (events_table name ++ (codes " (" ++ (event_columns ++ codes ") VALUES\n")))

abbrev pub event_end : List ℕ
event_end = codes ";\n"

-- the events of a save are added
abbrev pub events_text : List ℕ → List Event → List ℕ
events_text name events = statements_text (event_statement name) event_end event_text events
