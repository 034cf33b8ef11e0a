-- The text that makes the tables, once, and the text that precedes the saves.
use Rattle.std.specs.Prelude.{ℕ, Bool, if◌then◌else◌, List, [], ◌++◌, codes, decimal}
use Rattle.cdc_sql.specs.Statements.{accounts_table, events_table}
use Rattle.cdc_sql.specs.Texts.{book_table, position_text}
use Rattle.cdc_sql.specs.declared.places.Place.{Place}

-- what psql needs, and what refuses a server on which a commit can be lost
abbrev pub preamble : List ℕ
preamble =
    codes "\\set QUIET on\n\\set ON_ERROR_STOP on\n\\set AUTOCOMMIT on\n\\set ON_ERROR_ROLLBACK off\n"
    ++ (codes "\\pset tuples_only on\n\\pset format unaligned\n"
    ++ (codes "SET idle_in_transaction_session_timeout = '60s';\n"
    ++ (codes "DO $$BEGIN IF current_setting('synchronous_commit') = 'off' THEN "
    ++ codes "RAISE 'synchronous_commit is off, so a commit can be lost'; END IF; END$$;\n")))

-- the table `book`
abbrev pub book_schema : List ℕ → List ℕ
book_schema name =
    codes "CREATE TABLE " ++ (book_table name ++ (codes " (id smallint PRIMARY KEY CHECK (id = 1), "
    ++ (codes "position text NOT NULL, seen numeric(20) NOT NULL, last numeric(20) NOT NULL, "
    ++ (codes "applied numeric(20) NOT NULL);\nCOMMENT ON TABLE " ++ (book_table name
    ++ codes " IS 'Where the follower is in its stream. Its saves alone may change the row.';\n")))))

-- the table `accounts`
abbrev pub account_schema_columns : List ℕ
account_schema_columns =
    codes " (id numeric(39) PRIMARY KEY, debits_pending numeric(39) NOT NULL, debits_posted numeric(39) NOT NULL, "
    ++ (codes "credits_pending numeric(39) NOT NULL, credits_posted numeric(39) NOT NULL, "
    ++ (codes "last_timestamp numeric(20) NOT NULL, ledger bigint NOT NULL, code integer NOT NULL, "
    ++ (codes "flags integer NOT NULL, user_data_128 numeric(39) NOT NULL, user_data_64 numeric(20) NOT NULL, "
    ++ codes "user_data_32 bigint NOT NULL);\nCOMMENT ON TABLE ")))

abbrev pub accounts_schema : List ℕ → List ℕ
accounts_schema name =
    codes "CREATE TABLE " ++ (accounts_table name ++ (account_schema_columns ++ (accounts_table name
    ++ codes " IS 'Each account after the last event that has it.';\n")))

-- the table `events`
abbrev pub transfer_schema_columns : List ℕ
transfer_schema_columns =
    codes " (timestamp numeric(20) PRIMARY KEY, type text NOT NULL, ledger bigint NOT NULL, "
    ++ (codes "transfer_id numeric(39) NOT NULL, transfer_amount numeric(39) NOT NULL, "
    ++ (codes "transfer_pending_id numeric(39) NOT NULL, transfer_user_data_128 numeric(39) NOT NULL, "
    ++ (codes "transfer_user_data_64 numeric(20) NOT NULL, transfer_user_data_32 bigint NOT NULL, "
    ++ (codes "transfer_timeout bigint NOT NULL, transfer_code integer NOT NULL, "
    ++ codes "transfer_flags integer NOT NULL, transfer_timestamp numeric(20) NOT NULL"))))

-- the columns of one of an event's accounts, whose names begin so
abbrev pub side_schema_columns : List ℕ → List ℕ
side_schema_columns side =
    codes ", " ++ (side ++ (codes "_id numeric(39) NOT NULL, "
    ++ (side ++ (codes "_debits_pending numeric(39) NOT NULL, "
    ++ (side ++ (codes "_debits_posted numeric(39) NOT NULL, "
    ++ (side ++ (codes "_credits_pending numeric(39) NOT NULL, "
    ++ (side ++ (codes "_credits_posted numeric(39) NOT NULL, "
    ++ (side ++ (codes "_user_data_128 numeric(39) NOT NULL, "
    ++ (side ++ (codes "_user_data_64 numeric(20) NOT NULL, "
    ++ (side ++ (codes "_user_data_32 bigint NOT NULL, "
    ++ (side ++ (codes "_code integer NOT NULL, "
    ++ (side ++ (codes "_flags integer NOT NULL, "
    ++ (side ++ codes "_timestamp numeric(20) NOT NULL")))))))))))))))))))))

abbrev pub events_schema : List ℕ → List ℕ
events_schema name =
    codes "CREATE TABLE " ++ (events_table name ++ (transfer_schema_columns
    ++ (side_schema_columns (codes "debit_account") ++ (side_schema_columns (codes "credit_account")
    ++ (codes ");\nCOMMENT ON TABLE " ++ (events_table name
    ++ codes " IS 'The events that were applied. Rows are only added.';\n"))))))

-- the same, if events are kept
abbrev pub events_schema_if : Bool → List ℕ → List ℕ
events_schema_if keeps name = if keeps then events_schema name else []

-- the book's row at a place
abbrev pub first_row : List ℕ → Bool → List ℕ → Place → List ℕ
first_row name chained binding place =
    codes "INSERT INTO " ++ (book_table name ++ (codes " (id, position, seen, last, applied) VALUES (1, '"
    ++ (position_text chained binding place ++ ((codes "', " ++ decimal place.seen)
    ++ ((codes ", " ++ decimal place.last) ++ ((codes ", " ++ decimal place.applied) ++ codes ");\n"))))))

-- the schema is made
abbrev pub create_schema : List ℕ → List ℕ
create_schema name = codes "BEGIN;\nCREATE SCHEMA \"" ++ (name ++ codes "\";\n")

-- with the tables, among them that of the events if these are kept
abbrev pub tables_schema : Bool → List ℕ → List ℕ
tables_schema keeps name =
    create_schema name ++ (book_schema name ++ (accounts_schema name ++ events_schema_if keeps name))

-- the whole text, with the book's row at a place
abbrev pub schema_text : Bool → List ℕ → Bool → List ℕ → Place → List ℕ
schema_text keeps name chained binding place =
    tables_schema keeps name ++ (first_row name chained binding place ++ codes "COMMIT;\n")
