-- The text of a save: a transaction, and then what prints that it is saved.
use Rattle.std.specs.Prelude.{ℕ, Bool, if◌then◌else◌, List, [], ◌++◌, codes, decimal}
use Rattle.std.specs.List.{flat_map}
use Rattle.cdc_codec.specs.Texts.{flagged}
use Rattle.cdc_sql.specs.declared.places.Place.{Place}
use Rattle.cdc_sql.specs.Saves.{Save}
use Rattle.cdc_sql.specs.Statements.{accounts_text, events_text}

-- a position: the text of a saved book at a place that has no accounts, without its last line feed
abbrev pub position_text : Bool → List ℕ → Place → List ℕ
position_text chained binding place =
    flagged (codes "book 1 chained") chained ++ ((codes " seen " ++ decimal place.seen) ++ (codes "\nbinding "
    ++ (binding ++ ((codes "\nsubscriber 1 applied " ++ decimal place.applied)
    ++ ((codes " last " ++ decimal place.last)
    ++ (flagged (codes " ended") place.ended ++ flagged (codes " closed") place.closed))))))

-- the table `book` of the schema of this name
abbrev pub book_table : List ℕ → List ℕ
book_table name = codes "\"" ++ (name ++ codes "\".book")

-- each column of the book's row at a place, and its value
abbrev pub columns_text : List ℕ → Bool → List ℕ → Place → List ℕ
columns_text between chained binding place =
    codes "position = '" ++ (position_text chained binding place ++ (codes "'" ++ (between
    ++ ((codes "seen = " ++ decimal place.seen) ++ (between ++ ((codes "last = " ++ decimal place.last)
    ++ (between ++ (codes "applied = " ++ decimal place.applied))))))))

-- the position is moved from one place to another one, and the transaction fails unless the row is at the first one
abbrev pub move_text : List ℕ → Bool → List ℕ → Place → Place → List ℕ
move_text name chained binding before after =
    codes "BEGIN;\nDO $$BEGIN\nUPDATE " ++ (book_table name ++ (codes " SET "
    ++ (columns_text (codes ", ") chained binding after ++ (codes "\nWHERE id = 1 AND "
    ++ (columns_text (codes " AND ") chained binding before ++ (codes ";\n" ++ (codes "IF NOT FOUND THEN RAISE '"
    ++ (book_table name ++ codes " is not where this follower left it'; END IF;\nEND$$;\n"))))))))

-- what a transaction has before its commit
abbrev pub body_text : List ℕ → Bool → List ℕ → Save → List ℕ
body_text name chained binding save =
    move_text name chained binding save.before save.after
    ++ (accounts_text name save.rows ++ events_text name save.events)

-- what prints that the end was received, from the row itself
abbrev pub end_report : List ℕ → List ℕ
end_report name =
    codes "SELECT ('ended ' || seen) FROM " ++ (book_table name
    ++ codes " WHERE id = 1 AND position LIKE '% ended yes %';\n")

abbrev pub end_report_text : List ℕ → Bool → List ℕ
end_report_text name ended = if ended then end_report name else []

-- what prints the timestamp of the last event seen, from the row itself, and whether the end was received
abbrev pub report_text : List ℕ → Bool → List ℕ
report_text name ended =
    codes "SELECT ('saved ' || seen) FROM " ++ (book_table name ++ (codes " WHERE id = 1;\n"
    ++ end_report_text name ended))

-- what it has from the commit on
abbrev pub commit_text : List ℕ → Bool → List ℕ
commit_text name ended = codes "COMMIT" ++ (codes ";\n" ++ report_text name ended)

-- the text of a save
abbrev pub transaction_text : List ℕ → Bool → List ℕ → Save → List ℕ
transaction_text name chained binding save =
    body_text name chained binding save ++ commit_text name save.after.ended

-- the text of saves, one after another
abbrev pub saves_text : List ℕ → Bool → List ℕ → List Save → List ℕ
saves_text name chained binding saves = flat_map (transaction_text name chained binding) saves
