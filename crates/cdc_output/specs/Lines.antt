-- The JSON values of the lines that every command may print with `--json`, and the texts of such lines.
use Rattle.std.specs.Prelude.{ℕ, ◌+◌, List, [], ◌∷◌, ◌++◌, codes, map}
use Rattle.std.specs.List.{flat_map}
use Rattle.serde_json.specs.Data.{Data, boolean, string, object, Members, no_members, member}
use Rattle.serde_json.specs.Written.{compact_text}
use Rattle.cdc_message.specs.Values.{narrow, wide}
use Rattle.cdc_subscriber.specs.declared.book.BookEntry.{BookEntry}
use Rattle.cdc_subscriber.specs.SubscriberState.{SubscriberState}
use Rattle.cdc_output.specs.Faults.{program_fault_name}
use Rattle.cdc_output.specs.declared.faults.ProgramFault.{ProgramFault}

-- the line of a value: its text without white space, and a line feed
unfoldable pub json_line : Data → List ℕ
json_line value = compact_text value ++ codes "\n"

-- the lines of values
abbrev pub json_lines : List Data → List ℕ
json_lines values = flat_map json_line values

-- the value of a line of this kind: an object whose first member names the kind
abbrev pub line_of : List ℕ → Members → Data
line_of kind members = object (member (codes "kind") (string kind) members)

-- a number of a table, and its name there
abbrev pub named_value : ℕ → List ℕ → Data
named_value number name =
    object (member (codes "number") (narrow number) (member (codes "name") (string name) no_members))

-- how far the subscriber of this number is
abbrev pub subscriber_value : ℕ → SubscriberState → Data
subscriber_value number kept =
    line_of (codes "subscriber") (
    member (codes "subscriber") (narrow number) (
    member (codes "applied") (narrow kept.applied) (
    member (codes "last") (wide kept.last) (
    member (codes "ended") (boolean kept.ended) (
    member (codes "closed") (boolean kept.closed)
    no_members)))))

-- an account in the book of the subscriber of this number
abbrev pub account_value : ℕ → BookEntry → Data
account_value number entry =
    line_of (codes "account") (
    member (codes "subscriber") (narrow number) (
    member (codes "id") (wide entry.id) (
    member (codes "debits_pending") (wide entry.balances.debits_pending) (
    member (codes "debits_posted") (wide entry.balances.debits_posted) (
    member (codes "credits_pending") (wide entry.balances.credits_pending) (
    member (codes "credits_posted") (wide entry.balances.credits_posted)
    no_members))))))

-- a subscriber and the accounts of its book
abbrev pub subscriber_values : ℕ → SubscriberState → List Data
subscriber_values number kept = subscriber_value number kept ∷ map (account_value number) kept.book

-- the values of subscribers that keep this, the first of which has this number
abbrev pub kept_values : ℕ → List SubscriberState → List Data
kept_values n [] = []
kept_values n (kept ∷ rest) = subscriber_values n kept ++ kept_values (n + 1) rest

-- the line of the fault that a command failed with
abbrev pub fault_value : ProgramFault → Data
fault_value why = line_of (codes "fault") (member (codes "name") (string (program_fault_name why)) no_members)
