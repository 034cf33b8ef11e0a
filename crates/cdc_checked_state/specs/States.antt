-- The text of a checked follower's state: a heading, its binding, and a line for each account of its book, for each
-- account that its checker knows, and for each open pending transfer.
use Rattle.std.specs.Prelude.{ℕ, List, ◌++◌, map, codes}
use Rattle.std.specs.List.{flat_map}
use Rattle.cdc_types.specs.declared.accounts.Balances.{Balances}
use Rattle.cdc_types.specs.declared.events.Event.{Event}
use Rattle.cdc_codec.specs.Texts.{flagged, named, spaced}
use Rattle.cdc_subscriber.specs.Book.{entry_for}
use Rattle.cdc_subscriber.specs.Lines.{account_line}
use Rattle.cdc_audit_state.specs.States.{event_line}
use Rattle.cdc_checked.specs.declared.checker.KnownAccount.{KnownAccount}
use Rattle.cdc_checked_follow.specs.Standing.{CheckedFollowerState}
use Rattle.cdc_checked_state.specs.declared.rows.Row.{Row}
use Rattle.cdc_checked_state.specs.declared.rows.Row.TheVariants.{Account, Known, Open}

-- the line of an account that the checker knows: its id, its four balances, and the timestamp of its last event
abbrev pub known_line : ℕ → KnownAccount → List ℕ
known_line id known =
    codes "known" ++ (spaced id ++ (spaced known.balances.debits_pending ++ (spaced known.balances.debits_posted
    ++ (spaced known.balances.credits_pending ++ (spaced known.balances.credits_posted ++ (spaced known.last
    ++ codes "\n"))))))

unfoldable pub row_line : Row → List ℕ
row_line (Account entry) = account_line entry
row_line (Known id known) = known_line id known
row_line (Open e) = event_line (codes "open ") e

-- the lines, one after another
abbrev pub rows_text : List Row → List ℕ
rows_text rows = flat_map row_line rows

abbrev pub book_rows : List (ℕ × Balances) → List Row
book_rows book = map (λ (a : ℕ × Balances). Account (entry_for a)) book

abbrev pub known_rows : List (ℕ × KnownAccount) → List Row
known_rows accounts = map (λ (a : ℕ × KnownAccount). Known a.0 a.1) accounts

abbrev pub open_rows : List (ℕ × Event) → List Row
open_rows events = map (λ (o : ℕ × Event). Open o.1) events

-- all lines of a follower
abbrev pub all_rows : CheckedFollowerState → List Row
all_rows follower =
    book_rows follower.book ++ (known_rows follower.checker.accounts ++ open_rows follower.checker.open_ones)

-- the version of the text, how many events the book has, the greatest timestamp of an applied event, whether the end
-- was received, whether it began by baseline, and the text of the binding
abbrev pub heading : List ℕ → CheckedFollowerState → List ℕ
heading binding follower =
    named (codes "checked-book 1 applied") follower.applied ++ (named (codes " last") follower.last
    ++ (flagged (codes " ended") follower.ended ++ (flagged (codes " baseline") follower.baseline
    ++ (codes "\nbinding " ++ (binding ++ codes "\n")))))

-- the whole text
unfoldable pub state_text : List ℕ → CheckedFollowerState → List ℕ
state_text binding follower = heading binding follower ++ rows_text (all_rows follower)
