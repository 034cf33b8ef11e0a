-- What checked following prints as JSON.
use Rattle.std.specs.Prelude.{ℕ, List, [], ◌++◌, codes}
use Rattle.std.specs.List.{flat_map}
use Rattle.serde_json.specs.Data.{Data, Members, string, no_members, member}
use Rattle.cdc_types.specs.declared.accounts.Balances.{Balances}
use Rattle.cdc_subscriber.specs.Book.{entry_for}
use Rattle.cdc_output.specs.Values.{narrow, wide}
use Rattle.cdc_output.specs.Lines.{account_value, json_line, line_of, subscriber_value}
use Rattle.cdc_streams.specs.Lines.{bad_line_value}
use Rattle.cdc_follow.specs.declared.counts.Counts.{Counts}
use Rattle.cdc_audit.specs.Texts.{field_name, refusal_name}
use Rattle.cdc_audit.specs.declared.refusals.Mismatch.{Mismatch}
use Rattle.cdc_audit.specs.declared.refusals.Refusal.{Refusal}
use Rattle.cdc_audit.specs.declared.refusals.Refusal.TheVariants.{Balance, NotPending}
use Rattle.cdc_checked_follow.specs.declared.streams.CheckStop.{CheckStop}
use Rattle.cdc_checked_follow.specs.declared.streams.CheckStop.TheVariants.{AtEnd, Gap, BadLine}
use Rattle.cdc_checked_follow.specs.Standing.{CheckedFollowerState}
use Rattle.cdc_checked_command.specs.Texts.{kept_of}

-- the line of an account of the book, as that of the subscriber with the number 1
abbrev pub account_text : ℕ × Balances → List ℕ
account_text a = json_line (account_value 1 (entry_for a))

abbrev pub book_lines : List (ℕ × Balances) → List ℕ
book_lines book = flat_map account_text book

-- the members of a balance that doesn't follow: the account, the balance that is shown, and the one that is known
abbrev pub mismatch_members : Mismatch → Members
mismatch_members m =
    member (codes "account") (wide m.account) (
    member (codes "field") (string (field_name m.field)) (
    member (codes "shown") (wide m.shown) (
    member (codes "before") (wide m.before) (
    member (codes "added") (wide m.added) (
    member (codes "released") (wide m.released)
    no_members)))))

-- the members of why an event is refused, besides the rule's name: those of a balance that doesn't follow, or the
-- pending transfer that isn't open
abbrev pub gap_members : Refusal → Members
gap_members (Balance mismatch) = mismatch_members mismatch
gap_members (NotPending id) = member (codes "transfer") (wide id) no_members
gap_members _ = no_members

-- an event on this line that is refused by this rule, and these members
abbrev pub gap_value : ℕ → List ℕ → Members → Data
gap_value line rule members =
    line_of (codes "gap") (member (codes "line") (narrow line) (member (codes "rule") (string rule) members))

-- the line of why following stopped; none at the end
abbrev pub stop_lines : CheckStop → List ℕ
stop_lines AtEnd = []
stop_lines (Gap line why) = json_line (gap_value line (refusal_name why) (gap_members why))
stop_lines (BadLine line error) = json_line (bad_line_value line error)

-- the members of the counts of lines
abbrev pub count_members : Counts → Members
count_members counts =
    member (codes "applied") (narrow counts.applied) (
    member (codes "duplicates") (narrow counts.duplicates) (
    member (codes "passed") (narrow counts.passed) (
    member (codes "gaps_skipped") (narrow counts.gaps) (
    member (codes "lines_skipped") (narrow counts.lines_skipped)
    no_members))))

-- a save at which the greatest timestamp of an applied event is this, with the counts of the lines so far
abbrev pub saved_value : Counts → ℕ → Data
saved_value counts timestamp =
    line_of (codes "saved") (member (codes "timestamp") (wide timestamp) (count_members counts))

abbrev pub saved_lines : Counts → ℕ → List ℕ
saved_lines counts timestamp = json_line (saved_value counts timestamp)

-- the counts of all lines
abbrev pub followed_value : Counts → Data
followed_value counts = line_of (codes "followed") (count_members counts)

-- what is printed at the end: how far the follower is, the accounts of its book, why following stopped, and the counts
-- of all lines
abbrev pub end_lines : Counts → CheckedFollowerState → CheckStop → List ℕ
end_lines counts it stop =
    json_line (subscriber_value 1 (kept_of it)) ++ (book_lines it.book ++ (stop_lines stop
    ++ json_line (followed_value counts)))
