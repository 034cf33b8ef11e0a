-- What `audit` prints as JSON.
use Rattle.std.specs.Prelude.{ℕ, Bool, List, [], ◌++◌, Option, Some, None, codes, if◌then◌else◌}
use Rattle.serde_json.specs.Data.{Data, Members, string, no_members, member}
use Rattle.cdc_output.specs.Values.{narrow, wide}
use Rattle.cdc_subscriber.specs.SubscriberState.{SubscriberState}
use Rattle.cdc_audit.specs.Results.{account_name, transfer_name}
use Rattle.cdc_audit.specs.Texts.{field_name, fixed_name, refusal_name, side_name}
use Rattle.cdc_audit.specs.declared.refusals.Refusal.{Refusal}
use Rattle.cdc_audit.specs.declared.refusals.Refusal.TheVariants.{AfterEnd, NotLater, TooHigh, OneAccount}
use Rattle.cdc_audit.specs.declared.refusals.Refusal.TheVariants.{TransferShape, OtherKind, OtherTimestamp}
use Rattle.cdc_audit.specs.declared.refusals.Refusal.TheVariants.{AccountShape, AccountField, CreatedLater}
use Rattle.cdc_audit.specs.declared.refusals.Refusal.TheVariants.{CreatedAtEvent, CreatedTogether}
use Rattle.cdc_audit.specs.declared.refusals.Refusal.TheVariants.{KnownId, NotPending, Settled, OtherFields, Amount}
use Rattle.cdc_audit.specs.declared.refusals.Refusal.TheVariants.{NoTimeout, TooSoon, TooLate, ExpiresLate}
use Rattle.cdc_audit.specs.declared.refusals.Refusal.TheVariants.{ExpiresApart, BrokenChain, TooLarge, Limit, Balance}
use Rattle.cdc_audit.specs.declared.refusals.Refusal.TheVariants.{LongAccountChain, LongChain, NextIsEvent, NoNext}
use Rattle.cdc_audit.specs.declared.streams.AuditStop.{AuditStop}
use Rattle.cdc_audit.specs.declared.streams.AuditStop.TheVariants.{AtEnd, Refused, BadLine}
use Rattle.cdc_output.specs.Lines.{json_line, json_lines, line_of, subscriber_values}
use Rattle.cdc_streams.specs.Lines.{bad_line_value}

-- how many events are accepted, and the last one's timestamp
abbrev pub accepted_value : SubscriberState → Data
accepted_value kept =
    line_of (codes "accepted") (
    member (codes "events") (narrow kept.applied) (
    member (codes "last") (wide kept.last)
    no_members))

-- how many duplicates were skipped
abbrev pub duplicates_value : ℕ → Data
duplicates_value skipped = line_of (codes "duplicates") (member (codes "events") (narrow skipped) no_members)

-- the line of this count; none if duplicates aren't to be skipped
abbrev pub duplicates_lines : Option ℕ → List ℕ
duplicates_lines None = []
duplicates_lines (Some skipped) = json_line (duplicates_value skipped)

-- the numbers of a refusal
abbrev pub refusal_members : Refusal → Members
refusal_members (AfterEnd timestamp) = member (codes "timestamp") (wide timestamp) no_members
refusal_members (NotLater timestamp last) =
    member (codes "timestamp") (wide timestamp) (member (codes "last") (wide last) no_members)
refusal_members (TooHigh timestamp) = member (codes "timestamp") (wide timestamp) no_members
refusal_members (OneAccount account) = member (codes "account") (wide account) no_members
refusal_members (TransferShape transfer why) =
    member (codes "transfer") (wide transfer) (member (codes "result") (string (transfer_name why)) no_members)
refusal_members (OtherKind transfer) = member (codes "transfer") (wide transfer) no_members
refusal_members (OtherTimestamp transfer shown timestamp) =
    member (codes "transfer") (wide transfer) (
    member (codes "shown") (wide shown) (
    member (codes "timestamp") (wide timestamp)
    no_members))
refusal_members (AccountShape account why) =
    member (codes "account") (wide account) (member (codes "result") (string (account_name why)) no_members)
refusal_members (AccountField it) =
    member (codes "account") (wide it.account) (
    member (codes "field") (string (fixed_name it.field)) (
    member (codes "shown") (wide it.shown) (
    member (codes "before") (wide it.before)
    no_members)))
refusal_members (CreatedLater account created timestamp) =
    member (codes "account") (wide account) (
    member (codes "created") (wide created) (
    member (codes "timestamp") (wide timestamp)
    no_members))
refusal_members (CreatedAtEvent account created) =
    member (codes "account") (wide account) (member (codes "created") (wide created) no_members)
refusal_members (CreatedTogether account created other) =
    member (codes "account") (wide account) (
    member (codes "created") (wide created) (
    member (codes "other") (wide other)
    no_members))
refusal_members (KnownId transfer) = member (codes "transfer") (wide transfer) no_members
refusal_members (NotPending transfer) = member (codes "transfer") (wide transfer) no_members
refusal_members (Settled transfer) = member (codes "transfer") (wide transfer) no_members
refusal_members (OtherFields transfer) = member (codes "transfer") (wide transfer) no_members
refusal_members (Amount amount transfer held) =
    member (codes "transfer") (wide transfer) (
    member (codes "amount") (wide amount) (
    member (codes "held") (wide held)
    no_members))
refusal_members (NoTimeout transfer) = member (codes "transfer") (wide transfer) no_members
refusal_members (TooSoon transfer timestamp end) =
    member (codes "transfer") (wide transfer) (
    member (codes "timestamp") (wide timestamp) (
    member (codes "end") (wide end)
    no_members))
refusal_members (TooLate transfer timestamp end) =
    member (codes "transfer") (wide transfer) (
    member (codes "timestamp") (wide timestamp) (
    member (codes "end") (wide end)
    no_members))
refusal_members (ExpiresLate transfer other) =
    member (codes "transfer") (wide transfer) (member (codes "after") (wide other) no_members)
refusal_members (ExpiresApart transfer other) =
    member (codes "transfer") (wide transfer) (member (codes "after") (wide other) no_members)
refusal_members (BrokenChain timestamp last) =
    member (codes "timestamp") (wide timestamp) (member (codes "last") (wide last) no_members)
refusal_members (TooLarge account side) =
    member (codes "account") (wide account) (member (codes "side") (string (side_name side)) no_members)
refusal_members (Limit it) =
    member (codes "account") (wide it.account) (
    member (codes "side") (string (side_name it.side)) (
    member (codes "sum") (wide it.sum) (
    member (codes "limit") (wide it.limit)
    no_members)))
refusal_members (Balance it) =
    member (codes "account") (wide it.account) (
    member (codes "field") (string (field_name it.field)) (
    member (codes "shown") (wide it.shown) (
    member (codes "before") (wide it.before) (
    member (codes "added") (wide it.added) (
    member (codes "released") (wide it.released)
    no_members)))))
refusal_members (NextIsEvent account created) =
    member (codes "account") (wide account) (member (codes "created") (wide created) no_members)
refusal_members (LongAccountChain account created) =
    member (codes "account") (wide account) (member (codes "created") (wide created) no_members)
refusal_members (LongChain timestamp) = member (codes "timestamp") (wide timestamp) no_members
refusal_members (NoNext timestamp) = member (codes "timestamp") (wide timestamp) no_members

-- the line of an event that is refused by this rule, on the line of this number
abbrev pub rule_value : ℕ → List ℕ → Members → Data
rule_value line rule members =
    line_of (codes "refusal") (member (codes "line") (narrow line) (member (codes "rule") (string rule) members))

-- the same of a refusal
abbrev pub refused_value : ℕ → Refusal → Data
refused_value line why = rule_value line (refusal_name why) (refusal_members why)

-- the line of why auditing stopped; none at the end
abbrev pub audit_stop_lines : AuditStop → List ℕ
audit_stop_lines AtEnd = []
audit_stop_lines (Refused line why) = json_line (refused_value line why)
audit_stop_lines (BadLine line error) = json_line (bad_line_value line error)

-- the lines of a subscriber of the accepted events, if they are asked for
abbrev pub audit_book_lines : Bool → SubscriberState → List ℕ
audit_book_lines shows kept = if shows then json_lines (subscriber_values 1 kept) else []

-- all that is printed: how much is accepted, how many duplicates were skipped if they are to be, the book if it is
-- asked for, and why auditing stopped
abbrev pub audit_lines : Bool → Option ℕ → SubscriberState → AuditStop → List ℕ
audit_lines shows skipped kept stop =
    json_line (accepted_value kept)
    ++ (duplicates_lines skipped ++ (audit_book_lines shows kept ++ audit_stop_lines stop))
