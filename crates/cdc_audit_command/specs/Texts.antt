-- What `audit` prints as text.
use Rattle.std.specs.Prelude.{ℕ, Bool, List, [], ◌++◌, Option, Some, None, codes, decimal, if◌then◌else◌}
use Rattle.cdc_codec.specs.Texts.{named}
use Rattle.cdc_subscriber.specs.Lines.{subscriber_text}
use Rattle.cdc_subscriber.specs.SubscriberState.{SubscriberState}
use Rattle.cdc_streams.specs.Lines.{bad_line_text}
use Rattle.cdc_audit.specs.Texts.{refusal_text}
use Rattle.cdc_audit.specs.declared.streams.AuditStop.{AuditStop}
use Rattle.cdc_audit.specs.declared.streams.AuditStop.TheVariants.{AtEnd, Refused, BadLine}

-- the line of how many events are accepted, and of the last one's timestamp
abbrev pub accepted_line : SubscriberState → List ℕ
accepted_line kept = named (codes "accepted") kept.applied ++ (named (codes " last") kept.last ++ codes "\n")

-- the line of how many duplicates were skipped; none if they aren't to be
abbrev pub duplicates_line : Option ℕ → List ℕ
duplicates_line None = []
duplicates_line (Some skipped) = named (codes "duplicates") skipped ++ codes "\n"

-- the line of why auditing stopped; none at the end
abbrev pub stop_line : AuditStop → List ℕ
stop_line AtEnd = []
stop_line (Refused line why) =
    (codes "refused: line " ++ decimal line) ++ (codes ": " ++ (refusal_text why ++ codes "\n"))
stop_line (BadLine line error) = bad_line_text line error

-- the lines of a subscriber of the accepted events, if they are asked for
abbrev pub book_text : Bool → SubscriberState → List ℕ
book_text shows kept = if shows then subscriber_text 1 kept else []

-- all that is printed: how much is accepted, how many duplicates were skipped if they are to be, the book if it is
-- asked for, and why auditing stopped
abbrev pub audit_text : Bool → Option ℕ → SubscriberState → AuditStop → List ℕ
audit_text shows skipped kept stop =
    accepted_line kept ++ (duplicates_line skipped ++ (book_text shows kept ++ stop_line stop))
