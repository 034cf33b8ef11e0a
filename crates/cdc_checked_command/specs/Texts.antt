-- What checked following prints as text.
use Rattle.std.specs.Prelude.{ℕ, false, List, [], ◌++◌, codes, decimal}
use Rattle.cdc_subscriber.specs.Book.{entries_of}
use Rattle.cdc_subscriber.specs.Lines.{subscriber_line}
use Rattle.cdc_subscriber.specs.SubscriberState.{SubscriberState}
use Rattle.cdc_streams.specs.Lines.{bad_line_text}
use Rattle.cdc_audit.specs.Texts.{refusal_text}
use Rattle.cdc_checked_follow.specs.declared.streams.CheckStop.{CheckStop}
use Rattle.cdc_checked_follow.specs.declared.streams.CheckStop.TheVariants.{AtEnd, Gap, BadLine}
use Rattle.cdc_checked_follow.specs.Standing.{CheckedFollowerState}
use Rattle.cdc_checked_state.specs.States.{book_rows, rows_text}

-- what a follower keeps, as a subscriber that is never closed: its book, how many events the book has, the greatest
-- timestamp of an applied event, and whether the end was received
abbrev pub kept_of : CheckedFollowerState → SubscriberState
kept_of it = record {
  book = entries_of it.book;
  last = it.last;
  applied = it.applied;
  ended = it.ended;
  closed = false;
}

-- the line of a follower, as that of the subscriber with the number 1
abbrev pub follower_line : CheckedFollowerState → List ℕ
follower_line it = subscriber_line 1 (kept_of it)

-- the line of why following stopped; none at the end
abbrev pub stop_line : CheckStop → List ℕ
stop_line AtEnd = []
stop_line (Gap line why) = (codes "gap: line " ++ decimal line) ++ (codes ": " ++ (refusal_text why ++ codes "\n"))
stop_line (BadLine line error) = bad_line_text line error

-- what is printed at the end: how far the follower is, the accounts of its book, and why following stopped
abbrev pub end_text : CheckedFollowerState → CheckStop → List ℕ
end_text it stop = (follower_line it ++ rows_text (book_rows it.book)) ++ stop_line stop
