-- What a subscriber prints: lines of text, each with its line feed.
use Rattle.std.specs.Prelude.{ℕ, List, ◌++◌, codes}
use Rattle.std.specs.List.{flat_map}
use Rattle.cdc_codec.specs.Texts.{flagged, named, spaced}
use Rattle.cdc_subscriber.specs.declared.book.BookEntry.{BookEntry}
use Rattle.cdc_subscriber.specs.SubscriberState.{SubscriberState}

-- the line of an account of a book: its number and its four balances
abbrev pub account_line : BookEntry → List ℕ
account_line entry =
    named (codes "account") entry.id ++ (spaced entry.balances.debits_pending ++ (spaced entry.balances.debits_posted
    ++ (spaced entry.balances.credits_pending ++ (spaced entry.balances.credits_posted ++ codes "\n"))))

-- the line of the subscriber of this number
abbrev pub subscriber_line : ℕ → SubscriberState → List ℕ
subscriber_line number kept =
    named (codes "subscriber") number ++ (named (codes " applied") kept.applied ++ (named (codes " last") kept.last
    ++ (flagged (codes " ended") kept.ended ++ (flagged (codes " closed") kept.closed ++ codes "\n"))))

-- that line, and one for each account of its book
abbrev pub subscriber_text : ℕ → SubscriberState → List ℕ
subscriber_text number kept = subscriber_line number kept ++ flat_map account_line kept.book
