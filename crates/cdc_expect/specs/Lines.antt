-- The lines that `follow --expect` prints, by what they say.
use Rattle.std.specs.Prelude.{ℕ, List, ◌++◌, codes, decimal}
use Rattle.cdc_types.specs.declared.events.Event.{Event}
use Rattle.cdc_types.specs.declared.events.EventAccount.{EventAccount}
use Rattle.cdc_subscriber.specs.SubscriberState.{SubscriberState}
use Rattle.cdc_follow.specs.declared.entries.Content.{Content}
use Rattle.cdc_follow.specs.declared.entries.Content.TheVariants as content
use Rattle.cdc_follow.specs.declared.errors.LineError.{LineError}
use Rattle.cdc_follow.specs.declared.follower.Following.{Following}
use Rattle.cdc_follow.specs.declared.follower.Following.TheVariants.{Applied, PassedBy, Duplicate, Gap, Ended, AfterEnd, OutOfRange}
use Rattle.cdc_follow.specs.LineErrors.{line_error_name}
use Rattle.cdc_expect.specs.declared.lines.Kept.{Kept}

-- what a line shows of a subscriber
abbrev pub kept_by : SubscriberState → Kept
kept_by it = record { applied = it.applied; last = it.last }

-- the first members of a line: the number of the line that it is about, and that one's result
abbrev pub head_text : ℕ → List ℕ → List ℕ
head_text number result =
    (codes "{\"kind\":\"expect\",\"line\":" ++ decimal number)
    ++ (codes ",\"result\":\"" ++ (result ++ codes "\""))

-- the members of what a follower keeps after it, and the first part of that of the accounts
abbrev pub kept_text : Kept → List ℕ
kept_text kept =
    (codes ",\"applied\":" ++ decimal kept.applied)
    ++ ((codes ",\"last\":\"" ++ decimal kept.last) ++ codes "\",\"accounts\":[")

-- an account of an event, with its balances
abbrev pub account_text : EventAccount → List ℕ
account_text account =
    (codes "{\"id\":\"" ++ decimal account.id)
    ++ ((codes "\",\"debits_pending\":\"" ++ decimal account.debits_pending)
    ++ ((codes "\",\"debits_posted\":\"" ++ decimal account.debits_posted)
    ++ ((codes "\",\"credits_pending\":\"" ++ decimal account.credits_pending)
    ++ ((codes "\",\"credits_posted\":\"" ++ decimal account.credits_posted) ++ codes "\"}"))))

-- a line with this result, which changes no account
abbrev pub result_text : ℕ → List ℕ → Kept → List ℕ
result_text number result kept = head_text number result ++ (kept_text kept ++ codes "]}\n")

-- a line whose event is applied: it changes both accounts of it, the debited one first
abbrev pub event_text : ℕ → Event → Kept → List ℕ
event_text number e kept =
    head_text number (codes "applied") ++ (kept_text kept
    ++ (account_text e.debit_account ++ (codes "," ++ (account_text e.credit_account ++ codes "]}\n"))))

-- a line that is no entry: its result is followed by the reason
abbrev pub bad_line_text : ℕ → LineError → Kept → List ℕ
bad_line_text number error kept =
    head_text number (codes "bad_line") ++ (codes ",\"name\":\"" ++ (line_error_name error ++ (codes "\""
    ++ (kept_text kept ++ codes "]}\n"))))

-- a line whose entry has this content, and is applied; an end never is
abbrev pub applied_text : ℕ → Content → Kept → List ℕ
applied_text number (content.Event e) kept = event_text number e kept
applied_text number content.End kept = result_text number (codes "applied") kept

-- a line whose entry has this content, and of which this became
abbrev pub entry_text : ℕ → Content → Following → Kept → List ℕ
entry_text number content Applied kept = applied_text number content kept
entry_text number content PassedBy kept = result_text number (codes "passed") kept
entry_text number content Duplicate kept = result_text number (codes "duplicate") kept
entry_text number content Gap kept = result_text number (codes "gap") kept
entry_text number content Ended kept = result_text number (codes "end") kept
entry_text number content AfterEnd kept = result_text number (codes "after_end") kept
entry_text number content OutOfRange kept = result_text number (codes "out_of_range") kept
