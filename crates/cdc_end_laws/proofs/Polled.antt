-- The ledger's actor replies to polls in their order, and to each once it has finished.
use Rattle.cdc_end_laws.proofs.Words.{Bool, FinishedLedgersAreClosed, History, Incoming, IsLedgerTurn, LedgerCore, List, None, Option, Outgoing, Past, Some, ToConnector, ToLedger, [], ap, append-nil, append_assoc, ap₂, arith, asked, cases_Bool, cond, filter_map-append, first_ledger, has_to_wait, inl, inr, is_over, kept_of, length, map, map-append, past_of_inbox, poll_in, refl, replied_first, replied_of, replies_of, subst, suc, sym, true, with_replies, zero, ℕ, ◌++◌, ◌∙◌, ◌∷◌, ◌≡◌, ◌≤◌}
use Rattle.cdc_traffic.specs.Answering.{read_by}
use Rattle.cdc_traffic.specs.declared.messages.ToConnector.TheVariants.{PollReply as OfPoll}
use Rattle.cdc_traffic.specs.declared.messages.ToLedger.TheVariants as to_ledger
use Rattle.cdc_traffic.specs.declared.polls.Poll.{Poll}
use Rattle.cdc_traffic.specs.declared.polls.PollReply.{PollReply}
use Rattle.cdc_end_laws.specs.Polls.{FinishedLedgersReplyToAll, HasWorked, PollsLackOne, TurnsTo, poll_replied, polls_received, polls_replied}

-- ---- replies

-- the poll of each reply
abbrev polls_of : List PollReply → List Poll
polls_of replies = map (λ (r : PollReply). r.poll) replies

-- the poll that is kept, if there is one
abbrev kept_polls : Option Poll → List Poll
kept_polls None = []
kept_polls (Some poll) = poll ∷ []

-- replies that were sent reply to their polls
replied_with : (past : Past) (replies : List PollReply)
    → polls_replied (map (λ reply. (OfPoll reply, Some past)) replies) ≡ polls_of replies
replied_with past [] = refl
replied_with past (reply ∷ replies) = ap (λ (polls : List Poll). reply.poll ∷ polls) (replied_with past replies)

replied_more : (connector : Outgoing ToConnector (Option Past)) (past : Past) (replies : List PollReply)
    → polls_replied (with_replies connector past replies).sent ≡ polls_replied connector.sent ++ polls_of replies
replied_more connector past replies =
    filter_map-append (λ m. poll_replied m.0) connector.sent (map (λ reply. (OfPoll reply, Some past)) replies)
    ∙ ap (λ (polls : List Poll). polls_replied connector.sent ++ polls) (replied_with past replies)

-- a poll that is asked is replied to or kept
asked_is : (h : History) (kept : Option Poll)
    → polls_of (replied_of h kept) ++ kept_polls (kept_of h kept) ≡ kept_polls kept
asked_is h None = refl
asked_is h (Some poll) =
    let Same : Bool → Type 0 = λ b.
    polls_of (cond b [] (read_by h poll ∷ [])) ++ kept_polls (cond b (Some poll) None) ≡ poll ∷ [] in
    elim (cases_Bool (has_to_wait h poll)) [
      | inl waits ↦ subst Same (sym waits) refl
      | inr now ↦ subst Same (sym now) refl
    ]

-- and one that is kept is replied to when a later one comes
kept_is : (h : History) (kept : Option Poll) → polls_of (replies_of h kept) ≡ kept_polls kept
kept_is h None = refl
kept_is h (Some poll) = refl

-- so after each message: what was kept, and the message's poll
polls_with : (h : History) (kept : Option Poll) (message : ToLedger)
    → polls_of (replied_first h kept message) ++ kept_polls (asked kept message)
    ≡ kept_polls kept ++ kept_polls (poll_in message)
polls_with h kept (to_ledger.Request request) = sym (append-nil (kept_polls kept))
polls_with h kept (to_ledger.Done number) = sym (append-nil (kept_polls kept))
polls_with h kept (to_ledger.Poll poll) = ap (λ (polls : List Poll). polls ++ poll ∷ []) (kept_is h kept)
polls_with h kept to_ledger.Finish = sym (append-nil (kept_polls kept))

-- ---- turns

-- one message more brings its poll
brought : (sender : ℕ) (message : ToLedger)
    → polls_received ((sender, (message, tt)) ∷ []) ≡ kept_polls (poll_in message)
brought sender (to_ledger.Request request) = refl
brought sender (to_ledger.Done number) = refl
brought sender (to_ledger.Poll poll) = refl
brought sender to_ledger.Finish = refl

received_more : (received : List (ℕ × (ToLedger × Unit {0}))) (sender : ℕ) (message : ToLedger)
    → polls_received (received ++ (sender, (message, tt)) ∷ [])
    ≡ polls_received received ++ kept_polls (poll_in message)
received_more received sender message =
    filter_map-append (λ e. poll_in e.1.0) received ((sender, (message, tt)) ∷ [])
    ∙ ap (λ (polls : List Poll). polls_received received ++ polls) (brought sender message)

-- each poll received was replied to, in their order, or is kept
abbrev Polled : LedgerCore → Type 0
Polled d = polls_replied d.connector.sent ++ kept_polls d.kept ≡ polls_received d.inbox.received

-- polls that are replied to in two parts
joined : (before first second kept both was more all : List Poll) → second ++ kept ≡ both → first ++ both ≡ was ++ more
    → before ++ was ≡ all → (before ++ (first ++ second)) ++ kept ≡ all ++ more
joined before first second kept both was more all then now is =
    append_assoc before (first ++ second) kept
    ∙ ap (λ (l : List Poll). before ++ l)
    (append_assoc first second kept ∙ ap (λ (l : List Poll). first ++ l) then ∙ now)
    ∙ sym (append_assoc before was more)
    ∙ ap (λ (l : List Poll). l ++ more) is

-- so after one turn more
turn_polled : (old new : LedgerCore) → IsLedgerTurn old new → Polled old → Polled new
turn_polled old new turn polled =
    let first : List PollReply = replied_first new.ledger old.kept turn.message in
    let second : List PollReply = replied_of new.ledger (asked old.kept turn.message) in
    let kept : Option Poll = kept_of new.ledger (asked old.kept turn.message) in
    let sent : polls_replied new.connector.sent
    ≡ polls_replied old.connector.sent ++ (polls_of first ++ polls_of second) =
    ap (λ (c : Outgoing ToConnector (Option Past)). polls_replied c.sent) turn.connector
    ∙ replied_more old.connector (past_of_inbox new.inbox) (first ++ second)
    ∙ ap (λ (polls : List Poll). polls_replied old.connector.sent ++ polls)
    (map-append (λ (r : PollReply). r.poll) first second) in
    let received : polls_received new.inbox.received
    ≡ polls_received old.inbox.received ++ kept_polls (poll_in turn.message) =
    ap (λ (i : Incoming ToLedger (Unit {0})). polls_received i.received) turn.inbox
    ∙ received_more old.inbox.received turn.sender turn.message in
    ap₂ (λ (polls : List Poll) (k : Option Poll). polls ++ kept_polls k) sent turn.kept
    ∙ joined (polls_replied old.connector.sent) (polls_of first) (polls_of second) (kept_polls kept)
    (kept_polls (asked old.kept turn.message)) (kept_polls old.kept) (kept_polls (poll_in turn.message))
    (polls_received old.inbox.received) (asked_is new.ledger (asked old.kept turn.message))
    (polls_with new.ledger old.kept turn.message) polled
    ∙ sym received

turns_polled : (count : ℕ) (old new : LedgerCore) → TurnsTo count old new → Polled old → Polled new
turns_polled zero old new same polled = subst Polled (sym same) polled
turns_polled (suc count) old new (between, (turns, turn)) polled =
    turn_polled between new turn (turns_polled count old between turns polled)

-- ---- an actor that has worked

all_polled : (d : LedgerCore) → HasWorked d → Polled d
all_polled d worked =
    let none : Polled (first_ledger worked.inbox worked.clients worked.connector) =
    ap (λ (sent : List (ToConnector × Option Past)). polls_replied sent ++ []) worked.silent
    ∙ sym (ap polls_received worked.fresh) in
    turns_polled worked.count (first_ledger worked.inbox worked.clients worked.connector) d worked.turns none

-- one poll is kept at most
one_kept : (kept : Option Poll) → length (kept_polls kept) ≤ 1
one_kept None = omega arith
one_kept (Some poll) = omega arith

pub polls_lack_one : PollsLackOne
polls_lack_one d worked = record { rest = kept_polls d.kept; whole = all_polled d worked; few = one_kept d.kept }

-- and none once the actor has finished
none_kept : FinishedLedgersAreClosed → (count : ℕ) (first d : LedgerCore) → first.kept ≡ None → TurnsTo count first d
    → is_over d ≡ true → d.kept ≡ None
none_kept law zero first d none same over = ap (λ (l : LedgerCore). l.kept) same ∙ none
none_kept law (suc count) first d none (between, (turns, turn)) over = (law d turn.is over).none_waits

pub finished_reply : FinishedLedgersAreClosed → FinishedLedgersReplyToAll
finished_reply law d worked over =
    let none : d.kept ≡ None =
    none_kept law worked.count (first_ledger worked.inbox worked.clients worked.connector) d refl worked.turns over in
    sym (append-nil (polls_replied d.connector.sent))
    ∙ ap (λ (k : Option Poll). polls_replied d.connector.sent ++ kept_polls k) (sym none)
    ∙ all_polled d worked
