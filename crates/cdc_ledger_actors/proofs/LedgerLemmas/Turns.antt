-- What the ledger actor keeps, from one message to the next.
use Rattle.std.proofs.Common.{◌≡◌, ◌≢◌, ◌==◌, ℕ, zero, suc, ◌+◌, ◌-◌, ◌<◌, ◌≤◌, Bool, true, false, Option, Some, None, List, [], ◌∷◌, ◌++◌, refl, sym, ap, ap₂, ◌∙◌, subst, length, map, All, append_assoc, append-nil, ne_eqb, arith}
use Rattle.std.specs.Prelude.{unwrap_or, if◌then◌else◌}
use Rattle.std.proofs.lemmas.List.{length-map, map-append, map_push}
use Rattle.std.proofs.lemmas.List.Sums.{fold-append}
use Rattle.cdc_ledger_actors.specs.Ledger.{ReceiveReplies, LedgerCore, IsBooked, IsLedgerActor, IsLedgerTurn, Waits, asked, batch_in, clients_left, first_ledger, has_to_wait, is_done, kept_of, links_of, order_of, past_of_inbox, replied_first, replied_of, replies_of, with_replies}
use Rattle.cdc_ledger_actors.specs.Ledger.Steps.{IsNext, IsTaken, looked_at, shut, with_one_done}
use Rattle.cdc_ledger_actors.specs.Orders.{batches_by, batches_in, clients_in, past_of}
use Rattle.cdc_ledger_actors.proofs.LedgerLemmas.Receipts.{Received, as_many_batches, done_now, done_other, done_same, left_fewer, left_other, left_same, left_some, order_push, with_message}
use Rattle.cdc_ledger_actors.proofs.ClientReplies.{past_push}
use Rattle.cdc_ledger.specs.History.{History, empty_history}
use Rattle.cdc_ledger.specs.Submit.{after_batches, closed_if}
use Rattle.cdc_links.specs.Links.{CanSend, Incoming, LinkId, Outgoing, of_sender, with_received}
use Rattle.cdc_traffic.specs.Following.{FollowsToLedger, last_named}
use Rattle.cdc_traffic.specs.Pasts.{Continues, history_of, no_past}
use Rattle.cdc_traffic.specs.declared.messages.ToConnector.{ToConnector}
use Rattle.cdc_traffic.specs.declared.messages.ToConnector.TheVariants.{PollReply as OfPoll}
use Rattle.cdc_traffic.specs.declared.messages.ToLedger.{ToLedger}
use Rattle.cdc_traffic.specs.declared.messages.ToLedger.TheVariants as to_ledger
use Rattle.cdc_traffic.specs.declared.pasts.Past.{Past}
use Rattle.cdc_traffic.specs.declared.polls.Poll.{Poll}
use Rattle.cdc_traffic.specs.declared.polls.PollReply.{PollReply}
use Rattle.cdc_traffic.specs.declared.requests.Reply.{Reply}
use Rattle.cdc_traffic.specs.declared.requests.Request.{Request}
use Rattle.cdc_traffic.proofs.Continuing.{Continues-batch, Continues-same, Continues-trans}
use Rattle.cdc_types.specs.declared.batches.Batch.{Batch}

-- ---- pasts

-- the past of these batches, with a close or without one
abbrev pub past_with : List (ℕ × Batch) → Bool → Past
past_with order closed = record { batches = batches_in order; closed = closed }

-- as long as a client is left there was no close
pub past_open : (inbox : Incoming ToLedger (Unit {0})) → 0 < clients_left (inbox.senders - 1) inbox.received
    → past_of_inbox inbox ≡ past_of (order_of inbox.received)
past_open inbox some =
    let apart : clients_left (inbox.senders - 1) inbox.received ≢ 0 = omega arith in
    ap (past_with (order_of inbox.received)) (ne_eqb (clients_left (inbox.senders - 1) inbox.received) 0 apart)

-- a past that is open is continued by itself with a close
Continues-closed : (past : Past) (closed : Bool) → past.closed ≡ false
    → Continues past (record { batches = past.batches; closed = closed })
Continues-closed past closed is_open = record {
  batches = record { rest = []; whole = append-nil past.batches };
  shut = λ was. let no : true ≡ false = sym was ∙ is_open in cc;
}

-- ---- the connector's link

-- once these replies were sent, the past that was named last is the one that they name, if there are any
pub named_emitted : (past : Past) (sent : List (ToConnector × Option Past)) (replies : List PollReply)
    → Continues (last_named sent) past
    → Continues (last_named (sent ++ map (λ reply. (OfPoll reply, Some past)) replies)) past
named_emitted past sent [] on =
    subst (λ (l : List (ToConnector × Option Past)). Continues (last_named l) past) (sym (append-nil sent)) on
named_emitted past sent (reply ∷ replies) on =
    let first : ToConnector × Option Past = (OfPoll reply, Some past) in
    let rest : List (ToConnector × Option Past) = map (λ reply. (OfPoll reply, Some past)) replies in
    let named : last_named (sent ++ first ∷ []) ≡ past =
    fold-append (λ (p : Past) (each : ToConnector × Option Past). unwrap_or each.1 p) no_past sent (first ∷ []) in
    subst (λ (l : List (ToConnector × Option Past)). Continues (last_named l) past)
    (append_assoc sent (first ∷ []) rest)
    (named_emitted past (sent ++ first ∷ []) replies
    (subst (λ (p : Past). Continues p past) (sym named) (Continues-same past)))

-- no replies change nothing, and later ones follow the first
pub no_replies : (connector : Outgoing ToConnector (Option Past)) (past : Past)
    → connector ≡ with_replies connector past []
no_replies connector past =
    ap (λ (l : List (ToConnector × Option Past)). record connector { sent = l }) (sym (append-nil connector.sent))

more_replies : (connector : Outgoing ToConnector (Option Past)) (past : Past) (xs ys : List PollReply)
    → with_replies (with_replies connector past xs) past ys ≡ with_replies connector past (xs ++ ys)
more_replies connector past xs ys =
    let f : PollReply → ToConnector × Option Past = λ reply. (OfPoll reply, Some past) in
    ap (λ (l : List (ToConnector × Option Past)). record connector { sent = l })
    (append_assoc connector.sent (map f xs) (map f ys)
    ∙ ap (λ (l : List (ToConnector × Option Past)). connector.sent ++ l) (sym (map-append f xs ys)))

-- ---- the first state

-- no client was sent anything yet
emitted_first : (number : ℕ) (clients : List (Outgoing Reply Past))
    → All (λ client. (client.number ≡ 0) × (client.sent ≡ [])) clients → ReceiveReplies number [] clients
emitted_first number [] all = tt
emitted_first number (c ∷ clients) all =
    let here = all 0 c (omega arith) in
    (here.0, here.1, emitted_first (number + 1) clients (λ k d within. all (suc k) d (omega arith)))

left_first : (n : ℕ) → clients_left n [] ≡ n
left_first zero = refl
left_first (suc n) = let less = left_first n in omega (arith, less)

pub core_first : (inbox : Incoming ToLedger (Unit {0})) (clients : List (Outgoing Reply Past))
    (connector : Outgoing ToConnector (Option Past)) → 0 < length clients → inbox.senders ≡ length clients + 1
    → inbox.received ≡ [] → All (λ client. (client.number ≡ 0) × (client.sent ≡ [])) clients
    → connector.number ≡ 0 → connector.sent ≡ [] → IsLedgerActor (first_ledger inbox clients connector)
core_first inbox clients connector some senders fresh untold own silent =
    let count : inbox.senders - 1 ≡ length clients = omega (arith, senders) in
    let left : clients_left (length clients) inbox.received ≡ length clients =
    ap (clients_left (length clients)) fresh ∙ left_first (length clients) in
    let all : clients_left (inbox.senders - 1) inbox.received ≡ length clients =
    ap (λ (n : ℕ). clients_left n inbox.received) count ∙ left in
    let past : past_of_inbox inbox ≡ no_past =
    past_open inbox (omega (arith, all))
    ∙ ap (λ (r : Received). past_of (order_of r)) fresh in
    record {
      booked = record {
        some = some;
        senders = senders;
        emitted = subst (λ (r : Received). ReceiveReplies 1 (order_of r) clients) (sym fresh)
            (emitted_first 1 clients untold);
        history = ap history_of (sym past);
        left = sym left;
        connector_done = ap (is_done 0) (sym fresh);
        own = own;
        named = subst (λ (l : List (ToConnector × Option Past)). Continues (last_named l) (past_of_inbox inbox))
            (sym silent) (subst (Continues no_past) (sym past) (Continues-same no_past));
        order = ap (λ (r : Received). clients_in (order_of r)) (sym fresh);
      };
      waits = tt;
    }

-- ---- one message more

-- the actor, once it has received this message
abbrev pub with_next_received : LedgerCore → ℕ → ToLedger → LedgerCore
with_next_received d sender message = record d { inbox = with_received d.inbox (sender, (message, tt)) }

module _ (d : LedgerCore) (is : IsBooked d) where
  abbrev received : Received
  received = d.inbox.received

  abbrev order : List (ℕ × Batch)
  order = order_of d.inbox.received

  count : d.inbox.senders - 1 ≡ length d.clients
  count = omega (arith, is.senders)

  -- a message that brings no batch and leaves as many clients leaves the past as it was
  past_same : (sender : ℕ) (message : ToLedger) → batch_in sender message ≡ []
      → ((n : ℕ) → clients_left n (with_message received sender message) ≡ clients_left n received)
      → past_of_inbox (with_received d.inbox (sender, (message, tt))) ≡ past_of_inbox d.inbox
  past_same sender message none left =
      ap₂ (λ (o : List (ℕ × Batch)) (n : ℕ). past_with o (n == 0))
      (order_push received sender message
      ∙ ap (λ (l : List (ℕ × Batch)). order ++ l) none
      ∙ append-nil order)
      (left (d.inbox.senders - 1))

  -- and so all that is kept, if the connector's replies name that past
  quiet : (sender : ℕ) (message : ToLedger) → batch_in sender message ≡ []
      → ((n : ℕ) → clients_left n (with_message received sender message) ≡ clients_left n received)
      → (connector : Outgoing ToConnector (Option Past)) → connector.number ≡ 0
      → Continues (last_named connector.sent) (past_of_inbox d.inbox)
      → (done : Bool) → done ≡ is_done 0 (with_message received sender message) → (kept : Option Poll)
      → IsBooked (record d {
        inbox = with_received d.inbox (sender, (message, tt));
        connector = connector;
        connector_done = done;
        kept = kept;
      })
  quiet sender message none left connector own named done is_now kept =
      let past : past_of_inbox (with_received d.inbox (sender, (message, tt))) ≡ past_of_inbox d.inbox =
      past_same sender message none left in
      let same : order_of (with_message received sender message) ≡ order =
      order_push received sender message
      ∙ ap (λ (l : List (ℕ × Batch)). order ++ l) none
      ∙ append-nil order in
      record {
        some = is.some;
        senders = is.senders;
        emitted = subst (λ (o : List (ℕ × Batch)). ReceiveReplies 1 o d.clients) (sym same) is.emitted;
        history = is.history ∙ ap history_of (sym past);
        left = is.left ∙ sym (left (length d.clients));
        connector_done = is_now;
        own = own;
        named = subst (Continues (last_named connector.sent)) (sym past) named;
        order = is.order ∙ ap clients_in (sym same);
      }

  -- ---- of a client

  module _ (sender : ℕ) (below : sender < d.inbox.senders) (first : 0 < sender)
      (goes_on : is_done sender d.inbox.received ≡ false) where
    within : sender ≤ length d.clients
    within = omega (arith, is.senders)

    -- it is left, so the ledger is open
    some_left : 0 < clients_left (d.inbox.senders - 1) d.inbox.received
    some_left =
        subst (λ (n : ℕ). 0 < clients_left n d.inbox.received) (sym count)
        (left_some (length d.clients) sender d.inbox.received first within goes_on)

    pub past_before : past_of_inbox d.inbox ≡ past_of (order_of d.inbox.received)
    past_before = past_open d.inbox some_left

    pub history_before : d.ledger ≡ history_of (past_of (order_of d.inbox.received))
    history_before = is.history ∙ ap history_of past_before

    pub left_before : 0 < d.clients_left
    left_before =
        subst (λ (n : ℕ). 0 < n) (sym is.left)
        (left_some (length d.clients) sender d.inbox.received first within goes_on)

    apart : sender ≢ 0
    apart = omega (arith, first)

    -- its request has the next number of its batches
    pub number_of : (request : Request) → request.client ≡ sender
        → request.number ≡ length (of_sender sender d.inbox.received) + 1
        → CanSend FollowsToLedger sender (of_sender sender d.inbox.received)
        → request.number ≡ length (batches_by request.client (order_of d.inbox.received)) + 1
    number_of request own number chain =
        number
        ∙ ap (λ (n : ℕ). n + 1) (sym (as_many_batches sender d.inbox.received first chain goes_on))
        ∙ ap (λ (j : ℕ). length (batches_by j (order_of d.inbox.received)) + 1) (sym own)

    -- once it was answered, all that is kept is so of the inbox with the request
    pub booked_request : (request : Request) → request.client ≡ sender
        → (clients : List (Outgoing Reply Past)) (h : History)
        → ReceiveReplies 1 (order_of d.inbox.received ++ (request.client, request.batch) ∷ []) clients
        → h ≡ history_of (past_of (order_of d.inbox.received ++ (request.client, request.batch) ∷ []))
        → links_of clients ≡ links_of d.clients → (noted : List ℕ) → noted ≡ d.order ++ request.client ∷ []
        → IsBooked (record d {
          inbox = with_received d.inbox (sender, (to_ledger.Request request, tt));
          clients = clients;
          ledger = h;
          order = noted;
        })
    booked_request request own clients h emitted history links noted is_noted =
        let message : ToLedger = to_ledger.Request request in
        let inbox : Incoming ToLedger (Unit {0}) = with_received d.inbox (sender, (message, tt)) in
        let same : order_of inbox.received ≡ order ++ (request.client, request.batch) ∷ [] =
        order_push received sender message
        ∙ ap (λ (j : ℕ). order ++ (j, request.batch) ∷ []) (sym own) in
        let left : (n : ℕ) → clients_left n inbox.received ≡ clients_left n received =
        λ n. left_same received sender message n refl in
        let many : length clients ≡ length d.clients =
        sym (length-map clients (λ c. c.link))
        ∙ ap (λ (l : List (LinkId Reply)). length l) links
        ∙ length-map d.clients (λ c. c.link) in
        let open_still : 0 < clients_left (inbox.senders - 1) inbox.received =
        subst (λ (n : ℕ). 0 < n) (sym (left (d.inbox.senders - 1))) some_left in
        let past : past_of_inbox inbox ≡ past_of (order ++ (request.client, request.batch) ∷ []) =
        past_open inbox open_still ∙ ap past_of same in
        let on : Continues (past_of_inbox d.inbox) (past_of_inbox inbox) =
        subst (λ (p : Past). Continues p (past_of_inbox inbox)) (sym past_before)
        (subst (Continues (past_of order)) (sym (past ∙ past_push order (request.client, request.batch)))
        (Continues-batch request.batch (past_of order) refl)) in
        record {
          some = subst (λ (n : ℕ). 0 < n) (sym many) is.some;
          senders = is.senders ∙ ap (λ (n : ℕ). n + 1) (sym many);
          emitted = subst (λ (o : List (ℕ × Batch)). ReceiveReplies 1 o clients) (sym same) emitted;
          history = history ∙ ap history_of (sym past);
          left = is.left
              ∙ ap (λ (n : ℕ). clients_left n received) (sym many)
              ∙ sym (left (length clients));
          connector_done = is.connector_done ∙ sym (done_other received sender message 0 apart);
          own = is.own;
          named = Continues-trans (last_named d.connector.sent) (past_of_inbox d.inbox) (past_of_inbox inbox) is.named
              on;
          order = is_noted ∙ ap (λ (l : List ℕ). l ++ request.client ∷ []) is.order
              ∙ sym (map_push (λ (p : ℕ × Batch). p.0) order (request.client, request.batch))
              ∙ ap clients_in (sym same);
        }

    -- the ledger, closed or not
    closes : (b : Bool) (h made : History) → h ≡ closed_if false made → (if b then shut h else h) ≡ closed_if b made
    closes true h made open_one = ap shut open_one
    closes false h made open_one = open_one

    -- once it was counted as done
    pub booked_done : (number : ℕ) → IsBooked (with_one_done (with_next_received d sender (to_ledger.Done number)))
    booked_done number =
        let message : ToLedger = to_ledger.Done number in
        let inbox : Incoming ToLedger (Unit {0}) = with_received d.inbox (sender, (message, tt)) in
        let n : ℕ = length d.clients in
        let same : order_of inbox.received ≡ order = order_push received sender message ∙ append-nil order in
        let fewer : clients_left n received ≡ clients_left n inbox.received + 1 =
        left_fewer received sender message n first within goes_on refl in
        let left : d.clients_left - 1 ≡ clients_left n inbox.received = omega (arith, is.left, fewer) in
        let all : clients_left (inbox.senders - 1) inbox.received ≡ d.clients_left - 1 =
        ap (λ (k : ℕ). clients_left k inbox.received) count ∙ sym left in
        let closed : Bool = (d.clients_left - 1) == 0 in
        let past : past_of_inbox inbox ≡ past_with order closed =
        ap₂ (λ (o : List (ℕ × Batch)) (k : ℕ). past_with o (k == 0)) same all in
        let on : Continues (past_of_inbox d.inbox) (past_of_inbox inbox) =
        subst (λ (p : Past). Continues p (past_of_inbox inbox)) (sym past_before)
        (subst (Continues (past_of order)) (sym past) (Continues-closed (past_of order) closed refl)) in
        record {
          some = is.some;
          senders = is.senders;
          emitted = subst (λ (o : List (ℕ × Batch)). ReceiveReplies 1 o d.clients) (sym same) is.emitted;
          history = closes closed d.ledger (after_batches empty_history (batches_in order)) history_before
              ∙ ap history_of (sym past);
          left = left;
          connector_done = is.connector_done ∙ sym (done_other received sender message 0 apart);
          own = is.own;
          named = Continues-trans (last_named d.connector.sent) (past_of_inbox d.inbox) (past_of_inbox inbox) is.named
              on;
          order = is.order ∙ ap clients_in (sym same);
        }

  -- ---- of the connector

  -- once a poll is kept in the place of the one before, which was replied
  pub booked_poll : (poll : Poll) (replies : List PollReply)
      → IsBooked (record d {
        inbox = with_received d.inbox (0, (to_ledger.Poll poll, tt));
        connector = with_replies d.connector (past_of_inbox d.inbox) replies;
        kept = Some poll;
      })
  booked_poll poll replies =
      let message : ToLedger = to_ledger.Poll poll in
      quiet 0 message refl (λ n. left_same received 0 message n refl)
      (with_replies d.connector (past_of_inbox d.inbox) replies)
      is.own (named_emitted (past_of_inbox d.inbox) d.connector.sent replies is.named) d.connector_done
      (is.connector_done ∙ sym (done_same received 0 message 0 refl)) (Some poll)

  pub past_poll : (poll : Poll)
      → past_of_inbox (with_received d.inbox (0, (to_ledger.Poll poll, tt))) ≡ past_of_inbox d.inbox
  past_poll poll =
      past_same 0 (to_ledger.Poll poll) refl (λ n. left_same received 0 (to_ledger.Poll poll) n refl)

  -- once the connector is done
  pub booked_finish : IsBooked (record (with_next_received d 0 to_ledger.Finish) { connector_done = true })
  booked_finish =
      let left : (n : ℕ) → clients_left n (with_message received 0 to_ledger.Finish) ≡ clients_left n received =
      λ n. left_other received 0 to_ledger.Finish n refl in
      quiet 0 to_ledger.Finish refl left d.connector is.own is.named true
      (sym (done_now received 0 to_ledger.Finish refl)) d.kept

-- ---- the poll that is kept

waits_kept : (h : History) (kept : Option Poll) → Waits h (kept_of h kept)
waits_kept h None = tt
waits_kept h (Some poll) = cases (has_to_wait h poll) refl
  where
    cases : (b : Bool) → has_to_wait h poll ≡ b → Waits h (if b then Some poll else None)
    cases true waits = waits
    cases false waits = tt

-- once it was looked at, all is kept
pub looked_is : (d : LedgerCore) → IsBooked d → IsLedgerActor (looked_at d)
looked_is d is = record {
  booked = record {
    some = is.some;
    senders = is.senders;
    emitted = is.emitted;
    history = is.history;
    left = is.left;
    connector_done = is.connector_done;
    own = is.own;
    named = named_emitted (past_of_inbox d.inbox) d.connector.sent (replied_of d.ledger d.kept) is.named;
    order = is.order;
  };
  waits = waits_kept d.ledger d.kept;
}

-- ---- what it comes to that a message was received and taken

-- a request
pub taken_request : (d : LedgerCore) → IsLedgerActor d → (request : Request) (inbox : Incoming ToLedger (Unit {0}))
    → IsNext d.inbox (to_ledger.Request request) inbox → (clients : List (Outgoing Reply Past)) (h : History)
    → ReceiveReplies 1 (order_of d.inbox.received ++ (request.client, request.batch) ∷ []) clients
    → h ≡ history_of (past_of (order_of d.inbox.received ++ (request.client, request.batch) ∷ []))
    → links_of clients ≡ links_of d.clients → (noted : List ℕ) → noted ≡ d.order ++ request.client ∷ []
    → IsTaken d (record d { inbox = inbox; clients = clients; ledger = h; order = noted })
taken_request d is request inbox next clients h emitted history links noted is_noted =
    subst (λ (i : Incoming ToLedger (Unit {0})).
    IsTaken d (record d { inbox = i; clients = clients; ledger = h; order = noted })) (sym next.after)
    (record {
      sender = next.sender;
      message = to_ledger.Request request;
      below = next.below;
      follows = next.follows;
      inbox = refl;
      links = links;
      connector = no_replies d.connector
          (past_of_inbox (with_received d.inbox (next.sender, (to_ledger.Request request, tt))));
      kept = refl;
      booked = booked_request d is.booked next.sender next.below next.follows.may.0 next.follows.goes_on request
          next.follows.may.1 clients h emitted history links noted is_noted;
    })

-- the last message of a client
pub taken_done : (d : LedgerCore) → IsLedgerActor d → (number : ℕ) (inbox : Incoming ToLedger (Unit {0}))
    → IsNext d.inbox (to_ledger.Done number) inbox → IsTaken d (with_one_done (record d { inbox = inbox }))
taken_done d is number inbox next =
    subst (λ (i : Incoming ToLedger (Unit {0})). IsTaken d (with_one_done (record d { inbox = i }))) (sym next.after)
    (record {
      sender = next.sender;
      message = to_ledger.Done number;
      below = next.below;
      follows = next.follows;
      inbox = refl;
      links = refl;
      connector = no_replies d.connector
          (past_of_inbox (with_received d.inbox (next.sender, (to_ledger.Done number, tt))));
      kept = refl;
      booked = booked_done d is.booked next.sender next.below next.follows.may.0 next.follows.goes_on number;
    })

-- what the connector has sent, whose endpoint is the first
from_connector : (inbox after : Incoming ToLedger (Unit {0})) (message : ToLedger) (next : IsNext inbox message after)
    → next.sender ≡ 0
    → (0 < inbox.senders)
    × FollowsToLedger 0 (of_sender 0 inbox.received) (message, tt)
    × (after ≡ with_received inbox (0, (message, tt)))
from_connector inbox after message next own = (
  subst (λ (j : ℕ). j < inbox.senders) own next.below,
  subst (λ (j : ℕ). FollowsToLedger j (of_sender j inbox.received) (message, tt)) own next.follows,
  next.after ∙ ap (λ (j : ℕ). with_received inbox (j, (message, tt))) own,
)

-- a poll
pub taken_poll : (d : LedgerCore) → IsLedgerActor d → (poll : Poll) (inbox : Incoming ToLedger (Unit {0}))
    → IsNext d.inbox (to_ledger.Poll poll) inbox → (past : Past) → past ≡ past_of_inbox d.inbox
    → (connector : Outgoing ToConnector (Option Past))
    → connector ≡ with_replies d.connector past (replies_of d.ledger d.kept)
    → IsTaken d (record d { inbox = inbox; connector = connector; kept = Some poll })
taken_poll d is poll inbox next past named connector emitted =
    let own = from_connector d.inbox inbox (to_ledger.Poll poll) next next.follows.may in
    let replies : List PollReply = replies_of d.ledger d.kept in
    let is_emitted : connector ≡ with_replies d.connector (past_of_inbox d.inbox) replies =
    emitted ∙ ap (λ (p : Past). with_replies d.connector p replies) named in
    let same : past_of_inbox (with_received d.inbox (0, (to_ledger.Poll poll, tt))) ≡ past_of_inbox d.inbox =
    past_poll d is.booked poll in
    subst (λ (i : Incoming ToLedger (Unit {0})). IsTaken d (record d {
      inbox = i;
      connector = connector;
      kept = Some poll;
    })) (sym own.2)
    (subst (λ (o : Outgoing ToConnector (Option Past)). IsTaken d (record d {
      inbox = with_received d.inbox (0, (to_ledger.Poll poll, tt));
      connector = o;
      kept = Some poll;
    })) (sym is_emitted)
    (record {
      sender = 0;
      message = to_ledger.Poll poll;
      below = own.0;
      follows = own.1;
      inbox = refl;
      links = refl;
      connector = ap (λ (p : Past). with_replies d.connector p replies) (sym same);
      kept = refl;
      booked = booked_poll d is.booked poll replies;
    }))

-- the connector's last message
pub taken_finish : (d : LedgerCore) → IsLedgerActor d → (inbox : Incoming ToLedger (Unit {0}))
    → IsNext d.inbox to_ledger.Finish inbox → IsTaken d (record d { inbox = inbox; connector_done = true })
taken_finish d is inbox next =
    let own = from_connector d.inbox inbox to_ledger.Finish next next.follows.may in
    subst (λ (i : Incoming ToLedger (Unit {0})). IsTaken d (record d { inbox = i; connector_done = true }))
    (sym own.2)
    (record {
      sender = 0;
      message = to_ledger.Finish;
      below = own.0;
      follows = own.1;
      inbox = refl;
      links = refl;
      connector = no_replies d.connector (past_of_inbox (with_received d.inbox (0, (to_ledger.Finish, tt))));
      kept = refl;
      booked = booked_finish d is.booked;
    })

-- so a message that was taken, and then a look, are a turn
pub served_so : (old mid : LedgerCore) → IsTaken old mid → IsLedgerTurn old (looked_at mid)
served_so old mid taken = record {
  sender = taken.sender;
  message = taken.message;
  below = taken.below;
  follows = taken.follows;
  inbox = taken.inbox;
  links = taken.links;
  connector = ap₂ (λ (c : Outgoing ToConnector (Option Past)) (k : Option Poll).
      with_replies c (past_of_inbox mid.inbox) (replied_of mid.ledger k)) taken.connector taken.kept
      ∙ more_replies old.connector (past_of_inbox mid.inbox) (replied_first mid.ledger old.kept taken.message)
      (replied_of mid.ledger (asked old.kept taken.message));
  kept = ap (kept_of mid.ledger) taken.kept;
  is = looked_is mid taken.booked;
}
