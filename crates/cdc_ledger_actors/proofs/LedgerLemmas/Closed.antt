-- What holds of a ledger actor that has finished.
use Rattle.std.proofs.Common.{◌≡◌, ◌==◌, ℕ, zero, suc, ◌+◌, ◌-◌, ◌<◌, ◌≤◌, Bool, true, false, Option, Some, None, List, [], ◌∷◌, refl, sym, ap, ◌∙◌, length, eq-eqb, arith}
use Rattle.std.specs.Prelude.{◌&&◌, not, slice_get}
use Rattle.std.proofs.lemmas.Bool.{eqb-true}
use Rattle.cdc_ledger_actors.specs.Ledger.{ReceiveReplies, ClientsReceiveReplies, FinishedLedgersAreClosed, Waits, clients_left, is_done, order_of, past_of_inbox}
use Rattle.cdc_ledger_actors.specs.Orders.{named_replies_to}
use Rattle.cdc_ledger_actors.proofs.LedgerLemmas.Turns.{past_with}
use Rattle.cdc_ledger_actors.proofs.LedgerLemmas.Receipts.{Received, left_some}
use Rattle.cdc_ledger.specs.History.{History}
use Rattle.cdc_links.specs.Links.{Outgoing}
use Rattle.cdc_traffic.specs.Pasts.{history_of}
use Rattle.cdc_traffic.specs.declared.pasts.Past.{Past}
use Rattle.cdc_traffic.specs.declared.polls.Poll.{Poll}
use Rattle.cdc_traffic.specs.declared.requests.Reply.{Reply}
use Rattle.cdc_types.specs.declared.batches.Batch.{Batch}

-- two tests that hold together
both : (a b : Bool) → (a && b) ≡ true → (a ≡ true) × (b ≡ true)
both true b holds = (refl, holds)
both false b holds = cc

-- if no client is left, each one is done
all_done : (n client : ℕ) (received : Received) → 0 < client → client ≤ n → clients_left n received ≡ 0
    → is_done client received ≡ true
all_done n client received first last none = cases (is_done client received) refl
  where
    cases : (b : Bool) → is_done client received ≡ b → is_done client received ≡ true
    cases true is = is
    cases false is =
        let some : 0 < clients_left n received = left_some n client received first last is in absurd (omega arith)

-- no poll waits for a closed ledger
none_waits : (h : History) (kept : Option Poll) → h.closed ≡ true → Waits h kept → kept ≡ None
none_waits h None closed waits = refl
none_waits h (Some poll) closed waits =
    let no : not true ≡ true = sym (ap not closed) ∙ (both (not h.closed) _ waits).0 in cc

pub finished_ledgers_are_closed : FinishedLedgersAreClosed
finished_ledgers_are_closed d is over =
    let ends = both (d.clients_left == 0) d.connector_done over in
    let none : clients_left (length d.clients) d.inbox.received ≡ 0 =
    sym is.booked.left ∙ eqb-true d.clients_left 0 ends.0 in
    let count : d.inbox.senders - 1 ≡ length d.clients = omega (arith, is.booked.senders) in
    let all : clients_left (d.inbox.senders - 1) d.inbox.received ≡ 0 =
    ap (λ (n : ℕ). clients_left n d.inbox.received) count ∙ none in
    let closed : past_of_inbox d.inbox ≡ past_with (order_of d.inbox.received) true =
    ap (past_with (order_of d.inbox.received)) (eq-eqb (clients_left (d.inbox.senders - 1) d.inbox.received) 0 all) in
    let history : d.ledger ≡ history_of (past_with (order_of d.inbox.received) true) =
    is.booked.history ∙ ap history_of closed in
    record {
      clients_done = λ client first last. all_done (length d.clients) client d.inbox.received first last none;
      connector_done = sym is.booked.connector_done ∙ ends.1;
      history = history;
      none_waits = none_waits d.ledger d.kept (ap (λ (h : History). h.closed) history) is.waits;
    }

-- over the link at each place
emitted_there : (number place : ℕ) (order : List (ℕ × Batch)) (clients : List (Outgoing Reply Past))
    (client : Outgoing Reply Past) → ReceiveReplies number order clients → slice_get clients place ≡ Some client
    → (client.number ≡ 0) × (client.sent ≡ named_replies_to (place + number) order)
emitted_there number place order [] client emitted found = cc
emitted_there number zero order (first ∷ clients) client emitted found =
    let is : first ≡ client = cc in
    let same : number ≡ 0 + number = omega arith in (
      sym (ap (λ (o : Outgoing Reply Past). o.number) is) ∙ emitted.0,
      sym (ap (λ (o : Outgoing Reply Past). o.sent) is) ∙ emitted.1 ∙ ap (λ (n : ℕ). named_replies_to n order) same,
    )
emitted_there number (suc place) order (first ∷ clients) client emitted found =
    let there = emitted_there (number + 1) place order clients client emitted.2 found in
    let same : place + (number + 1) ≡ suc place + number = omega arith in
    (there.0, there.1 ∙ ap (λ (n : ℕ). named_replies_to n order) same)

pub clients_receive_replies : ClientsReceiveReplies
clients_receive_replies d place client is found =
    emitted_there 1 place (order_of d.inbox.received) d.clients client is.booked.emitted found
