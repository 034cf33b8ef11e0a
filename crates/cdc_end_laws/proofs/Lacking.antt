-- What each actor has sent lacks one message at most of what it owes.
use Rattle.cdc_end_laws.proofs.Words.{Bool, Broken, BrokerCore, BrokersComeSoFar, BrokersLackOne, ClientsLackOne, Confirm, ConnectorsKeepToRuns, Dealings, HasBrokerSaid, HasClientSaid, HasLedgerSaid, HasSubscriberSaid, IsBrokerSoFar, IsLedgerSoFar, Lacks, LedgerCore, LedgersComeSoFar, LedgersLackOne, List, None, Option, Outgoing, Packet, Past, ReceiveReplies, Some, SubscriberCore, SubscribersLackOne, ToLedger, [], ack_of, answer_after, ap, append-nil, append_assoc, arith, as_confirm, cases_Bool, cond, confirm_of, dealings, dealings_of, false, fold-append, history_of, inl, inr, is_lost, length, length-append, length-map, map, map-append, no_dealings, of_sender, order_of, packets_in, refl, slice_get, subst, suc, sym, taken_by, taken_of, true, unwrap_or, with_packet, zero, ℕ, ◌++◌, ◌+◌, ◌==◌, ◌∙◌, ◌∷◌, ◌≡◌, ◌≤◌}
use Rattle.cdc_types.specs.declared.batches.Batch.{Batch}
use Rattle.cdc_traffic.specs.declared.requests.Reply.{Reply}
use Rattle.cdc_ledger_actors.specs.Client.{ClientCore, done_if, request_for, requests_from}
use Rattle.cdc_ledger_actors.specs.Client.SoFar.{ClientsComeSoFar, IsClientSoFar}
use Rattle.cdc_actors.specs.SoFar.{ConnectorsComeSoFar}
use Rattle.cdc_ledger_actors.specs.Orders.{RepliesAreSent, batches_in, named_replies_of, named_replies_to, past_of, reply_after}
use Rattle.cdc_broker_actors.specs.Subscriber.SoFar.{IsSubscriberSoFar, SubscribersComeSoFar}
use Rattle.cdc_broker_actors.specs.declared.broker.plans.BrokerPlan.{BrokerPlan}

-- ---- lists

-- a list lacks nothing of itself
lacks_none : {X : Type 0} (xs : List X) → Lacks 1 xs xs
lacks_none xs = record { rest = []; whole = append-nil xs; few = omega arith }

-- what lacks so many lacks as many after each element is changed
lacks_mapped : {X Y : Type 0} (f : X → Y) (some rest all : List X) → all ≡ some ++ rest → length rest ≤ 1
    → Lacks 1 (map f some) (map f all)
lacks_mapped f some rest all whole few = record {
  rest = map f rest;
  whole = sym (map-append f some rest) ∙ sym (ap (map f) whole);
  few = omega (arith, few, length-map rest f);
}

-- ---- a subscriber

-- the acknowledged deliveries, or all of them
subscriber_said : (c : SubscriberCore) → IsSubscriberSoFar c → HasSubscriberSaid c
subscriber_said c so_far =
    let acked : Lacks 1 (map (λ m. m.0) c.acks.sent) (map (ack_of c.number) (taken_by c.inbox)) =
    subst (λ sent. Lacks 1 sent (map (ack_of c.number) (taken_by c.inbox))) (sym so_far.acks)
    (lacks_mapped (ack_of c.number) so_far.acknowledged so_far.rest (taken_by c.inbox) so_far.all so_far.at_most_one) in
    elim so_far.keeps [
      | inl fewer ↦
          record {
            acknowledged = acked;
            taken = so_far.acknowledged;
            all = record { rest = so_far.rest; whole = sym so_far.all; few = so_far.at_most_one };
            keeps = fewer;
          }
      | inr whole ↦
          record { acknowledged = acked; taken = taken_by c.inbox; all = lacks_none (taken_by c.inbox); keeps = whole }
    ]

pub subscribers_lack_one : SubscribersComeSoFar → SubscribersLackOne
subscribers_lack_one law c (inl is) = subscriber_said c (law.between c is)
subscribers_lack_one law c (inr (old, fault, (was, failed))) = subscriber_said c (law.failed old fault c was failed)

-- ---- a client

-- a client that has finished has one message more, its last one, and another has the request that it waits for
rest_of : (c : ClientCore) → IsClientSoFar c → (finished : Bool) → c.finished ≡ finished
    → Lacks 1 (requests_from c.number 1 c.replies) (map (λ m. m.0) c.requests.sent)
rest_of c so_far true over =
    let owed : List ToLedger = requests_from c.number 1 c.replies in
    let sent : map (λ m. m.0) c.requests.sent ≡ owed ++ done_if true c.number =
    so_far.dispatched
    ∙ ap (λ (asked : List Batch).
    owed ++ map (request_for c.number (length c.replies + 1)) asked ++ done_if c.finished c.number)
    (so_far.over over)
    ∙ ap (λ (b : Bool). owed ++ [] ++ done_if b c.number) over
    ∙ ap (λ (l : List ToLedger). l ++ done_if true c.number) (append-nil owed) in
    record { rest = done_if true c.number; whole = sym sent; few = omega arith }
rest_of c so_far false over =
    let owed : List ToLedger = requests_from c.number 1 c.replies in
    let asked : List ToLedger = map (request_for c.number (length c.replies + 1)) so_far.asked in
    let sent : map (λ m. m.0) c.requests.sent ≡ owed ++ asked =
    so_far.dispatched ∙ ap (λ (b : Bool). owed ++ asked ++ done_if b c.number) over ∙ append-nil (owed ++ asked) in
    record {
      rest = asked;
      whole = sym sent;
      few = omega (arith, so_far.one_more, length-map so_far.asked (request_for c.number (length c.replies + 1)));
    }

client_said : (c : ClientCore) → IsClientSoFar c → HasClientSaid c
client_said c so_far = record {
  asked = rest_of c so_far c.finished refl;
  kept = record {
    rest = so_far.unkept;
    whole = sym so_far.reception;
    few = omega (arith, so_far.few, so_far.one_more);
  };
}

pub clients_lack_one : ClientsComeSoFar → ClientsLackOne
clients_lack_one law c (inl is) = client_said c (law.between c is)
clients_lack_one law c (inr (old, fault, (was, (batch, (working, asks))))) =
    client_said c (law.failed batch old fault c was working asks)

-- ---- the connector

pub connectors_keep_to_runs : ConnectorsComeSoFar → ConnectorsKeepToRuns
connectors_keep_to_runs law c (inl is) = law.runs c (law.between c is)
connectors_keep_to_runs law c (inr (old, fault, (was, failed))) = law.runs c failed.so_far

-- ---- the ledger

-- the replies for one batch are one at most
one_reply : (client : ℕ) (before : List (ℕ × Batch)) (p : ℕ × Batch) → length (named_replies_of client before p) ≤ 1
one_reply client before p =
    let Few : Bool → Type 0 = λ b.
    length {A = Reply × Past} (cond b ((reply_after client before p.1, past_of before) ∷ []) []) ≤ 1 in
    elim (cases_Bool (p.0 == client)) [
      | inl own ↦ subst Few (sym own) (omega arith)
      | inr other ↦ subst Few (sym other) (omega arith)
    ]

-- so what is owed to a client for a batch more is one reply more at most
lacks_reply : RepliesAreSent → (client : ℕ) (some rest all : List (ℕ × Batch)) → all ≡ some ++ rest → length rest ≤ 1
    → Lacks 1 (named_replies_to client some) (named_replies_to client all)
lacks_reply law client some [] all whole few =
    subst (λ (l : List (ℕ × Batch)). Lacks 1 (named_replies_to client some) (named_replies_to client l))
    (sym (whole ∙ append-nil some)) (lacks_none (named_replies_to client some))
lacks_reply law client some (p ∷ []) all whole few =
    record {
      rest = named_replies_of client some p;
      whole = sym (law client some p) ∙ sym (ap (named_replies_to client) whole);
      few = one_reply client some p;
    }
lacks_reply law client some (p ∷ q ∷ rest) all whole few = absurd (omega (arith, few))

-- over these links, the client at each place was sent its replies
reply_at : (number : ℕ) (order : List (ℕ × Batch)) (clients : List (Outgoing Reply Past)) (place : ℕ)
    (client : Outgoing Reply Past) → ReceiveReplies number order clients → slice_get clients place ≡ Some client
    → client.sent ≡ named_replies_to (number + place) order
reply_at number order [] place client are is = let no : None ≡ Some client = is in cc
reply_at number order (first ∷ clients) zero client are is =
    let same : first ≡ client = ap (λ (o : Option (Outgoing Reply Past)). unwrap_or o first) is in
    ap (λ (c : Outgoing Reply Past). c.sent) (sym same) ∙ are.1
    ∙ ap (λ (n : ℕ). named_replies_to n order) (omega arith)
reply_at number order (first ∷ clients) (suc place) client are is =
    reply_at (number + 1) order clients place client are.2 is
    ∙ ap (λ (n : ℕ). named_replies_to n order) (omega arith)

ledger_said : RepliesAreSent → (d : LedgerCore) → IsLedgerSoFar d → HasLedgerSaid d
ledger_said law d so_far =
    let left : List (ℕ × Batch) = so_far.unreplied ++ so_far.unsubmitted in
    let all : order_of d.inbox.received ≡ so_far.replied ++ left =
    so_far.all ∙ ap (λ (l : List (ℕ × Batch)). l ++ so_far.unsubmitted) so_far.answered
    ∙ append_assoc so_far.replied so_far.unreplied so_far.unsubmitted in
    let few : length left ≤ 1 =
    omega (arith, so_far.at_most_one, length-append so_far.unreplied so_far.unsubmitted) in
    record {
      taken = batches_in so_far.submitted;
      booked = lacks_mapped (λ p. p.1) so_far.submitted so_far.unsubmitted (order_of d.inbox.received) so_far.all
          (omega (arith, so_far.at_most_one));
      ledger = so_far.history ∙ ap history_of so_far.past_is;
      replied = λ place client is.
          subst (λ sent. Lacks 1 sent (named_replies_to (place + 1) (order_of d.inbox.received)))
          (sym (reply_at 1 so_far.replied d.clients place client so_far.emitted is
          ∙ ap (λ (n : ℕ). named_replies_to n so_far.replied) (omega arith)))
          (lacks_reply law (place + 1) so_far.replied left (order_of d.inbox.received) all few);
    }

pub ledgers_lack_one : RepliesAreSent → LedgersComeSoFar → LedgersLackOne
ledgers_lack_one sends law d (inl is) = ledger_said sends d (law.between d is)
ledgers_lack_one sends law d (inr (old, fault, (was, failed))) = ledger_said sends d (law.failed old fault d was failed)

-- ---- the broker

-- one packet more has one confirm more
one_confirm : (plan : BrokerPlan) (d : Dealings) (packet : Packet) (lost : Bool)
    → is_lost plan d.publishes packet ≡ lost
    → (more : Confirm) × ((with_packet plan d packet).confirms ≡ d.confirms ++ more ∷ [])
one_confirm plan d packet true is = (confirm_of packet Broken, rw is refl)
one_confirm plan d packet false is =
    (confirm_of packet (answer_after plan (taken_of d.arrived) packet), rw is refl)

-- what is owed for all packets received, if so many have come and so many of their confirms were sent
lacks_confirm : (plan : BrokerPlan) (packets come uncome : List Packet) (confirms unsent : List Confirm)
    → packets ≡ come ++ uncome → (dealings plan come).confirms ≡ confirms ++ unsent
    → length uncome + length unsent ≤ 1
    → Lacks 1 (map as_confirm confirms) (map as_confirm (dealings plan packets).confirms)
lacks_confirm plan packets come [] confirms unsent all answered few =
    let same : (dealings plan packets).confirms ≡ confirms ++ unsent =
    ap (λ (ps : List Packet). (dealings plan ps).confirms) (all ∙ append-nil come) ∙ answered in
    lacks_mapped as_confirm confirms unsent (dealings plan packets).confirms same (omega (arith, few))
lacks_confirm plan packets come (packet ∷ []) confirms [] all answered few =
    let (more, one) = one_confirm plan (dealings plan come) packet
    (is_lost plan (dealings plan come).publishes packet) refl in
    let same : (dealings plan packets).confirms ≡ confirms ++ more ∷ [] =
    ap (λ (ps : List Packet). (dealings plan ps).confirms) all
    ∙ ap (λ (d : Dealings). d.confirms) (fold-append (with_packet plan) no_dealings come (packet ∷ []))
    ∙ one
    ∙ ap (λ (cs : List Confirm). cs ++ more ∷ []) (answered ∙ append-nil confirms) in
    lacks_mapped as_confirm confirms (more ∷ []) (dealings plan packets).confirms same (omega arith)
lacks_confirm plan packets come (packet ∷ []) confirms (confirm ∷ unsent) all answered few = absurd (omega (arith, few))
lacks_confirm plan packets come (packet ∷ other ∷ uncome) confirms unsent all answered few = absurd (omega (arith, few))

broker_said : (d : BrokerCore) → IsBrokerSoFar d → HasBrokerSaid d
broker_said d so_far = record {
  confirmed =
      subst (λ sent. Lacks 1 sent (map as_confirm (dealings_of d).confirms)) (sym so_far.confirmed)
      (lacks_confirm d.plan (packets_in (of_sender 0 d.inbox.received)) so_far.come so_far.uncome so_far.confirms
      so_far.unsent so_far.all so_far.answered so_far.at_most_one);
  delivered = λ place c is. (so_far.served place c is).replay;
}

pub brokers_lack_one : BrokersComeSoFar → BrokersLackOne
brokers_lack_one law d (inl is) = broker_said d (law d is)
brokers_lack_one law d (inr (old, fault, (was, failed))) = broker_said d failed.so_far
