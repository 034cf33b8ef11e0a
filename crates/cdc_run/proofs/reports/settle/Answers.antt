use Rattle.cdc_run.proofs.Words.{ActorState, AllCome, AreFinished, ArePacketsTo, AreSubscribed, AreSubscribersOf, BrokerHasFinishedWith, ConnectorCore, History, LedgerHasFinishedWith, List, Middle, Outgoing, SubscriberCore, SubscriberState, ToBroker, and_parts, ap, arith, broker_seat, false, false≢true, has_finished, inr, is_none, map, map-map, refl, rules, subst, sym, true, works_of, ℕ, ◌∙◌, ◌≡◌}
use Rattle.cdc_run.proofs.Refused.{asked_more, passed_on}
use Rattle.cdc_run.proofs.Reported.{all_subscribed, books_of, finished, finished_honest, left_by, start_known, streams_of}
use Rattle.cdc_run.proofs.Seated.{AreBetween, joined, polls_to, wired}
use Rattle.cdc_run.proofs.Totals.{is_count}
use Rattle.cdc_run.proofs.reports.settle.Goals as goal

pub settle_books-requires-clause-polls : goal.settle_books-requires-clause-polls
settle_books-requires-clause-polls g c =
    let same : c.args.ends.connector.system ≡ c.args.ends.ledger.system = first_of (cc, search rules) in
    polls_to c.requires.0 c.args.ends c.requires.1 c.in-Some.parts.polls same c.in-Some.ensures.kept
    c.in-Some.ensures.parts.asked

pub settle_books-requires-clause-wired : goal.settle_books-requires-clause-wired
settle_books-requires-clause-wired g c = λ are. wired c.requires.0 c.args.ends c.requires.1 are

pub settle_streams-requires : goal.settle_streams-requires
settle_streams-requires g c = λ its are.
    let ends = c.args.ends in
    let parts = c.in-Some.parts in
    let is = c.in-Some.ensures.parts in
    let same : ends.connector.system ≡ ends.ledger.system = first_of (cc, search rules) in
    let named : c.system-system.result ≡ ends.ledger.system = c.system-system.ensures in
    let m : Middle = record {
      inbox = parts.inbox;
      replies = c.in_ok-books.books.connector;
      packets = parts.packets;
    } in
    let between : AreBetween ends m = record {
      same = same;
      connector = c.in-Some.ensures.kept;
      inbox = is.received;
      replies = c.in_ok-books.ensures.connector;
      packets = is.sent;
    } in
    joined c.requires.0 ends c.requires.1 m between (its ∙ named)
    (subst (λ (n : ℕ). AreSubscribersOf n 1 ends.subscribers.items) named are)

pub returns-clause-report : goal.returns-clause-report
returns-clause-report g c =
    let ends = c.args.ends in
    let parts = c.in-Some.parts in
    let is = c.in-Some.ensures.parts in
    let books = c.in_ok-books.ensures in
    let streams = c.in_ok-streams.ensures in
    let same : ends.connector.system ≡ ends.ledger.system = first_of (cc, search rules) in
    let named : c.system-system.result ≡ ends.ledger.system = c.system-system.ensures in
    let m : Middle = record {
      inbox = parts.inbox;
      replies = c.in_ok-books.books.connector;
      packets = parts.packets;
    } in
    let between : AreBetween ends m = record {
      same = same;
      connector = c.in-Some.ensures.kept;
      inbox = is.received;
      replies = books.connector;
      packets = is.sent;
    } in
    let over : has_finished (λ (c : ConnectorCore). c.finished) ends.connector ≡ true = sym c.in-Some.ensures.some in
    let subscribers : List (ActorState SubscriberCore) = ends.subscribers.items in
    let broker : BrokerHasFinishedWith ends.ledger.system ends.broker subscribers =
    subst (λ (n : ℕ). BrokerHasFinishedWith n ends.broker subscribers) named streams.finished in
    let own : parts.packets.number ≡ 0 =
    ap (λ (o : Outgoing ToBroker (Unit {0})). o.number) is.sent ∙ c.in-Some.ensures.kept.publishing.wired.packets in
    let came : ArePacketsTo ends.broker.work.inbox ends.connector.work.packets.sent =
    subst (λ (o : Outgoing ToBroker (Unit {0})). ArePacketsTo ends.broker.work.inbox o.sent) is.sent
    (streams.packets own) in
    record {
      finished = finished ends books.finished over same broker;
      order = books.order;
      replies = books.replies;
      books = books.books;
      counts = is_count ends.connector ends.broker c.in_ok-counts.counts c.in-Some.ensures.kept
          (and_parts (is_none ends.connector.fault) ends.connector.work.finished over).1 streams.core
          (and_parts (is_none ends.broker.fault) ends.broker.work.finished broker.over).1 came
          c.in_ok-counts.ensures;
      deliveries = streams.deliveries
          ∙ map-map (λ (s : SubscriberCore). s.arrivals) (λ (s : ActorState SubscriberCore). s.work) subscribers;
      received = streams.received;
      honest = finished_honest ends.connector.work c.in-Some.ensures.kept
          (and_parts (is_none ends.connector.fault) ends.connector.work.finished over).1;
      subscribers = λ start seat.
          let come : AllCome ends.ledger.work start ends.broker.work 0 (works_of subscribers) =
          subst (λ (n : ℕ). AllCome ends.ledger.work n ends.broker.work 0 (works_of subscribers))
          (start_known ends start seat)
          (streams.come ends.ledger.work ends.connector.work (left_by ends m between books.core over start seat)) in
          subst (λ (h : History). AreSubscribed h start (broker_seat ends.broker.work).bindings
          (map (λ (s : ActorState SubscriberCore). s.work.close_after) subscribers)
          c.in_ok-streams.streams.subscribers.items) (sym books.ledger)
          (subst (λ (kept : List SubscriberState).
          AreSubscribed ends.ledger.work.ledger start (broker_seat ends.broker.work).bindings
          (map (λ (s : ActorState SubscriberCore). s.work.close_after) subscribers) kept) (sym streams.keeps)
          (all_subscribed ends.ledger.work start ends.broker.work subscribers come
          (broker.count ∙ sym streams.core.core.queues)));
    }

-- the connector is of another system
pub returns-then-system-clause-refused : goal.returns-then-system-clause-refused
returns-then-system-clause-refused g c =
    inr (
      refl,
      λ fit.
          let same : c.args.ends.connector.system ≡ c.args.ends.ledger.system = fit.connector_system in
          c.if-system.true (first_of (omega (arith, same), search rules, cc)),
    )

-- it hasn't finished, or has met a fault
pub returns-in_default-clause-refused : goal.returns-in_default-clause-refused
returns-in_default-clause-refused g c =
    inr (
      refl,
      λ fit.
          let over : has_finished (λ (c : ConnectorCore). c.finished) c.args.ends.connector ≡ true = fit.connector in
          let not_over : false ≡ has_finished (λ (c : ConnectorCore). c.finished) c.args.ends.connector =
          c.in_default.ensures.some in
          false≢true (not_over ∙ over),
    )

-- the ledger actor and the clients aren't as required
pub returns-in_err-books-clause-refused : goal.returns-in_err-books-clause-refused
returns-in_err-books-clause-refused g c =
    let ends = c.args.ends in
    passed_on (AreFinished ends) c.from_residual-in_err-books.result c.in_err-books.field-0.0
    c.from_residual-in_err-books.ensures.1
    (asked_more (LedgerHasFinishedWith ends.ledger ends.clients.items) (AreFinished ends) c.in_err-books.field-0.0
    (books_of ends) c.in_err-books.ensures.refused)

-- the broker actor and the subscribers aren't
pub returns-in_err-streams-clause-refused : goal.returns-in_err-streams-clause-refused
returns-in_err-streams-clause-refused g c =
    let ends = c.args.ends in
    let named : c.system-system.result ≡ ends.ledger.system = c.system-system.ensures in
    passed_on (AreFinished ends) c.from_residual-in_err-streams.result c.in_err-streams.field-0.0
    c.from_residual-in_err-streams.ensures.1
    (asked_more (BrokerHasFinishedWith c.system-system.result ends.broker ends.subscribers.items) (AreFinished ends)
    c.in_err-streams.field-0.0
    (λ fit. subst (λ (n : ℕ). BrokerHasFinishedWith n ends.broker ends.subscribers.items) (sym named)
    (streams_of ends fit)) c.in_err-streams.ensures.refused)
