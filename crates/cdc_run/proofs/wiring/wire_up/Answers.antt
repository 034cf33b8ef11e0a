use Rattle.cdc_run.proofs.Words.{AreWired, Option, Outgoing, Past, ToBroker, ToConnector, ToLedger, ap, arith, fresh_from, length, subst, sym, vec_len, ◌∙◌}
use Rattle.cdc_run.proofs.RunMade.{all_unused, are_made, as_many}
use Rattle.cdc_run.proofs.wiring.wire_up.Goals as goal

pub make_clients-requires-clause-requests : goal.make_clients-requires-clause-requests
make_clients-requires-clause-requests g c =
    let w = c.in_ok-wires.wires in
    let wired : AreWired c.args.config.clients (vec_len c.args.config.bindings) w = c.in_ok-wires.ensures in
    (w.to_ledger.link, wired.requests ∙ ap (λ n. fresh_from w.to_ledger.link 1 n) (sym wired.clients))

pub make_clients-requires-clause-answers : goal.make_clients-requires-clause-answers
make_clients-requires-clause-answers g c =
    let wired : AreWired c.args.config.clients (vec_len c.args.config.bindings) c.in_ok-wires.wires =
    c.in_ok-wires.ensures in
    wired.replies.fresh

pub make_subscribers-requires-clause-acks : goal.make_subscribers-requires-clause-acks
make_subscribers-requires-clause-acks g c =
    let w = c.in_ok-wires.wires in
    let wired : AreWired c.args.config.clients (vec_len c.args.config.bindings) w = c.in_ok-wires.ensures in
    (w.to_broker.link, wired.acks ∙ ap (λ n. fresh_from w.to_broker.link 1 n) (sym wired.subscribers))

pub make_subscribers-requires-clause-inboxes : goal.make_subscribers-requires-clause-inboxes
make_subscribers-requires-clause-inboxes g c =
    let wired : AreWired c.args.config.clients (vec_len c.args.config.bindings) c.in_ok-wires.wires =
    c.in_ok-wires.ensures in
    wired.deliveries.fresh

-- ---- the broker actor

pub new-requires-clause-fresh : goal.new-requires-clause-fresh
new-requires-clause-fresh g c =
    let w = c.in_ok-wires.wires in
    let wired : AreWired c.args.config.clients (vec_len c.args.config.bindings) w = c.in_ok-wires.ensures in
    wired.to_broker.received

pub new-requires-clause-senders : goal.new-requires-clause-senders
new-requires-clause-senders g c =
    let w = c.in_ok-wires.wires in
    let wired : AreWired c.args.config.clients (vec_len c.args.config.bindings) w = c.in_ok-wires.ensures in
    omega (
      arith,
      wired.to_broker.senders,
      wired.subscribers,
      w.deliveries.ok.0,
      as_many w.deliveries.items w.inboxes.items wired.deliveries,
    )

pub new-requires-clause-own : goal.new-requires-clause-own
new-requires-clause-own g c =
    let w = c.in_ok-wires.wires in
    let wired : AreWired c.args.config.clients (vec_len c.args.config.bindings) w = c.in_ok-wires.ensures in
    ap (λ (o : Outgoing ToConnector (Option Past)). o.number) wired.confirms

pub new-requires-clause-silent : goal.new-requires-clause-silent
new-requires-clause-silent g c =
    let w = c.in_ok-wires.wires in
    let wired : AreWired c.args.config.clients (vec_len c.args.config.bindings) w = c.in_ok-wires.ensures in
    ap (λ (o : Outgoing ToConnector (Option Past)). o.sent) wired.confirms

pub new-requires-clause-fresh_links : goal.new-requires-clause-fresh_links
new-requires-clause-fresh_links g c =
    let w = c.in_ok-wires.wires in
    let wired : AreWired c.args.config.clients (vec_len c.args.config.bindings) w = c.in_ok-wires.ensures in
    all_unused w.deliveries.items w.inboxes.items wired.deliveries

pub new-requires-clause-queues : goal.new-requires-clause-queues
new-requires-clause-queues g c =
    let w = c.in_ok-wires.wires in
    let wired : AreWired c.args.config.clients (vec_len c.args.config.bindings) w = c.in_ok-wires.ensures in
    omega (
      arith,
      wired.subscribers,
      w.deliveries.ok.0,
      as_many w.deliveries.items w.inboxes.items wired.deliveries,
    )

-- ---- the ledger actor

pub new-requires-2-clause-some : goal.new-requires-2-clause-some
new-requires-2-clause-some g c =
    let w = c.in_ok-wires.wires in
    let wired : AreWired c.args.config.clients (vec_len c.args.config.bindings) w = c.in_ok-wires.ensures in
    omega (
      arith,
      c.requires.some_client,
      wired.clients,
      as_many w.replies.items w.answers.items wired.replies,
    )

pub new-requires-2-clause-senders : goal.new-requires-2-clause-senders
new-requires-2-clause-senders g c =
    let w = c.in_ok-wires.wires in
    let wired : AreWired c.args.config.clients (vec_len c.args.config.bindings) w = c.in_ok-wires.ensures in
    omega (
      arith,
      wired.to_ledger.senders,
      wired.clients,
      as_many w.replies.items w.answers.items wired.replies,
    )

pub new-requires-2-clause-fresh : goal.new-requires-2-clause-fresh
new-requires-2-clause-fresh g c =
    let w = c.in_ok-wires.wires in
    let wired : AreWired c.args.config.clients (vec_len c.args.config.bindings) w = c.in_ok-wires.ensures in
    wired.to_ledger.received

pub new-requires-2-clause-untold : goal.new-requires-2-clause-untold
new-requires-2-clause-untold g c =
    let w = c.in_ok-wires.wires in
    let wired : AreWired c.args.config.clients (vec_len c.args.config.bindings) w = c.in_ok-wires.ensures in
    all_unused w.replies.items w.answers.items wired.replies

pub new-requires-2-clause-own : goal.new-requires-2-clause-own
new-requires-2-clause-own g c =
    let w = c.in_ok-wires.wires in
    let wired : AreWired c.args.config.clients (vec_len c.args.config.bindings) w = c.in_ok-wires.ensures in
    ap (λ (o : Outgoing ToConnector (Option Past)). o.number) wired.poll_replies

pub new-requires-2-clause-silent : goal.new-requires-2-clause-silent
new-requires-2-clause-silent g c =
    let w = c.in_ok-wires.wires in
    let wired : AreWired c.args.config.clients (vec_len c.args.config.bindings) w = c.in_ok-wires.ensures in
    ap (λ (o : Outgoing ToConnector (Option Past)). o.sent) wired.poll_replies

-- ---- the connector actor

pub new-requires-3-clause-fresh : goal.new-requires-3-clause-fresh
new-requires-3-clause-fresh g c =
    let w = c.in_ok-wires.wires in
    let wired : AreWired c.args.config.clients (vec_len c.args.config.bindings) w = c.in_ok-wires.ensures in
    wired.to_connector.received

pub new-requires-3-clause-two : goal.new-requires-3-clause-two
new-requires-3-clause-two g c =
    let w = c.in_ok-wires.wires in
    let wired : AreWired c.args.config.clients (vec_len c.args.config.bindings) w = c.in_ok-wires.ensures in
    wired.to_connector.senders

pub new-requires-3-clause-to_ledger : goal.new-requires-3-clause-to_ledger
new-requires-3-clause-to_ledger g c =
    let w = c.in_ok-wires.wires in
    let wired : AreWired c.args.config.clients (vec_len c.args.config.bindings) w = c.in_ok-wires.ensures in
    ap (λ (o : Outgoing ToLedger (Unit {0})). o.number) wired.polls

pub new-requires-3-clause-asked : goal.new-requires-3-clause-asked
new-requires-3-clause-asked g c =
    let w = c.in_ok-wires.wires in
    let wired : AreWired c.args.config.clients (vec_len c.args.config.bindings) w = c.in_ok-wires.ensures in
    ap (λ (o : Outgoing ToLedger (Unit {0})). o.sent) wired.polls

pub new-requires-3-clause-to_broker : goal.new-requires-3-clause-to_broker
new-requires-3-clause-to_broker g c =
    let w = c.in_ok-wires.wires in
    let wired : AreWired c.args.config.clients (vec_len c.args.config.bindings) w = c.in_ok-wires.ensures in
    ap (λ (o : Outgoing ToBroker (Unit {0})). o.number) wired.packets

pub new-requires-3-clause-published : goal.new-requires-3-clause-published
new-requires-3-clause-published g c =
    let w = c.in_ok-wires.wires in
    let wired : AreWired c.args.config.clients (vec_len c.args.config.bindings) w = c.in_ok-wires.ensures in
    ap (λ (o : Outgoing ToBroker (Unit {0})). o.sent) wired.packets

-- ---- all of them

pub returns-clause-made : goal.returns-clause-made
returns-clause-made g c =
    let w = c.in_ok-wires.wires in
    let wired : AreWired c.args.config.clients (vec_len c.args.config.bindings) w = c.in_ok-wires.ensures in
    let all : AreWired c.args.config.clients (length c.args.config.bindings.items) w =
    subst (λ m. AreWired c.args.config.clients m w) c.args.config.bindings.ok.0 wired in
    let requests = wired.requests ∙ ap (λ n. fresh_from w.to_ledger.link 1 n) (sym wired.clients) in
    let acks = wired.acks ∙ ap (λ n. fresh_from w.to_broker.link 1 n) (sym wired.subscribers) in
    are_made c.args.config c.args.faults (g.S.ProgressStore.held c.args.store)
    (g.S.ProgressStore.is_honest c.args.store) (g.S.ProgressStore.risks c.args.store) _ w all c.new-2.ensures
    (c.in_ok-clients.ensures w.to_ledger.link requests) c.new-3.ensures c.in_ok-broker.ensures
    (c.in_ok-subscribers.ensures w.to_broker.link acks)
