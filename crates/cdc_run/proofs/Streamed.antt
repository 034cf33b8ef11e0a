-- What goes from the ledger to the subscribers of a run, once all have finished.
use Rattle.cdc_run.proofs.Words.{ActorState, All, All-head, All-tail, AllCome, AllZip, AreLeftBy, AreSubscribersOf, AreThrough, BrokerCore, CanSend, ConnectorCore, Consumer, EndsCome, FollowsToConnector, Incoming, IsAccount, IsAccounted, IsBrokerActor, LedgerCore, List, Middle, Option, Outgoing, Past, Some, SubscriberCore, ToBroker, ToConnector, [], and_parts, ap, arith, is_none, map, of_sender, origin_of, refl, slice_get, subst, suc, sym, true, works_of, ℕ, ◌++◌, ◌+◌, ◌∙◌, ◌∷◌, ◌≡◌}

-- what an account states of an endpoint whose number is known
its_own : {M N : Type 0} (entries : List (ℕ × (M × N))) (end : Outgoing M N) (number : ℕ) → end.number ≡ number
    → of_sender end.number entries ≡ end.sent → of_sender number entries ≡ end.sent
its_own entries end number named whole = subst (λ (k : ℕ). of_sender k entries ≡ end.sent) named whole

-- so of the connector's endpoint of the link to the broker
pub packets_left : (inbox : Incoming ToBroker (Unit {0})) (packets : Outgoing ToBroker (Unit {0}))
    (acks : List (Outgoing ToBroker (Unit {0}))) (left : List (ℕ × (ToBroker × Unit {0}))) → packets.number ≡ 0
    → IsAccount inbox (packets ∷ acks) left → of_sender 0 (inbox.received ++ left) ≡ packets.sent
packets_left inbox packets acks left own account =
    let Q : Outgoing ToBroker (Unit {0}) → Type 0 =
    λ end. of_sender end.number (inbox.received ++ left) ≡ end.sent in
    its_own (inbox.received ++ left) packets 0 own (All-head Q packets acks account.0)

-- with what was left in both links, ledger, connector and broker are through
pub through : (d : LedgerCore) (c : ConnectorCore) (b : BrokerCore) (m : Middle)
    (acks : List (Outgoing ToBroker (Unit {0})))
    (left : List (ℕ × (ToConnector × Option Past))) (left_of_packets : List (ℕ × (ToBroker × Unit {0})))
    → AreLeftBy d c m → IsBrokerActor b → b.finished ≡ true → IsAccount m.inbox (m.replies ∷ b.confirms ∷ []) left
    → All (λ end. CanSend FollowsToConnector end.number end.sent) (m.replies ∷ b.confirms ∷ [])
    → IsAccount b.inbox (m.packets ∷ acks) left_of_packets → AreThrough d c b
through d c b m acks left left_of_packets are broker finished account lawful packets =
    let P : Outgoing ToConnector (Option Past) → Type 0 =
    λ end. of_sender end.number (m.inbox.received ++ left) ≡ end.sent in
    let L : Outgoing ToConnector (Option Past) → Type 0 = λ end. CanSend FollowsToConnector end.number end.sent in
    let mine : m.replies.number ≡ 0 =
    ap (λ (o : Outgoing ToConnector (Option Past)). o.number) (sym are.replies) ∙ are.core.booked.own in
    let its : m.packets.number ≡ 0 =
    ap (λ (o : Outgoing ToBroker (Unit {0})). o.number) (sym are.packets)
    ∙ are.connector.publishing.wired.packets in
    let received : c.inbox.received ≡ m.inbox.received =
    ap (λ (i : Incoming ToConnector (Option Past)). i.received) are.inbox in
    let replied : d.connector.sent ≡ m.replies.sent =
    ap (λ (o : Outgoing ToConnector (Option Past)). o.sent) are.replies in
    let sent : c.packets.sent ≡ m.packets.sent =
    ap (λ (o : Outgoing ToBroker (Unit {0})). o.sent) are.packets in
    let chain : CanSend FollowsToConnector 0 m.replies.sent =
    subst (λ (k : ℕ). CanSend FollowsToConnector k m.replies.sent) mine
    (All-head L m.replies (b.confirms ∷ []) lawful) in
    record {
      core = are.core;
      connector = are.connector;
      over = are.over;
      origin = are.origin;
      broker = broker;
      finished = finished;
      lawful =
          subst (λ (l : List (ToConnector × Option Past)). CanSend FollowsToConnector 0 l) (sym replied) chain;
      left_of_replies = left;
      replies =
          ap (λ (l : List (ℕ × (ToConnector × Option Past))). of_sender 0 (l ++ left)) received
          ∙ its_own (m.inbox.received ++ left) m.replies 0 mine (All-head P m.replies (b.confirms ∷ []) account.0)
          ∙ sym replied;
      confirms =
          ap (λ (l : List (ℕ × (ToConnector × Option Past))). of_sender 1 (l ++ left)) received
          ∙ its_own (m.inbox.received ++ left) b.confirms 1 broker.core.own
          (All-head P b.confirms [] (All-tail P m.replies (b.confirms ∷ []) account.0));
      left_of_packets = left_of_packets;
      packets = packets_left b.inbox m.packets acks left_of_packets its packets ∙ sym sent;
    }

-- so each subscriber has come
pub all_come : EndsCome → (d : LedgerCore) (c : ConnectorCore) (b : BrokerCore) → AreThrough d c b
    → (place system number : ℕ) (subscribers : List (ActorState SubscriberCore)) (consumers : List Consumer)
    → AreSubscribersOf system number subscribers
    → AllZip IsAccounted (map (λ s. s.inbox) (works_of subscribers)) (map (λ x. x.link) consumers)
    → ((k : ℕ) (x : Consumer) → slice_get consumers k ≡ Some x → slice_get b.consumers (place + k) ≡ Some x)
    → AllCome d (origin_of c).start b place (works_of subscribers)
all_come law d c b are place system number [] consumers of_system accounts there = tt
all_come law d c b are place system number (s ∷ subscribers) [] of_system accounts there = absurd accounts
all_come law d c b are place system number (s ∷ subscribers) (x ∷ consumers) of_system accounts there =
    let here : place + 0 ≡ place = omega arith in
    let first : slice_get b.consumers place ≡ Some x =
    subst (λ (k : ℕ). slice_get b.consumers k ≡ Some x) here (there 0 x refl) in (
      law d c b place x s.work are first
          (record {
            is = of_system.2;
            finished = (and_parts (is_none s.fault) s.work.finished of_system.3).1;
            account = accounts.0;
          }),
      all_come law d c b are (place + 1) system (number + 1) subscribers consumers of_system.4 accounts.1
          (λ k y found.
          let same : place + suc k ≡ place + 1 + k = omega arith in
          subst (λ (n : ℕ). slice_get b.consumers n ≡ Some y) same (there (suc k) y found)),
    )
