-- Each subscriber of a run that was cut off is faithful to what the ledger has.
use Rattle.cdc_end_laws.proofs.Words.{All-contains, AreAmong, ArrivedWasReceived, BrokerCore, BrokersComeSoFar, CanSend, Confirm, Confirmed, ConnectorCore, ConnectorsKeepToRuns, Contains, Contains-append_left, Contains-get_or, Continues, DeliveriesAreReceived, HasSubscriberSaid, History, IsBrokerSoFar, IsLedgerSoFar, LedgerCore, LedgersComeSoFar, List, None, Option, Packet, Past, Reception, Some, SubscriberCore, SubscribersLackOne, ToConnector, [], ap, append_assoc, arith, as_confirm, confirm_in, confirms_in, dealings, deliveries_in, delivery_in, delivery_of, filter_map-append, fold-append, history_of, inl, inr, length, line_after, map, no_past, of_sender, origin_of, packet_in, packets_in, queue, received_by, refl, slice_get, subst, sym, take, take-append_seam, taken_by, taken_of, unwrap_or, ℕ, ◌++◌, ◌+◌, ◌-◌, ◌<◌, ◌∙◌, ◌∷◌, ◌≡◌}
use Rattle.std.specs.List.{cons_option, filter_map}
use Rattle.std.proofs.lemmas.Option.{slice_get_within, unwrap_or-slice_get}
use Rattle.cdc_laws.specs.Broker.{nobody, queue_of}
use Rattle.cdc_laws.specs.Packets.{items_of}
use Rattle.cdc_laws.specs.Queues.{QueueState, empty_queue}
use Rattle.cdc_laws.specs.Sound.{IsSound}
use Rattle.cdc_message.specs.declared.items.Delivery.{Delivery}
use Rattle.cdc_message.specs.declared.items.Item.{Item}
use Rattle.cdc_message.specs.Replays.{IsPrefix, IsReplay}
use Rattle.cdc_message.proofs.ReplayLaws.{IsReplay-take}
use Rattle.cdc_laws.specs.ConnectorRuns.{IsConnectorRun}
use Rattle.cdc_laws.specs.Deliveries.{deliveries, items_in}
use Rattle.cdc_laws.specs.Laws.{DeliveriesAreReceivedAsReplays, SubscribersOfReplaysAreFaithful}
use Rattle.cdc_laws.specs.RunLaws.{RunsStayOnLongerLines, TakenOfRunsIsAReplay}
use Rattle.cdc_links.proofs.Entries.{follow-prefix}
use Rattle.cdc_traffic.specs.Following.{FollowsToConnector, MaySendConnector, last_named}
use Rattle.cdc_traffic.specs.Laws.{PastsGoOn}
use Rattle.cdc_traffic.specs.declared.messages.ToConnector.TheVariants as message
use Rattle.cdc_traffic.specs.declared.messages.ToSubscriber.{ToSubscriber}
use Rattle.cdc_traffic.specs.declared.messages.ToSubscriber.TheVariants as to_subscriber
use Rattle.cdc_traffic.proofs.Continuing.{Continues-same, Continues-trans}
use Rattle.cdc_traffic.proofs.Named.{follow-continues, follow-rest}
use Rattle.cdc_broker_actors.specs.declared.broker.consumers.Consumer.{Consumer}
use Rattle.cdc_end_laws.specs.Cut.{AreCutOff, CutOffSubscribersAreFaithful, IsFaithfulSoFar, IsServed}

-- ---- lists

-- what some elements of a prefix give is a prefix of what all give
prefix_mapped : {X Y : Type 0} (f : X → Option Y) (some all : List X) → IsPrefix some all
    → IsPrefix (filter_map f some) (filter_map f all)
prefix_mapped f some all front = record {
  rest = filter_map f front.rest;
  whole = sym (filter_map-append f some front.rest) ∙ ap (filter_map f) front.whole;
}

prefix_trans : {X : Type 0} (xs ys zs : List X) → IsPrefix xs ys → IsPrefix ys zs → IsPrefix xs zs
prefix_trans {X} xs ys zs first second = record {
  rest = first.rest ++ second.rest;
  whole = sym (append_assoc xs first.rest second.rest)
      ∙ ap (λ (l : List X). l ++ second.rest) first.whole
      ∙ second.whole;
}

-- what is in a prefix is in the list
prefix_among : {X : Type 0} (some all : List X) → IsPrefix some all → AreAmong some all
prefix_among {X} some all front x there =
    subst (λ (l : List X). Contains l x) front.whole (Contains-append_left some front.rest x there)

-- a prefix is what is taken of the list
prefix_taken : {X : Type 0} (some all : List X) → IsPrefix some all → take (length some) all ≡ some
prefix_taken {X} some all front =
    ap (λ (l : List X). take (length some) l) (sym front.whole) ∙ take-append_seam some front.rest

-- confirms are read off messages as they were sent
confirms_as : (confirms : List Confirm) → confirms_in (map as_confirm confirms) ≡ confirms
confirms_as [] = refl
confirms_as (confirm ∷ confirms) = ap (λ (l : List Confirm). confirm ∷ l) (confirms_as confirms)

-- deliveries are read off messages alike by who sends them and by who receives them
delivery_alike : (m : ToSubscriber) → delivery_of m ≡ delivery_in m
delivery_alike (to_subscriber.Delivery d) = refl
delivery_alike to_subscriber.Stop = refl

read_alike : (received : List (ℕ × (ToSubscriber × Unit {0})))
    → filter_map (λ e. delivery_of e.1.0) received ≡ filter_map (λ m. delivery_in m.0) (map (λ e. e.1) received)
read_alike [] = refl
read_alike (e ∷ received) =
    ap (λ (o : Option Delivery). cons_option o (filter_map (λ e. delivery_of e.1.0) received)) (delivery_alike e.1.0)
    ∙ ap (λ (l : List Delivery). cons_option (delivery_in e.1.0) l) (read_alike received)

-- ---- pasts

last_named-push : (before : List (ToConnector × Option Past)) (x : ToConnector × Option Past)
    → last_named (before ++ x ∷ []) ≡ unwrap_or x.1 (last_named before)
last_named-push before x =
    fold-append (λ (past : Past) (each : ToConnector × Option Past). unwrap_or each.1 past) no_past before (x ∷ [])

-- a message names a past that continues the one before, or none
named_next : (before : List (ToConnector × Option Past)) (m : ToConnector) (name : Option Past)
    → MaySendConnector 0 before m name → Continues (last_named before) (unwrap_or name (last_named before))
named_next before (message.PollReply reply) (Some past) may = may.1.continues
named_next before (message.PollReply reply) None may = absurd may
named_next before (message.Confirm confirm) (Some past) may = absurd may
named_next before (message.Confirm confirm) None may = Continues-same (last_named before)

named_follows : (before : List (ToConnector × Option Past)) (x : ToConnector × Option Past)
    → FollowsToConnector 0 before x → Continues (last_named before) (last_named (before ++ x ∷ []))
named_follows before x follows =
    subst (Continues (last_named before)) (sym (last_named-push before x)) (named_next before x.0 x.1 follows.may)

-- so what a prefix of messages names is continued by what all name
named_front : (some all : List (ToConnector × Option Past)) → IsPrefix some all → CanSend FollowsToConnector 0 all
    → Continues (last_named some) (last_named all)
named_front some all front lawful =
    subst (λ (l : List (ToConnector × Option Past)). Continues (last_named some) (last_named l)) front.whole
    (follow-continues FollowsToConnector 0 last_named named_follows some front.rest
    (follow-rest FollowsToConnector 0 [] some front.rest
    (subst (CanSend FollowsToConnector 0) (sym front.whole) lawful)))

-- ---- the actors

-- the laws below that this stands on
pub record StandsOn : Type 0 where
  pub ledger : LedgersComeSoFar
  pub broker : BrokersComeSoFar
  pub connector : ConnectorsKeepToRuns
  pub subscriber : SubscribersLackOne
  pub pasts : PastsGoOn
  pub longer : RunsStayOnLongerLines
  pub taken : TakenOfRunsIsAReplay
  pub arrived : ArrivedWasReceived
  pub reception : DeliveriesAreReceived
  pub receives : DeliveriesAreReceivedAsReplays
  pub faithful : SubscribersOfReplaysAreFaithful

module _ (on : StandsOn) (d : LedgerCore) (c : ConnectorCore) (b : BrokerCore) (are : AreCutOff d c b) where
  abbrev early : List (ToConnector × Option Past)
  early = of_sender 0 c.inbox.received

  -- the ledger's actor and the broker, however far they have come
  ledger_so_far : IsLedgerSoFar d
  ledger_so_far = elim are.ledger [
    | inl is ↦ on.ledger.between d is
    | inr failed ↦ on.ledger.failed failed.0 failed.1 d failed.2.0 failed.2.1
  ]

  broker_so_far : IsBrokerSoFar b
  broker_so_far = elim are.broker [ inl is ↦ on.broker b is | inr failed ↦ failed.2.1.so_far ]

  -- what the connector has sent is a run over what the ledger has
  named : Continues (last_named early) ledger_so_far.past
  named =
      Continues-trans (last_named early) (last_named d.connector.sent) ledger_so_far.past
      (named_front early d.connector.sent are.replies are.lawful) ledger_so_far.named

  sound : IsSound d.ledger
  sound =
      subst IsSound (sym ledger_so_far.history) (on.pasts (last_named early) ledger_so_far.past named).1

  lawful : CanSend FollowsToConnector 0 early
  lawful =
      follow-prefix FollowsToConnector 0 [] early are.replies.rest
      (subst (CanSend FollowsToConnector 0) (sym are.replies.whole) are.lawful)

  abbrev sent : List Packet
  sent = packets_in c.packets.sent

  abbrev confirms : List Confirm
  confirms = confirms_in (of_sender 1 c.inbox.received)

  run : IsConnectorRun d.ledger (origin_of c).start sent confirms
  run =
      subst (λ (h : History). IsConnectorRun h (origin_of c).start sent confirms) (sym ledger_so_far.history)
      (on.longer (history_of (last_named early)) (history_of ledger_so_far.past) (origin_of c).start sent confirms
      (on.pasts (last_named early) ledger_so_far.past named).0
      (on.connector c are.connector lawful are.honest are.origin))

  -- what the broker took of it is a replay of what there is to publish
  abbrev arrived : List Packet
  arrived = (dealings b.plan broker_so_far.come).arrived

  packets : AreAmong arrived sent
  packets x there =
      prefix_among (packets_in (of_sender 0 b.inbox.received)) sent
      (prefix_mapped (λ m. packet_in m.0) (of_sender 0 b.inbox.received) c.packets.sent are.packets) x
      (prefix_among broker_so_far.come (packets_in (of_sender 0 b.inbox.received))
      (record { rest = broker_so_far.uncome; whole = sym broker_so_far.all }) x
      (on.arrived b.plan broker_so_far.come x there))

  answers : AreAmong confirms (dealings b.plan broker_so_far.come).confirms
  answers x there =
      let emitted : confirms_in b.confirms.sent ≡ broker_so_far.confirms =
      ap (λ sent. confirms_in sent) broker_so_far.confirmed ∙ confirms_as broker_so_far.confirms in
      prefix_among broker_so_far.confirms (dealings b.plan broker_so_far.come).confirms
      (record { rest = broker_so_far.unsent; whole = sym broker_so_far.answered }) x
      (subst (λ (l : List Confirm). Contains l x) emitted
      (prefix_among confirms (confirms_in b.confirms.sent)
      (prefix_mapped (λ m. confirm_in m.0) (of_sender 1 c.inbox.received) b.confirms.sent are.confirms) x there))

  taken : IsReplay (items_of (taken_of arrived)) (line_after d.ledger (origin_of c).start)
  taken =
      on.taken d.ledger (origin_of c).start sent arrived confirms sound run packets
      (λ session tag confirmed. broker_so_far.arrived.confirmed session tag
      (answers (record { session = session; answer = Confirmed tag }) confirmed))

  -- a queue of the broker is among its queues
  queue_there : (place : ℕ) → place < length b.broker.queues
      → Contains b.broker.queues (queue_of b.broker (place + 1))
  queue_there place below =
      let same : place + 1 - 1 ≡ place = omega arith in
      subst (λ (q : QueueState). Contains b.broker.queues q)
      (sym (unwrap_or-slice_get b.broker.queues (place + 1 - 1) (empty_queue nobody)))
      (Contains-get_or b.broker.queues (place + 1 - 1) (empty_queue nobody) (omega arith))

  module _ (place : ℕ) (consumer : Consumer) (s : SubscriberCore) (found : slice_get b.consumers place ≡ Some consumer)
      (is : IsServed consumer s) where
    abbrev q : QueueState
    q = queue_of b.broker (place + 1)

    -- the queue has what belongs to it of what was taken
    accepted : q.items ≡ queue (items_of (taken_of arrived)) q.binding
    accepted =
        All-contains (λ (k : QueueState). k.items ≡ queue (items_of (taken_of arrived)) k.binding) b.broker.queues q
        broker_so_far.arrived.queues
        (queue_there place
        (subst (λ (n : ℕ). place < n) (sym broker_so_far.queues) (slice_get_within b.consumers place consumer found)))

    -- what the subscriber has taken is the first of what was sent to it
    front : (some : List Delivery) → IsPrefix some (taken_by s.inbox)
        → IsPrefix some (deliveries_in consumer.link.sent)
    front some first =
        let read : taken_by s.inbox ≡ filter_map (λ m. delivery_in m.0) (map (λ e. e.1) s.inbox.received) =
        read_alike s.inbox.received in
        prefix_trans some (taken_by s.inbox) (deliveries_in consumer.link.sent) first
        (subst (λ (l : List Delivery). IsPrefix l (deliveries_in consumer.link.sent)) (sym read)
        (prefix_mapped (λ m. delivery_in m.0) (map (λ e. e.1) s.inbox.received) consumer.link.sent is.deliveries))

    said : HasSubscriberSaid s
    said = on.subscriber s is.subscriber

    abbrev received : Reception
    received = received_by s.close_after said.taken

    -- so it has received a replay of its queue
    replay : IsReplay received.items (queue (items_of (taken_of arrived)) q.binding)
    replay =
        let out : List Delivery = deliveries_in consumer.link.sent in
        let mine : IsPrefix said.taken out =
        front said.taken (record { rest = said.all.rest; whole = said.all.whole }) in
        let some = (on.reception s.close_after said.taken).some in
        let replays : IsReplay said.taken (deliveries q.items) =
        subst (λ (l : List Delivery). IsReplay l (deliveries q.items)) (prefix_taken said.taken out mine)
        (IsReplay-take (length said.taken) out (deliveries q.items)
        (broker_so_far.served place consumer found).replay) in
        subst (λ (l : List Item). IsReplay l (queue (items_of (taken_of arrived)) q.binding)) (sym some.1)
        (subst (IsReplay (items_in (take some.0 said.taken))) accepted
        (on.receives q.items said.taken some.0 replays))

    is_faithful : IsFaithfulSoFar d (origin_of c).start b place s
    is_faithful = record {
      reception = received;
      faithful =
          on.faithful d.ledger (origin_of c).start q.binding (items_of (taken_of arrived)) received sound taken replay;
      keeps = said.keeps;
    }

pub cut_off_are_faithful : StandsOn → CutOffSubscribersAreFaithful
cut_off_are_faithful on d c b place consumer s are found is = is_faithful on d c b are place consumer s found is
