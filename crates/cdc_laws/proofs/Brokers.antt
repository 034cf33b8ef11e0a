-- What a broker took of what arrived, packet by packet.
use Rattle.std.proofs.Common.{◌≡◌, ℕ, ◌-◌, ◌<◌, true, false, List, [], ◌∷◌, ◌++◌, length, refl, sym, ap, ap₂, ◌∙◌, inl, inr, append-nil}
use Rattle.std.specs.Prelude.{Contains, Option}
use Rattle.std.proofs.lemmas.List.Elements.{All-map, Contains-append_left, Contains-push_cases}
use Rattle.std.proofs.lemmas.List.Sums.{fold-append}
use Rattle.cdc_broker.specs.Broker.{BrokerState, HasAccepted, after_packet, empty_broker, takes_packet, with_queue, queue_of}
use Rattle.cdc_broker.specs.Packets.{current_session, expected_tag, is_taken, is_taken_at, items_of}
use Rattle.cdc_broker.specs.Queues.{QueueState, acknowledged, empty_queue, rewound_queue, with_delivery}
use Rattle.cdc_broker.proofs.Accepted.{HasAccepted-acknowledged, HasAccepted-published, HasAccepted-rewound, HasAccepted-with_delivery}
use Rattle.cdc_laws.specs.Arrivals.{AreOfTaken, taken_after, taken_of}
use Rattle.cdc_laws.specs.Brokers.{HasArrived}
use Rattle.cdc_laws.proofs.ListElements.{none_there}
use Rattle.cdc_laws.proofs.Taking.{current_session-push, expected_tag-push, items_of-push, taken_after-false, taken_after-true}
use Rattle.cdc_match.specs.Arguments.{Arguments}
use Rattle.cdc_match.specs.Queue.{queue}
use Rattle.cdc_message.specs.declared.items.Delivery.{Delivery}
use Rattle.cdc_message.specs.declared.items.Item.{Item}
use Rattle.cdc_message.specs.declared.packets.Answer.TheVariants.{Confirmed}
use Rattle.cdc_message.specs.declared.packets.Confirm.{Confirm}
use Rattle.cdc_message.specs.declared.packets.Packet.{Packet}
use Rattle.cdc_message.specs.declared.packets.Packet.TheVariants.{Connect, Publish}

-- a broker that nothing has come to
pub HasArrived-nil : (bindings : List Arguments) → HasArrived (empty_broker bindings) [] []
HasArrived-nil bindings = record {
  connection = refl;
  expected = refl;
  queues = All-map (λ (q : QueueState). q.items ≡ queue [] q.binding) empty_queue bindings (λ k d below. refl);
  confirmed = λ session tag there. absurd (none_there _ there);
}

-- one more packet that arrived
pub taken_of-push : (arrived : List Packet) (packet : Packet)
    → taken_of (arrived ++ packet ∷ []) ≡ taken_after (taken_of arrived) packet
taken_of-push arrived packet = fold-append taken_after [] arrived (packet ∷ [])

-- what was confirmed was taken, also after more is taken
pub AreOfTaken-taken : (confirms : List Confirm) (taken : List Packet) (packet : Packet) → AreOfTaken confirms taken
    → AreOfTaken confirms (taken ++ packet ∷ [])
AreOfTaken-taken confirms taken packet are session tag there =
    let old = are session tag there in
    (old.0, Contains-append_left taken (packet ∷ []) (Publish session tag old.0) old.1)

-- and after one more publish that was taken is confirmed
pub AreOfTaken-confirmed : (confirms : List Confirm) (taken : List Packet) (session tag : ℕ) (item : Item)
    → AreOfTaken confirms taken → Contains taken (Publish session tag item)
    → AreOfTaken (confirms ++ record { session = session; answer = Confirmed tag } ∷ []) taken
AreOfTaken-confirmed confirms taken session tag item are took c t there =
    elim (Contains-push_cases confirms (record { session = session; answer = Confirmed tag })
    (record { session = c; answer = Confirmed t }) there) [
      | inl old ↦ are c t old
      | inr is ↦
          let its = ap (λ (x : Confirm). x.session) is in
          let answers = ap (λ (x : Confirm). x.answer) is in
          let tagged : tag ≡ t = cc in
          (item, rw (its, tagged) at took)
    ]

module _ (b : BrokerState) (arrived : List Packet) (confirms : List Confirm) (has : HasArrived b arrived confirms) where
  -- what the broker takes is determined by the packets that have arrived
  takes_is : (packet : Packet) → takes_packet b packet ≡ is_taken (taken_of arrived) packet
  takes_is packet =
      ap₂ (λ (c : ℕ) (e : Option ℕ). is_taken_at c e packet) has.connection has.expected

  -- a connect or a publish that it takes
  after_taken : (packet : Packet)
      → ((after_packet b packet).connection ≡ current_session (taken_of arrived ++ packet ∷ []))
      × ((after_packet b packet).expected ≡ expected_tag (taken_of arrived ++ packet ∷ []))
  after_taken (Connect session) =
      (sym (current_session-push (taken_of arrived) _), sym (expected_tag-push (taken_of arrived) _))
  after_taken (Publish session tag item) =
      (has.connection ∙ sym (current_session-push (taken_of arrived) _), sym (expected_tag-push (taken_of arrived) _))

  -- its queues
  queues_after : (packet : Packet) → HasAccepted (after_packet b packet) (items_of (taken_of arrived ++ packet ∷ []))
  queues_after (Connect session) = rw (items_of-push, append-nil) has.queues
  queues_after (Publish session tag item) =
      rw items_of-push (HasAccepted-published b tag item (items_of (taken_of arrived)) has.queues)

  -- a packet that it takes
  pub HasArrived-taken : (packet : Packet) → takes_packet b packet ≡ true
      → HasArrived (after_packet b packet) (arrived ++ packet ∷ []) confirms
  HasArrived-taken packet takes =
      let is =
      taken_of-push arrived packet ∙ taken_after-true (taken_of arrived) packet (sym (takes_is packet) ∙ takes) in
      record {
        connection = rw is (after_taken packet).0;
        expected = rw is (after_taken packet).1;
        queues = rw is (queues_after packet);
        confirmed = rw is (AreOfTaken-taken confirms (taken_of arrived) packet has.confirmed);
      }

  -- one that it ignores
  pub HasArrived-passed : (packet : Packet) → takes_packet b packet ≡ false
      → HasArrived b (arrived ++ packet ∷ []) confirms
  HasArrived-passed packet passes =
      let is =
      taken_of-push arrived packet ∙ taken_after-false (taken_of arrived) packet (sym (takes_is packet) ∙ passes) in
      record {
        connection = rw is has.connection;
        expected = rw is has.expected;
        queues = rw is has.queues;
        confirmed = rw is has.confirmed;
      }

  -- a confirm of what it took
  pub HasArrived-confirmed : (session tag : ℕ) (item : Item) → Contains (taken_of arrived) (Publish session tag item)
      → HasArrived b arrived (confirms ++ record { session = session; answer = Confirmed tag } ∷ [])
  HasArrived-confirmed session tag item taken =
      assumption (AreOfTaken-confirmed confirms (taken_of arrived) session tag item has.confirmed taken)

  -- what its queues do
  pub HasArrived-delivered : (i : ℕ) (delivery : Option Delivery) → i - 1 < length b.queues
      → HasArrived (with_queue i (with_delivery delivery (queue_of b i)) b) arrived confirms
  HasArrived-delivered i delivery inside =
      assumption (HasAccepted-with_delivery b i delivery (items_of (taken_of arrived)) inside has.queues)

  pub HasArrived-acknowledged : (i position : ℕ) → i - 1 < length b.queues
      → HasArrived (with_queue i (acknowledged position (queue_of b i)) b) arrived confirms
  HasArrived-acknowledged i position inside =
      assumption (HasAccepted-acknowledged b i position true (items_of (taken_of arrived)) inside has.queues)

  pub HasArrived-rewound : (i : ℕ) → i - 1 < length b.queues
      → HasArrived (with_queue i (rewound_queue (queue_of b i)) b) arrived confirms
  HasArrived-rewound i inside = assumption (HasAccepted-rewound b i (items_of (taken_of arrived)) inside has.queues)
