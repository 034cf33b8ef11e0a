-- What a subscriber receives of deliveries, and that a subscriber of a run is faithful.
use Rattle.std.proofs.Common.{◌≡◌, ℕ, min, true, List, [], ◌∷◌, ◌++◌, length, refl, sym, ap, ◌∙◌, inl, inr, arith}
use Rattle.std.specs.Prelude.{Contains, ◌||◌}
use Rattle.std.proofs.lemmas.Bool.{cases_Bool, or_from, or_parts}
use Rattle.std.proofs.lemmas.List.Elements.{All-contains}
use Rattle.std.proofs.lemmas.List.{map_push, take-append-le, take_all, take_min}
use Rattle.cdc_broker.specs.Broker.{BrokerState}
use Rattle.cdc_broker.specs.Packets.{items_of}
use Rattle.cdc_broker.specs.Queues.{QueueState}
use Rattle.cdc_ledger.specs.History.{History}
use Rattle.cdc_ledger.specs.Sound.{IsSound}
use Rattle.cdc_laws.specs.Arrivals.{taken_of}
use Rattle.cdc_laws.specs.Deliveries.{items_in}
use Rattle.cdc_laws.specs.Faithful.{IsFaithful}
use Rattle.cdc_laws.specs.Receiving.{HasTaken, ReceivesFrom, IsTrafficOf, Traffic}
use Rattle.cdc_laws.specs.Line.{line_after}
use Rattle.cdc_laws.proofs.Arrivals.{IsReplay-taken}
use Rattle.cdc_laws.proofs.Faithful.{IsFaithful-queue, IsReplay-reception}
use Rattle.cdc_match.specs.Queue.{queue}
use Rattle.cdc_message.specs.declared.items.Delivery.{Delivery}
use Rattle.cdc_message.specs.declared.items.Item.{Item}
use Rattle.cdc_message.specs.Replays.{IsPrefix, IsReplay}
use Rattle.cdc_message.proofs.ReplayLaws.{IsReplay-take}
use Rattle.cdc_subscriber.specs.Reception.{Reception, has_ended, next, nothing}

-- ---- a subscriber takes deliveries

-- to a new subscriber nothing has come
pub HasTaken-nil : HasTaken nothing []
HasTaken-nil = record { some = (0, refl); all = λ open_yet before_end. refl }

-- one that closes keeps what it has received
pub HasTaken-close : (reception : Reception) (taken : List Delivery) → HasTaken reception taken
    → HasTaken (record reception { closed = true }) taken
HasTaken-close reception taken has = record { some = has.some; all = λ open_yet before_end. cc }

-- one that is closed or has ended doesn't receive what it takes: what it received is still the first part of all that
-- it took
HasTaken-settled : (reception : Reception) (taken : List Delivery) (d : Delivery) → HasTaken reception taken
    → (reception.closed || has_ended reception) ≡ true → HasTaken reception (taken ++ d ∷ [])
HasTaken-settled reception taken d has settled =
    let n : ℕ = has.some.0 in
    let count : ℕ = min n (length taken) in
    let same = take-append-le count taken (d ∷ []) (omega arith) ∙ take_min n taken in
    record {
      some = (count, has.some.1 ∙ ap items_in (sym same));
      all = λ open_yet before_end.
          let listens = or_from reception.closed (has_ended reception) open_yet before_end in cc;
    }

-- one that listens receives it: what it received is still all that it took
HasTaken-listening : (reception : Reception) (taken : List Delivery) (d : Delivery) → reception.items ≡ items_in taken
    → HasTaken (record { items = reception.items ++ d.item ∷ []; closed = reception.closed }) (taken ++ d ∷ [])
HasTaken-listening reception taken d is =
    let all : reception.items ++ d.item ∷ [] ≡ items_in (taken ++ d ∷ []) =
    ap (λ items. items ++ d.item ∷ []) is ∙ sym (map_push (λ (x : Delivery). x.item) taken d) in
    let whole = take_all (length (taken ++ d ∷ [])) (taken ++ d ∷ []) (omega arith) in
    record { some = (length (taken ++ d ∷ []), all ∙ ap items_in (sym whole)); all = λ open_yet before_end. all }

-- so it goes on, whether it listens or not
pub HasTaken-next : (reception : Reception) (taken : List Delivery) (d : Delivery) → HasTaken reception taken
    → HasTaken (next reception d.item) (taken ++ d ∷ [])
HasTaken-next reception taken d has =
    elim (cases_Bool (reception.closed || has_ended reception)) [
      | inl settled ↦ rw settled (HasTaken-settled reception taken d has settled)
      | inr listens ↦
          let parts = or_parts reception.closed (has_ended reception) listens in
          rw listens (HasTaken-listening reception taken d (has.all parts.0 parts.1))
    ]

-- ---- a subscriber of a run

-- a prefix of a replay is a replay
pub IsReplay-front : {X : Type 0} (some w f : List X) → IsPrefix some w → IsReplay w f → IsReplay some f
IsReplay-front some w f front replay =
    let is = take-append-le (length some) some front.rest (omega arith) ∙ take_all (length some) some (omega arith) in
    rw is at (IsReplay-take (length some) (some ++ front.rest) f (rw front.whole replay))

-- what it received is a replay of its queue
pub IsReplay-of_queue : (q : QueueState) (reception : Reception) → ReceivesFrom q reception
    → IsReplay reception.items q.items
IsReplay-of_queue q reception receives =
    rw receives.receives.some.1
    (IsReplay-reception q.items receives.taken receives.receives.some.0
    (IsReplay-front receives.taken receives.out _ receives.front receives.delivered.replay))

-- what the broker of a run took is a replay of the line after the start
pub IsReplay-of_run : (h : History) (start : ℕ) (b : BrokerState) (t : Traffic) → IsSound h → IsTrafficOf h start b t
    → IsReplay (items_of (taken_of t.arrived)) (line_after h start)
IsReplay-of_run h start b t sound is =
    IsReplay-taken h start t.sent t.arrived t.received sound is.run is.packets
    (λ session tag there. is.broker.confirmed session tag (is.answers _ there))

-- so a subscriber of that queue is faithful
pub IsFaithful-run : (h : History) (start : ℕ) (b : BrokerState) (t : Traffic) (q : QueueState) (reception : Reception)
    → IsSound h → IsTrafficOf h start b t → Contains b.queues q → ReceivesFrom q reception
    → IsFaithful h start q.binding reception
IsFaithful-run h start b t q reception sound is among receives =
    let items : List Item = items_of (taken_of t.arrived) in
    let its = All-contains (λ x. x.items ≡ queue items x.binding) b.queues q is.broker.queues among in
    IsFaithful-queue h start q.binding reception sound items (IsReplay-of_run h start b t sound is)
    (rw its at (IsReplay-of_queue q reception receives))
