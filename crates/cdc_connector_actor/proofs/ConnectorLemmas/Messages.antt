-- A connector's messages: what one more of them adds, and what it may send next.
use Rattle.cdc_connector_actor.proofs.Words.{◌&&◌, ◌++◌, ◌+◌, ◌<◌, ◌==◌, ◌||◌, ◌∙◌, ◌∷◌, ◌≡◌, Bool, Confirm, Connect, Contains_slice_get, Course, EndMark, Event, HasSent, IsPacket, IsRunning, List, None, OfEvent, Option, Packet, Poll, Publish, Saved, Some, ToBroker, ToConnector, ToLedger, [], ap, append-nil, arith, cases_Bool, cond, cond_some, confirm_in, confirms_in, ends_to_broker, ends_to_ledger, eqb-false, false, filter, filter-append, filter_map-append, has_ended, inl, inr, is_publish, length, length-append, list_any, map, map-append, may_end, next_packet, packet_in, packets_in, poll_in, polls_in, publish_count, publish_packet, refl, same_Some, slice_get, subst, sym, tags_sent, true, ℕ}
use Rattle.cdc_traffic.specs.declared.messages.ToBroker.TheVariants as to_broker
use Rattle.cdc_traffic.specs.declared.messages.ToConnector.TheVariants as to_connector
use Rattle.cdc_traffic.specs.declared.messages.ToLedger.TheVariants as to_ledger

-- messages to the broker and to the ledger, which name nothing
abbrev ToBrokers : Type 0
ToBrokers = List (ToBroker × Unit {0})

abbrev ToLedgers : Type 0
ToLedgers = List (ToLedger × Unit {0})

-- ---- one message more

-- a packet, or the last message
pub packets-more : (sent : ToBrokers) (packet : Packet)
    → packets_in (sent ++ (to_broker.Packet packet, tt) ∷ []) ≡ packets_in sent ++ packet ∷ []
packets-more sent packet = filter_map-append (λ each. packet_in each.0) sent ((to_broker.Packet packet, tt) ∷ [])

pub packets-finished : (sent : ToBrokers) → packets_in (sent ++ (to_broker.Finish, tt) ∷ []) ≡ packets_in sent
packets-finished sent =
    filter_map-append (λ each. packet_in each.0) sent ((to_broker.Finish, tt) ∷ []) ∙ append-nil (packets_in sent)

-- a poll, or the last message
polls-more : (sent : ToLedgers) (poll : Poll)
    → polls_in (sent ++ (to_ledger.Poll poll, tt) ∷ []) ≡ polls_in sent ++ poll ∷ []
polls-more sent poll = filter_map-append (λ each. poll_in each.0) sent ((to_ledger.Poll poll, tt) ∷ [])

polls-finished : (sent : ToLedgers) → polls_in (sent ++ (to_ledger.Finish, tt) ∷ []) ≡ polls_in sent
polls-finished sent =
    filter_map-append (λ each. poll_in each.0) sent ((to_ledger.Finish, tt) ∷ []) ∙ append-nil (polls_in sent)

-- a confirm
pub confirms-more : {N : Type 0} (sent : List (ToConnector × N)) (confirm : Confirm) (name : N)
    → confirms_in (sent ++ (to_connector.Confirm confirm, name) ∷ []) ≡ confirms_in sent ++ confirm ∷ []
confirms-more sent confirm name =
    filter_map-append (λ each. confirm_in each.0) sent ((to_connector.Confirm confirm, name) ∷ [])

-- one more packet is counted if it publishes an item
one_count : (b : Bool) (packet : Packet) → length (cond b (packet ∷ []) []) ≡ cond b 1 0
one_count true packet = refl
one_count false packet = refl

pub count_more : (packets : List Packet) (packet : Packet)
    → length (filter is_publish (packets ++ packet ∷ [])) ≡ length (filter is_publish packets) + publish_count packet
count_more packets packet =
    ap (λ (l : List Packet). length l) (filter-append is_publish packets (packet ∷ []))
    ∙ length-append (filter is_publish packets) (cond (is_publish packet) (packet ∷ []) [])
    ∙ ap (λ n. length (filter is_publish packets) + n) (one_count (is_publish packet) packet)

-- messages that are all of one kind, and one more of it
all_more : {M X : Type 0} (of : X → M) (sent : List (M × Unit {0})) (xs more : List X) (x : X)
    → map (λ m. m.0) sent ≡ map of xs ++ [] → more ≡ xs ++ x ∷ []
    → map (λ m. m.0) (sent ++ (of x, tt) ∷ []) ≡ map of more ++ []
all_more of sent xs more x is one =
    map-append (λ m. m.0) sent ((of x, tt) ∷ [])
    ∙ ap (λ l. l ++ of x ∷ []) (is ∙ append-nil (map of xs))
    ∙ sym (map-append of xs (x ∷ []))
    ∙ ap (map of) (sym one)
    ∙ sym (append-nil (map of more))

-- and their last message
all_finished : {M X : Type 0} (of : X → M) (last : M) (sent : List (M × Unit {0})) (xs same : List X)
    → map (λ m. m.0) sent ≡ map of xs ++ [] → same ≡ xs
    → map (λ m. m.0) (sent ++ (last, tt) ∷ []) ≡ map of same ++ last ∷ []
all_finished of last sent xs same is one =
    map-append (λ m. m.0) sent ((last, tt) ∷ [])
    ∙ ap (λ l. l ++ last ∷ []) (is ∙ append-nil (map of xs))
    ∙ ap (λ l. map of l ++ last ∷ []) (sym one)

module _ (polls : ToLedgers) (packets : ToBrokers) (published : ℕ)
    (dispatched : HasSent polls packets published false) where
  -- a packet was sent
  pub HasSent-packet : (packet : Packet)
      → HasSent polls (packets ++ (to_broker.Packet packet, tt) ∷ []) (published + publish_count packet) false
  HasSent-packet packet = record {
    asked = dispatched.asked;
    sent = all_more to_broker.Packet packets (packets_in packets)
        (packets_in (packets ++ (to_broker.Packet packet, tt) ∷ [])) packet dispatched.sent
        (packets-more packets packet);
    counted = ap (λ n. n + publish_count packet) dispatched.counted
        ∙ sym (count_more (packets_in packets) packet)
        ∙ ap (λ (l : List Packet). length (filter is_publish l)) (sym (packets-more packets packet));
  }

  -- a poll was sent
  pub HasSent-poll : (poll : Poll) → HasSent (polls ++ (to_ledger.Poll poll, tt) ∷ []) packets published false
  HasSent-poll poll = record {
    asked = all_more to_ledger.Poll polls (polls_in polls) (polls_in (polls ++ (to_ledger.Poll poll, tt) ∷ [])) poll
        dispatched.asked (polls-more polls poll);
    sent = dispatched.sent;
    counted = dispatched.counted;
  }

  -- the last messages were sent
  pub HasSent-finished :
      HasSent (polls ++ (to_ledger.Finish, tt) ∷ []) (packets ++ (to_broker.Finish, tt) ∷ []) published true
  HasSent-finished = record {
    asked = all_finished to_ledger.Poll to_ledger.Finish polls (polls_in polls)
        (polls_in (polls ++ (to_ledger.Finish, tt) ∷ [])) dispatched.asked (polls-finished polls);
    sent = all_finished to_broker.Packet to_broker.Finish packets (packets_in packets)
        (packets_in (packets ++ (to_broker.Finish, tt) ∷ [])) dispatched.sent (packets-finished packets);
    counted = dispatched.counted
        ∙ ap (λ (l : List Packet). length (filter is_publish l)) (sym (packets-finished packets));
  }

-- ---- what may be sent

-- whether a sender has ended depends only on its messages, not on what they name
ended_of : {M : Type 0} (is_last : M → Bool) (sent : List (M × Unit {0}))
    → has_ended is_last sent ≡ list_any is_last (map (λ m. m.0) sent)
ended_of is_last [] = refl
ended_of is_last (m ∷ sent) = ap (λ (b : Bool). is_last m.0 || b) (ended_of is_last sent)

-- neither a packet nor a poll is a last message
packets_go_on : (packets : List Packet) → list_any ends_to_broker (map to_broker.Packet packets) ≡ false
packets_go_on [] = refl
packets_go_on (packet ∷ packets) = packets_go_on packets

polls_go_on : (polls : List Poll) → list_any ends_to_ledger (map to_ledger.Poll polls) ≡ false
polls_go_on [] = refl
polls_go_on (poll ∷ polls) = polls_go_on polls

module _ (polls : ToLedgers) (packets : ToBrokers) (published : ℕ)
    (dispatched : HasSent polls packets published false) where
  -- so neither link was sent its last message
  pub to_broker_goes_on : has_ended ends_to_broker packets ≡ false
  to_broker_goes_on =
      ended_of ends_to_broker packets
      ∙ ap (list_any ends_to_broker) (dispatched.sent ∙ append-nil (map to_broker.Packet (packets_in packets)))
      ∙ packets_go_on (packets_in packets)

  pub to_ledger_goes_on : has_ended ends_to_ledger polls ≡ false
  to_ledger_goes_on =
      ended_of ends_to_ledger polls
      ∙ ap (list_any ends_to_ledger) (dispatched.asked ∙ append-nil (map to_ledger.Poll (polls_in polls)))
      ∙ polls_go_on (polls_in polls)

-- ---- the next packet of a session

module _ (held : Option Saved) (course : Course) (runs : IsRunning held course) where
  -- what is published once it has connected
  published_lawful : 0 < course.sent → (event : Option Event) (packet : Packet)
      → slice_get course.offered (tags_sent course) ≡ event → publish_packet course event ≡ Some packet
      → IsPacket packet
  published_lawful some (Some event) packet there is =
      subst IsPacket (same_Some (Publish course.number course.sent (OfEvent event)) packet is)
      (runs.number, some, runs.emitted event (Contains_slice_get course.offered (tags_sent course) event there))
  published_lawful some None packet there is =
      let ends =
      cond_some (may_end course && (tags_sent course == length course.offered))
      (Publish course.number course.sent EndMark) packet is in
      subst IsPacket ends.1 (runs.number, some, tt)

  -- its next packet is one that may be sent
  pub IsPacket-next : (packet : Packet) → next_packet course ≡ Some packet → IsPacket packet
  IsPacket-next packet is =
      elim (cases_Bool (course.sent == 0)) [
        | inl first ↦
            subst IsPacket (same_Some (Connect course.number) packet (rw first at is)) runs.number
        | inr later ↦
            let some : 0 < course.sent = omega (arith, eqb-false course.sent 0 later) in
            published_lawful some (slice_get course.offered (tags_sent course)) packet refl (rw later at is)
      ]
