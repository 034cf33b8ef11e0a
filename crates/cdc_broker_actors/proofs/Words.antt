-- The words of the standard library and of specifications that the proofs of this crate share.
pub use Rattle.cdc_actor_work.proofs.Counted.{few_received, one_received}
pub use Rattle.cdc_actor_work.proofs.PassedOn.{passed_on}
pub use Rattle.cdc_actor_work.proofs.Staying.{stays_by}
pub use Rattle.cdc_laws.proofs.Brokers.{HasArrived-nil, HasArrived-passed, HasArrived-taken}
pub use Rattle.cdc_links.proofs.Entries.{of_sender-snoc_other, of_sender-snoc_own}
pub use Rattle.std.proofs.Common.{Bool, List, None, Option, Some, [], ap, append-nil, append_assoc, ap₂, arith, cond, drop, false, get_or, inl, inr, is_some, length, map, max, refl, rules, subst, suc, sym, take, tests, true, vec_capacity, vec_len, zero, ℕ, ◌++◌, ◌+◌, ◌-◌, ◌<◌, ◌∙◌, ◌∷◌, ◌≡◌, ◌≢◌, ◌≤◌, ◌⊎◌}
pub use Rattle.std.specs.Prelude.{All, Contains, Err, IfErr, Ok, Result, fold, if◌then◌else◌, nat_le, nat_lt, slice_get, slice_set, unwrap_or, ◌&&◌, ◌==◌, ◌||◌}
pub use Rattle.std.proofs.lemmas.Bool.{cases_Bool, cases_eq, eqb-true}
pub use Rattle.std.proofs.lemmas.Bool.Decides.{nat_tests}
pub use Rattle.std.proofs.lemmas.List.{drop_more, get_or-set_same, get_or_at, length-append, length-map, length-set, length-take-le, length_push, map-append, map_more, set-get_or, set-set, set_at, with_items_is}
pub use Rattle.std.proofs.lemmas.List.Elements.{All-set, Contains-append_right, Contains-push, Contains-push_cases, filter_map-append}
pub use Rattle.std.proofs.lemmas.List.Folds.{list_all-map, list_any-append}
pub use Rattle.std.proofs.lemmas.List.Sums.{fold-append}
pub use Rattle.std.proofs.lemmas.Option.{get_or_from_slice_get, same_Some, slice_get-get_or, slice_get-map, slice_get_read, slice_get_within, unwrap_or-slice_get}
pub use Rattle.std.proofs.lemmas.Result.{IfOk-weaker}
pub use Rattle.std.specs.List.{list_all, list_any}
pub use Rattle.std.specs.Option.{option_map}
pub use Rattle.cdc_actor_work.specs.Packets.{packet_in, packets_in}
pub use Rattle.cdc_actor_work.specs.declared.faults.RunFault.{RunFault}
pub use Rattle.cdc_actor_work.specs.declared.faults.RunFault.TheVariants.{NotOneSystem, OutOfMemory, PeerGone, SessionsExhausted, StartNotAllowed, Store}
pub use Rattle.cdc_broker.specs.Broker.{BrokerState, after_packet, empty_broker, nobody, queue_of, takes_packet, with_queue}
pub use Rattle.cdc_broker.specs.Packets.{is_taken, is_taken_at, items_of}
pub use Rattle.cdc_broker.specs.Queues.{QueueState, acknowledged, empty_queue, is_unknown, item_for, next_delivery, queued, rewound_queue, with_delivery, with_item}
pub use Rattle.cdc_broker_actors.specs.Broker.{ArrivedWasReceived, BrokerCore, Dealings, EachPacketIsAnswered, IsBrokerActor, IsBrokerCore, IsConsumerServed, IsWhole, UnlostArrives, acks_at, answer_after, as_confirm, as_sent, confirm_of, counted, dealings, dealings_of, deliveries_in, delivery_in, is_listed, is_lost, is_over, no_dealings, taken_answer, with_packet}
pub use Rattle.cdc_broker_actors.specs.Broker.Fails.{AreStopping, DeliversSoFar, IsCutOff, IsStuck, IsUnanswered}
pub use Rattle.cdc_broker_actors.specs.Broker.SoFar.{BrokersComeSoFar, HasFailed, IsBrokerSoFar, IsServedSoFar}
pub use Rattle.cdc_broker_actors.specs.Broker.Steps.{HasBecome, HasReceivedIf, HasTaken, MayDeliver, MayStop}
pub use Rattle.cdc_broker_actors.specs.Broker.Turns.{HasReceived, HasReceivedAll, HasReceivedNext, HasSameLinks, HasTurned, IsDue, IsFreshLink, Lane, MayAck, acked_if, admitted, all_served, answer_if, back_if, coming_if, delivered_some, first_broker, first_consumer, goes_back, lane_of, reception, served_if, stopped, stopped_if, with_ack, with_coming, with_copy, with_counted, with_lane, with_next, with_one_fewer, with_served, with_stop}
pub use Rattle.cdc_broker_actors.specs.Seats.{broker_seat, subscriber_seat}
pub use Rattle.cdc_broker_actors.specs.Subscriber.{AskedClose, ClosesAfter, DeliveriesAreReceived, IsBrought, IsSubscriberActor, SubscriberCore, UnaskedStayOpen, ack_of, arrival_if, arrivals_by, arrivals_from, closed_if, delivery_of, is_asked, is_due, received_after, received_by, stop_if, taken_by, with_arrival, with_message}
pub use Rattle.cdc_broker_actors.specs.Subscriber.SoFar.{ComesSoFar, ComesSoFar as SubscriberComes, HasFailed as SubscriberHasFailed, IsSubscriberSoFar, SubscribersComeSoFar, with_unacknowledged, with_untaken}
pub use Rattle.cdc_broker_actors.specs.declared.broker.consumers.Consumer.{Consumer}
pub use Rattle.cdc_broker_actors.specs.declared.broker.plans.BrokerPlan.{BrokerPlan}
pub use Rattle.cdc_broker_actors.specs.declared.subscriber.arrivals.Arrival.{Arrival}
pub use Rattle.cdc_laws.specs.Arrivals.{taken_after, taken_of}
pub use Rattle.cdc_laws.specs.Brokers.{HasArrived, HasDelivered}
pub use Rattle.cdc_links.specs.Links.{Incoming, LinkId, Outgoing, Takes, TakesIfSome, TakesMany, of_sender, with_received, with_sent}
pub use Rattle.cdc_match.specs.Arguments.{Arguments}
pub use Rattle.cdc_message.specs.declared.items.Delivery.{Delivery}
pub use Rattle.cdc_message.specs.declared.items.Item.{Item}
pub use Rattle.cdc_message.specs.declared.packets.Answer.{Answer}
pub use Rattle.cdc_message.specs.declared.packets.Answer.TheVariants.{Broken, Confirmed, Connected, Ignored}
pub use Rattle.cdc_message.specs.declared.packets.Confirm.{Confirm}
pub use Rattle.cdc_message.specs.declared.packets.Packet.{Packet}
pub use Rattle.cdc_message.specs.declared.packets.Packet.TheVariants.{Connect, Publish}
pub use Rattle.cdc_subscriber.specs.Reception.{Reception, applied_of, is_end, kept_of, next, nothing}
pub use Rattle.cdc_subscriber.specs.SubscriberState.{SubscriberState}
pub use Rattle.cdc_traffic.specs.Following.{FollowsToBroker, MaySendBroker, MaySendSubscriber, ends_to_broker, ends_to_subscriber, has_ended}
pub use Rattle.cdc_traffic.specs.declared.messages.Ack.{Ack}
pub use Rattle.cdc_traffic.specs.declared.messages.ToBroker.{ToBroker}
pub use Rattle.cdc_traffic.specs.declared.messages.ToConnector.{ToConnector}
pub use Rattle.cdc_traffic.specs.declared.messages.ToSubscriber.{ToSubscriber}
pub use Rattle.cdc_traffic.specs.declared.messages.ToSubscriber.TheVariants.{Delivery as Carries, Stop}
pub use Rattle.cdc_traffic.specs.declared.pasts.Past.{Past}
