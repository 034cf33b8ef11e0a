-- The terms of std and of specifications that the proofs of this crate share.
pub use Rattle.cdc_actor_work.specs.Faults.{IsTurnFault}
pub use Rattle.cdc_actor_work.specs.Packets.{packet_in, packets_in}
pub use Rattle.cdc_actor_work.specs.declared.faults.RunFault.{RunFault}
pub use Rattle.cdc_actor_work.specs.declared.places.Place.{Place}
pub use Rattle.cdc_actors.specs.Ends.{ActorState, has_finished}
pub use Rattle.cdc_actors.specs.Stops.{StopState}
pub use Rattle.cdc_actors.specs.declared.met.Met.{Met}
pub use Rattle.cdc_actors.specs.declared.met.Met.TheVariants.{Fault, Unstarted}
pub use Rattle.cdc_broker.specs.Broker.{BrokerState, HasAccepted, empty_broker, nobody, queue_of}
pub use Rattle.cdc_broker.specs.Queues.{QueueState, empty_queue}
pub use Rattle.cdc_broker_actors.specs.Broker.{ArrivedWasReceived, BrokerCore, IsBrokerActor, as_confirm, as_sent, dealings, dealings_of, deliveries_in, stop_sent_if}
pub use Rattle.cdc_broker_actors.specs.Broker.Turns.{first_broker, first_consumer}
pub use Rattle.cdc_broker_actors.specs.Seats.{BrokerSeat, SubscriberSeat, broker_seat, subscriber_seat}
pub use Rattle.cdc_broker_actors.specs.Subscriber.{ArePartsOf, AskedClose, ClosesAfter, DeliveriesAreReceived, SubscriberCore, UnaskedStayOpen, first_subscriber, is_asked, received_by, stop_if, taken_by}
pub use Rattle.cdc_broker_actors.specs.declared.broker.consumers.Consumer.{Consumer}
pub use Rattle.cdc_broker_actors.specs.declared.broker.plans.BrokerPlan.{BrokerPlan}
pub use Rattle.cdc_connector_actor.specs.Connector.{ConnectorCore, FinishedConnectorsAreDone, IsAtRest, IsAtStart, IsConnectorActor, IsDone, IsUnplanned, Origin, RestartsAsPlanned, confirm_in, confirms_in, finish_if, first_connector, first_origin, origin_of}
pub use Rattle.cdc_connector_actor.specs.Connector.SoFar.{IsFaultOf, IsFaultOf as IsMetByConnector}
pub use Rattle.cdc_connector_actor.specs.Seats.{ConnectorSeat, at_start, connector_seat, origin_if}
pub use Rattle.cdc_laws.proofs.Feeds.{events_emitted, queue-line_after, rises-emitted}
pub use Rattle.cdc_laws.proofs.ListElements.{Contains-cons_cases, none_there, slice_get-behind}
pub use Rattle.cdc_laws.specs.Arrivals.{AreAmong, taken_after, taken_of}
pub use Rattle.cdc_laws.specs.Brokers.{HasDelivered}
pub use Rattle.cdc_laws.specs.Connectors.{IsLive, KeepsTo, held_number, held_start, held_timestamp, shown_of}
pub use Rattle.cdc_laws.specs.Courses.{Course, is_confirmed, tags_sent}
pub use Rattle.cdc_laws.specs.Faithful.{IsFaithful, applied, kept_from}
pub use Rattle.cdc_laws.specs.Line.{emitted, feed_after, line_after}
pub use Rattle.cdc_ledger.specs.History.{History, empty_history}
pub use Rattle.cdc_ledger_actors.specs.Client.{ClientCore, done_if, first_client, requests_from}
pub use Rattle.cdc_ledger_actors.specs.Ledger.{FinishedLedgersAreClosed, IsClosed, IsLedgerActor, LedgerCore, ReceiveReplies, batch_in, first_ledger, is_done, is_over, links_of, order_of, past_of_inbox}
pub use Rattle.cdc_ledger_actors.specs.Orders.{RepliesHaveTheirBatches, batches_by, batches_in, named_replies_from, named_replies_to, past_of, reply_after}
pub use Rattle.cdc_ledger_actors.specs.Seats.{ClientSeat, client_seat, ledger_seat}
pub use Rattle.cdc_links.proofs.Entries.{follow-prefix, of_sender-append, of_sender-other, of_sender-own}
pub use Rattle.cdc_links.specs.Links.{CanSend, FollowFrom, Incoming, IsAccount, LinkId, Outgoing, fresh_endpoint, fresh_endpoints, of_sender}
pub use Rattle.cdc_match.specs.Queue.{queue, takes_item}
pub use Rattle.cdc_match.specs.declared.binding.Binding.{Binding}
pub use Rattle.cdc_message.proofs.ReplayLaws.{Decides-has_same, HaveSame-again, HaveSame-push, HaveSame-refl, IsReplay-again, IsReplay-longer, IsReplay-nil, IsReplay-push, IsReplay-trans}
pub use Rattle.cdc_message.specs.Items.{TimestampsRise, events_of, rises, same_item}
pub use Rattle.cdc_message.specs.Replays.{HasNoneTwice, HaveSame, IsReplay, firsts, has_same}
pub use Rattle.cdc_message.specs.declared.items.Delivery.{Delivery}
pub use Rattle.cdc_message.specs.declared.items.Item.{Item}
pub use Rattle.cdc_message.specs.declared.packets.Confirm.{Confirm}
pub use Rattle.cdc_message.specs.declared.packets.Packet.{Packet}
pub use Rattle.cdc_progress.specs.Records.{Saved}
pub use Rattle.cdc_progress.specs.Stores.{Risks}
pub use Rattle.cdc_run.specs.Books.{AreBooks, AreReplied, AreSettled, BooksSettle, HaveFinished}
pub use Rattle.cdc_run.specs.ClientMail.{AreClientsOf, ArePollsTo, AreWiredTo, HasAllOf, HasFinishedWith, HasFinishedWith as LedgerHasFinishedWith, IsMailOf, IsMoreMail}
pub use Rattle.cdc_run.specs.ClientReplies.{AreNumbered, ClientsAreReplied, HasSettled, IsOfClients, IsReplied, LedgerMail, OrdersAreOfClients}
pub use Rattle.cdc_run.specs.Counts.{HasCounted, IsCountOf, MayCount, accepted_of}
pub use Rattle.cdc_run.specs.Determined.{AllKeepTheLine, HaveNone, LoneClientsAreServedAlone, UnaskedKeepTheLine, answers_from, kept_of_line}
pub use Rattle.cdc_run.specs.Jobs.{ComesTo}
pub use Rattle.cdc_run.specs.Made.{AreCloses, AreFreshSubscribers, AreMade, fresh_inbox, made_broker, made_clients, made_connector, made_ledger, made_subscribers, plan_of}
pub use Rattle.cdc_run.specs.Meeting.{CameTo, IsConnectorFault, IsRunFailure, MayMeet, MayStop, clients_from, places_in, subscribers_from}
pub use Rattle.cdc_run.specs.Outcomes.{finished_in, first_of, first_stop, is_gone}
pub use Rattle.cdc_run.specs.Parts.{AreActorsOf, AreLeftOf, works_of}
pub use Rattle.cdc_run.specs.Passing.{AreThrough, EndsCome, EndsPass, passage_of}
pub use Rattle.cdc_plans.specs.Faults.{IsLeast, IsLeastClose, closes_of}
pub use Rattle.cdc_run.specs.Reports.{AreFinished, AreSubscribed, HasRun, IsReportOf}
pub use Rattle.cdc_run.specs.Scripted.{ScriptedState}
pub use Rattle.cdc_run.specs.SettledLinks.{IsAccounted, IsOnlySender, IsRefused}
pub use Rattle.cdc_run.specs.Streams.{AllCome, AreJoined, AreLeftBy, ArePacketsTo, Middle}
pub use Rattle.cdc_run.specs.SubscriberMail.{AreSubscribersOf, HasFinishedWith as BrokerHasFinishedWith, IsLeftBy, IsMoreLeft}
pub use Rattle.cdc_run.specs.Subscribing.{ClosesWith, EndsOpen, HasCome, HasPassed, Passage, SubscribersCome}
pub use Rattle.cdc_run.specs.Tasks.{AreLeft, BrokerLeaves, ClientLeaves, ConnectorLeaves, HasStopped, Leaves, LedgerLeaves, Meets, Placed, Stops, SubscriberLeaves, client_place, left_at, places_of, subscriber_place, tasks_at, with_scripts}
pub use Rattle.cdc_run.specs.Wires.{AreOwn, AreWired, IsFresh, fresh_from, only_sender}
pub use Rattle.cdc_run.specs.Wirings.{AreSeated, BrokerSits, ClientSits, ConnectorSits, LedgerSits, SubscriberSits, Wiring}
pub use Rattle.cdc_run.specs.declared.actors.Actor.{Actor}
pub use Rattle.cdc_run.specs.declared.configs.Config.{Config}
pub use Rattle.cdc_run.specs.declared.ends.Ends.{Ends}
pub use Rattle.cdc_run.specs.declared.failures.Failure.{Failure}
pub use Rattle.cdc_plans.specs.declared.faults.Faults.{Faults}
pub use Rattle.cdc_run.specs.declared.tasks.Task.{Task}
pub use Rattle.cdc_subscriber.specs.Book.{book_of}
pub use Rattle.cdc_subscriber.specs.Reception.{Reception, applied_of, has_ended, is_end, kept_of, next, nothing}
pub use Rattle.cdc_subscriber.specs.SubscriberState.{SubscriberState}
pub use Rattle.cdc_traffic.specs.Following.{FollowsToConnector, FollowsToLedger, MaySendLedger, ends_to_broker, ends_to_ledger, last_named}
pub use Rattle.cdc_traffic.specs.Laws.{EndsAreLast, PastsGoOn, PollRepliesAreReadings}
pub use Rattle.cdc_traffic.specs.Pasts.{Continues, history_of}
pub use Rattle.cdc_traffic.specs.declared.messages.ToBroker.{ToBroker}
pub use Rattle.cdc_traffic.specs.declared.messages.ToConnector.{ToConnector}
pub use Rattle.cdc_traffic.specs.declared.messages.ToLedger.{ToLedger}
pub use Rattle.cdc_traffic.specs.declared.messages.ToSubscriber.{ToSubscriber}
pub use Rattle.cdc_traffic.specs.declared.pasts.Past.{Past}
pub use Rattle.cdc_traffic.specs.declared.requests.Reply.{Reply}
pub use Rattle.cdc_types.specs.Timestamps.{last_timestamp}
pub use Rattle.cdc_types.specs.Widths.{max_64}
pub use Rattle.cdc_types.specs.declared.batches.Batch.{Batch}
pub use Rattle.cdc_types.specs.declared.events.Event.{Event}
pub use Rattle.std.proofs.Common.{Bool, Global, IfOk, List, Vec, [], add-one, ap, append-nil, ap₂, arith, drop, eq-eqb, false, get_or, inl, inr, length, map, map-id, ne_eqb, refl, rules, slice_index_or, subst, suc, sym, take, true, true≢false, vec_capacity, vec_len, zero, ℕ, ◌++◌, ◌+◌, ◌-◌, ◌<◌, ◌==◌, ◌∙◌, ◌∷◌, ◌≡◌, ◌≢◌, ◌≤◌}
pub use Rattle.std.proofs.Crossing.{crosses}
pub use Rattle.std.proofs.lemmas.Bool.{and_parts, cases_Bool, cases_lt, eqb-false, eqb-true, false≢true}
pub use Rattle.std.proofs.lemmas.Bool.Decides.{eqb_tells, nat_tests, not_from_Decides}
pub use Rattle.std.proofs.lemmas.Iterator.{YieldsList, YieldsList-from_zip, zips}
pub use Rattle.std.proofs.lemmas.Iterator.Adapters.{YieldsList-from_vec}
pub use Rattle.std.proofs.lemmas.Iterator.Consumers.{YieldsList-end, YieldsList-turn}
pub use Rattle.std.proofs.lemmas.List.{append_assoc, length-append, length-map, length_push, map-append, map_push, nil_from_length, take_all, take_more}
pub use Rattle.std.proofs.lemmas.List.Elements.{All-cons, All-from_recursion, All-get_or, All-head, All-map, All-nil, All-push, All-tail, All-weaker, Contains-append_left, Contains-append_right, Contains-get_or, Contains-push_cases, filter-append, filter_map-append}
pub use Rattle.std.proofs.lemmas.List.Sums.{sum_by-cons}
pub use Rattle.std.proofs.lemmas.Option.{slice_get-map, slice_get_read, slice_get_within, unwrap_or-slice_get}
pub use Rattle.std.proofs.lemmas.Result.{err_from_is_err_and, on_ok_weaker}
pub use Rattle.std.proofs.lemmas.Simd.{map-map}
pub use Rattle.std.specs.List.{AllByRecursion, AllZip, list_all, list_any, zip}
pub use Rattle.std.specs.Prelude.{All, Contains, Err, IfErr, IfSome, IsErrAnd, None, Ok, Option, Result, Some, cond, filter, fold, if◌then◌else◌, is_none, is_some, min, nat_le, nat_lt, not, slice_get, sum_by, unwrap_or, ◌&&◌, ◌||◌, ◌⊎◌}
