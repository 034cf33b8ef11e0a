-- The terms of std and of specifications that the proofs of this crate share.
pub use Rattle.cdc_actor_work.specs.Packets.{packet_in, packets_in}
pub use Rattle.cdc_actors.specs.Connector.{ConnectorCore, confirm_in, confirms_in, origin_of, poll_in}
pub use Rattle.cdc_broker_actors.specs.Broker.{ArrivedWasReceived, BrokerCore, Dealings, answer_after, as_confirm, confirm_of, dealings, dealings_of, deliveries_in, delivery_in, is_lost, no_dealings, with_packet}
pub use Rattle.cdc_broker_actors.specs.Broker.SoFar.{BrokersComeSoFar, IsBrokerSoFar}
pub use Rattle.cdc_broker_actors.specs.Subscriber.{DeliveriesAreReceived, SubscriberCore, ack_of, delivery_of, received_by, taken_by}
pub use Rattle.cdc_end_laws.specs.Said.{BrokersLackOne, ClientsLackOne, ConnectorsKeepToRuns, HasBrokerSaid, HasClientSaid, HasLedgerSaid, HasSubscriberSaid, Lacks, LedgersLackOne, SubscribersLackOne}
pub use Rattle.cdc_laws.specs.Arrivals.{AreAmong, taken_of}
pub use Rattle.cdc_laws.specs.History.{History}
pub use Rattle.cdc_laws.specs.Line.{feed_after, line_after}
pub use Rattle.cdc_laws.specs.Queue.{queue, takes_event}
pub use Rattle.cdc_laws.specs.Reception.{Reception, has_ended}
pub use Rattle.cdc_ledger_actors.specs.Ledger.{FinishedLedgersAreClosed, IsLedgerTurn, LedgerCore, ReceiveReplies, asked, first_ledger, has_to_wait, is_over, kept_of, order_of, past_of_inbox, replied_first, replied_of, replies_of, with_replies}
pub use Rattle.cdc_ledger_actors.specs.Ledger.SoFar.{IsLedgerSoFar, LedgersComeSoFar}
pub use Rattle.cdc_links.specs.Links.{CanSend, Incoming, Outgoing, of_sender}
pub use Rattle.cdc_message.specs.declared.packets.Answer.TheVariants.{Broken, Confirmed}
pub use Rattle.cdc_message.specs.declared.packets.Confirm.{Confirm}
pub use Rattle.cdc_message.specs.declared.packets.Packet.{Packet}
pub use Rattle.cdc_traffic.specs.Pasts.{Continues, history_of, no_past}
pub use Rattle.cdc_traffic.specs.declared.messages.ToConnector.{ToConnector}
pub use Rattle.cdc_traffic.specs.declared.messages.ToLedger.{ToLedger}
pub use Rattle.cdc_traffic.specs.declared.pasts.Past.{Past}
pub use Rattle.std.proofs.Common.{Bool, List, [], ap, append-nil, append_assoc, ap₂, arith, cond, false, inl, inr, length, map, refl, subst, suc, sym, take, true, zero, ℕ, ◌++◌, ◌+◌, ◌-◌, ◌<◌, ◌∙◌, ◌∷◌, ◌≡◌, ◌≤◌}
pub use Rattle.std.proofs.Math.Seq.{take-append_seam}
pub use Rattle.std.proofs.lemmas.Bool.{cases_Bool, leb-false, leb-true}
pub use Rattle.std.proofs.lemmas.List.{length-append, length-map, map-append}
pub use Rattle.std.proofs.lemmas.List.Elements.{All-contains, All-filter, All-head, All-tail, Contains-append_left, Contains-get_or, filter_map-append}
pub use Rattle.std.proofs.lemmas.List.Sums.{fold-append}
pub use Rattle.std.specs.Prelude.{All, Contains, Err, IsTrue, None, Option, Some, drop, filter, min, nat_le, nat_lt, not, slice_get, unwrap_or, ◌==◌}
