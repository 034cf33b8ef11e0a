-- What a connector actor has sent so far is of the history that its last reply names.
use Rattle.cdc_connector_actor.proofs.Words.{◌++◌, ◌∙◌, ◌≡◌, AreReadings, CanSend, ConnectorCore, ConnectorsComeSoFar, FollowsToConnector, History, KeepsTo, List, None, Option, PacketsMakeRuns, Past, Saved, Some, ToConnector, [], ap, append-nil, confirms_in, connector_of, first_origin, history_of, last_named, of_sender, packets_in, readings_of, refl, sym}
use Rattle.cdc_connector_actor.proofs.ConnectorLemmas.Failing.{publishing_so_far}
use Rattle.cdc_laws.specs.ConnectorRuns.{IsConnectorRun, sent_by}
use Rattle.cdc_traffic.proofs.Continuing.{Continues-same}
use Rattle.cdc_traffic.proofs.Named.{poll_replies_read}

-- the ledger's replies are readings of the history that the last of them names
read_so : (received : List (ToConnector × Option Past)) → CanSend FollowsToConnector 0 received
    → AreReadings (readings_of received) (history_of (last_named received))
read_so received lawful =
    let whole : received ++ [] ≡ received = append-nil received in
    poll_replies_read received [] (last_named received) (rw whole lawful)
    (rw whole (Continues-same (last_named received)))

-- a connector that keeps to a history has made a run of it; nothing was sent before anything was held
run_of : (h : History) (c : ConnectorCore) → KeepsTo h (connector_of c None) → (held : Option Saved) → c.held ≡ held
    → IsConnectorRun h (first_origin c.start held).start (packets_in c.packets.sent)
    (confirms_in (of_sender 1 c.inbox.received))
run_of h c keeps None nothing =
    record { sessions = []; makes = ap sent_by (sym (keeps.none_yet nothing).0) ∙ keeps.makes; each = tt }
run_of h c keeps (Some saved) holds = record {
  sessions = keeps.sessions;
  makes = keeps.makes;
  each = rw holds at keeps.each;
}

packets_run : PacketsMakeRuns
packets_run c is lawful honest at_start =
    let received : List (ToConnector × Option Past) = of_sender 0 c.inbox.received in
    let history : History = history_of (last_named received) in
    run_of history c (is.keeps honest at_start history (read_so received lawful)) c.held refl

pub connectors_come_so_far : ConnectorsComeSoFar
connectors_come_so_far = record {
  between = λ c end. publishing_so_far c end.course end.publishing;
  runs = packets_run;
}
