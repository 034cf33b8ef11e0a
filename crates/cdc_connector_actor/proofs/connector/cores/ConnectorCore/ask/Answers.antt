use Rattle.cdc_connector_actor.proofs.Words.{ConnectorCore, Poll, ap, sym}
use Rattle.cdc_connector_actor.proofs.ConnectorLemmas.Steps.{may_ask}
use Rattle.cdc_connector_actor.proofs.connector.cores.ConnectorCore.ask.Goals as goal

pub send_message-requires : goal.send_message-requires
send_message-requires g c =
    let poll : Poll = record {
      session = c.number.result;
      number = c.in-Some-checked_add.number;
      after = c.in-Some-wants.wanted.after;
      limit = c.in-Some-wants.wanted.limit;
    } in
    rw (ap (λ (w : ConnectorCore). w.polls) (sym c.self.view_is))
    at (may_ask c.args.self.now c.requires.course c.requires.publishing c.requires.working poll)
