use Rattle.cdc_end_laws.proofs.Cutting.{StandsOn, cut_off_are_faithful}
use Rattle.cdc_end_laws.proofs.actors.cut_off_runs_are_faithful.Goals as goal

pub returns : goal.returns
returns c =
    let on : StandsOn = record {
      ledger = c.so_far_laws.ensures.ledger;
      broker = c.so_far_laws.ensures.broker;
      connector = c.actors_lack_one_message.ensures.connector;
      subscriber = c.actors_lack_one_message.ensures.subscriber;
      pasts = c.traffic_laws.ensures.pasts;
      longer = c.run_laws.ensures.longer;
      taken = c.run_laws.ensures.taken;
      arrived = c.broker_actor_laws.ensures.arrived;
      reception = c.subscriber_actor_laws.ensures.receives;
      receives = c.subscriber_laws.ensures.receives;
      faithful = c.subscriber_laws.ensures.faithful;
    } in
    cut_off_are_faithful on
