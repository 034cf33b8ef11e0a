use Rattle.cdc_traffic.specs.Following.{FollowsToBroker, FollowsToLedger, FollowsToSubscriber, ends_to_broker, ends_to_ledger, ends_to_subscriber}
use Rattle.cdc_traffic.proofs.Continuing.{past_sound, pasts_go_on}
use Rattle.cdc_traffic.proofs.Ends.{ends_are_last}
use Rattle.cdc_traffic.proofs.Named.{poll_replies_read, replies_go_on}
use Rattle.cdc_traffic.proofs.laws.traffic_laws.Goals as goal

pub returns-clause-pasts : goal.returns-clause-pasts
returns-clause-pasts c = λ earlier later on. (pasts_go_on earlier later on, past_sound later)

pub returns-clause-replies : goal.returns-clause-replies
returns-clause-replies c = replies_go_on

pub returns-clause-readings : goal.returns-clause-readings
returns-clause-readings c = poll_replies_read

pub returns-clause-ends : goal.returns-clause-ends
returns-clause-ends c = (
  ends_are_last FollowsToLedger ends_to_ledger (λ sender before next may. may.goes_on),
  ends_are_last FollowsToBroker ends_to_broker (λ sender before next may. may.goes_on),
  ends_are_last FollowsToSubscriber ends_to_subscriber (λ sender before next may. may.goes_on),
)
