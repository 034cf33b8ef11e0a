use Rattle.cdc_follow.proofs.ReceivedLemmas.{received_once}
use Rattle.cdc_follow.proofs.laws.received_once_is_applied.Goals as goal

pub returns : goal.returns
returns c = received_once
