use Rattle.cdc_match.specs.Queue.{takes_item}
use Rattle.cdc_match.proofs.FilterLaws.{IsReplay-filter}
use Rattle.cdc_match.proofs.QueueLaws.{events_of-queue}
use Rattle.cdc_match.proofs.laws.queue_laws.Goals as goal

pub returns-clause-replays : goal.returns-clause-replays
returns-clause-replays c = λ w f binding replay. IsReplay-filter (takes_item binding) w f replay

pub returns-clause-feeds : goal.returns-clause-feeds
returns-clause-feeds c = events_of-queue
