use Rattle.cdc_connector_actor.proofs.ConnectorLemmas.Rounds.{finished_done}
use Rattle.cdc_connector_actor.proofs.connector.connector_actor_laws.Goals as goal

pub returns : goal.returns
returns c = record { finished = finished_done }
