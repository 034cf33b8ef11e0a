use Rattle.cdc_laws.proofs.Connectors.{IsConnectorRun-keeps, KeepsTo-begin, KeepsTo-confirm, KeepsTo-end, KeepsTo-goes_on, KeepsTo-half_started, KeepsTo-save, KeepsTo-sent, KeepsTo-start}
use Rattle.cdc_laws.proofs.Offers.{KeepsTo-offer, KeepsToReadings-offer, KeepsToReadings-unused}
use Rattle.cdc_laws.proofs.steps.connector_laws.Goals as goal

pub returns-clause-begins : goal.returns-clause-begins
returns-clause-begins c = KeepsTo-begin

pub returns-clause-goes_on : goal.returns-clause-goes_on
returns-clause-goes_on c = KeepsTo-goes_on

pub returns-clause-ends : goal.returns-clause-ends
returns-clause-ends c = KeepsTo-end

pub returns-clause-starts : goal.returns-clause-starts
returns-clause-starts c = KeepsTo-start

pub returns-clause-half_starts : goal.returns-clause-half_starts
returns-clause-half_starts c = KeepsTo-half_started

pub returns-clause-is_offered : goal.returns-clause-is_offered
returns-clause-is_offered c = KeepsTo-offer

pub returns-clause-sends : goal.returns-clause-sends
returns-clause-sends c = λ h side course packet keeps runs is. KeepsTo-sent h side keeps course runs packet is

pub returns-clause-receives : goal.returns-clause-receives
returns-clause-receives c = KeepsTo-confirm

pub returns-clause-saves : goal.returns-clause-saves
returns-clause-saves c = KeepsTo-save

pub returns-clause-runs : goal.returns-clause-runs
returns-clause-runs c = IsConnectorRun-keeps

pub returns-clause-reads : goal.returns-clause-reads
returns-clause-reads c = KeepsToReadings-offer

pub returns-clause-leaves : goal.returns-clause-leaves
returns-clause-leaves c = KeepsToReadings-unused
