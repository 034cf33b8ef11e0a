use Rattle.cdc_publisher.proofs.Wanted.{confirms_widen, packets_keep}
use Rattle.cdc_publisher.proofs.laws.poll_laws.Goals as goal

pub returns-clause-confirms : goal.returns-clause-confirms
returns-clause-confirms c = confirms_widen

pub returns-clause-packets : goal.returns-clause-packets
returns-clause-packets c = packets_keep
