use Rattle.cdc_queue_lines.proofs.Values.{ends_read, messages_read}
use Rattle.cdc_queue_lines.proofs.laws.line_laws.Goals as goal

pub returns-clause-messages : goal.returns-clause-messages
returns-clause-messages c = messages_read

pub returns-clause-ends : goal.returns-clause-ends
returns-clause-ends c = ends_read
