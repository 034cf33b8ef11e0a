use Rattle.cdc_queue_laws.proofs.QueueLemmas.{arrives_later, whatever_arrives}
use Rattle.cdc_queue_laws.proofs.laws.whatever_arrives_is_a_prefix.Goals as goal

pub returns-clause-begins : goal.returns-clause-begins
returns-clause-begins c = whatever_arrives

pub returns-clause-resumes : goal.returns-clause-resumes
returns-clause-resumes c = arrives_later
