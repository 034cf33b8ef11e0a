use Rattle.cdc_queue_laws.proofs.QueueLemmas.{texts_are_of_queues}
use Rattle.cdc_queue_laws.proofs.laws.queue_texts_are_of_queues.Goals as goal

pub returns : goal.returns
returns c = texts_are_of_queues
