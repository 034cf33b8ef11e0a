use Rattle.cdc_laws.proofs.Receiving.{HasTaken-close, HasTaken-next, HasTaken-nil}
use Rattle.cdc_laws.proofs.Queues.{HasDelivered-ack, HasDelivered-next, HasDelivered-nil, HasDelivered-queued, HasDelivered-rewound}
use Rattle.cdc_laws.proofs.steps.delivery_laws.Goals as goal

pub returns-clause-begins : goal.returns-clause-begins
returns-clause-begins c = HasDelivered-nil

pub returns-clause-grows : goal.returns-clause-grows
returns-clause-grows c = HasDelivered-queued

pub returns-clause-delivers : goal.returns-clause-delivers
returns-clause-delivers c = HasDelivered-next

pub returns-clause-acknowledges : goal.returns-clause-acknowledges
returns-clause-acknowledges c = HasDelivered-ack

pub returns-clause-goes_back : goal.returns-clause-goes_back
returns-clause-goes_back c = HasDelivered-rewound

pub returns-clause-subscribes : goal.returns-clause-subscribes
returns-clause-subscribes c = HasTaken-nil

pub returns-clause-takes : goal.returns-clause-takes
returns-clause-takes c = HasTaken-next

pub returns-clause-closes : goal.returns-clause-closes
returns-clause-closes c = HasTaken-close
