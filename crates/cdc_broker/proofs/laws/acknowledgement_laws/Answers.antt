use Rattle.std.proofs.Common.{arith}
use Rattle.cdc_broker.specs.Queues.{QueueState, empty_queue}
use Rattle.cdc_broker.specs.Requests.{after_requests}
use Rattle.cdc_broker.proofs.Requests.{delivers_past, past_requests}
use Rattle.cdc_broker.proofs.laws.acknowledgement_laws.Goals as goal

pub returns : goal.returns
returns c = λ binding earlier later.
    let now : QueueState = after_requests (empty_queue binding) earlier in
    let is = past_requests earlier 0 (empty_queue binding) (record { past = omega arith; least = omega arith }) in
    delivers_past now.cursor.acked (after_requests now later)
    (past_requests later now.cursor.acked now (record { past = is.past; least = omega arith }))
