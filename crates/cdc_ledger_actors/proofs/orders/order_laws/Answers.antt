use Rattle.cdc_ledger_actors.proofs.ClientReplies.{replies_are_sent, replies_have_their_batches, replies_may_follow}
use Rattle.cdc_ledger_actors.proofs.FixedOrders.{orders_are_fixed}
use Rattle.cdc_ledger_actors.proofs.orders.order_laws.Goals as goal

pub returns-clause-batches : goal.returns-clause-batches
returns-clause-batches c = replies_have_their_batches

pub returns-clause-dispatched : goal.returns-clause-dispatched
returns-clause-dispatched c = replies_are_sent

pub returns-clause-follows : goal.returns-clause-follows
returns-clause-follows c = replies_may_follow

pub returns-clause-fixed : goal.returns-clause-fixed
returns-clause-fixed c = orders_are_fixed
