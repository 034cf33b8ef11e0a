use Rattle.cdc_commands.proofs.FeedLemmas.{AreFedTo}
use Rattle.cdc_commands.proofs.feeding.subscribers_of_log.Given as goal

abbrev pub invariant-loop-place : goal.invariant-loop-place
invariant-loop-place l = AreFedTo l.log.events l.fn.bindings.items l.place l.broker l.subscribers.items
