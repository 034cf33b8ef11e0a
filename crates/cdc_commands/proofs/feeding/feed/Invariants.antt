use Rattle.cdc_commands.proofs.FeedLemmas.{IsFeeding}
use Rattle.cdc_commands.proofs.feeding.feed.Given as goal

abbrev pub invariant-loop-place : goal.invariant-loop-place
invariant-loop-place l = IsFeeding l.tag l.fn.item l.place l.fn.broker l.broker l.fn.subscribers l.subscribers
