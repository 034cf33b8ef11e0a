use Rattle.cdc_deliveries.proofs.Words.{Indexes, drop, feed}
use Rattle.cdc_deliveries.proofs.feeds.FeedIndex.new.Given as goal

-- the index has the events so far
abbrev pub invariant-loop-place : goal.invariant-loop-place
invariant-loop-place l =
    Indexes l.index (feed (drop l.place l.log.events) l.binding) (feed l.log.events l.binding)
