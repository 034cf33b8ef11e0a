use Rattle.cdc_deliveries.proofs.Words.{false, takes_event, true, ◌≡◌}
use Rattle.cdc_queue_lines.proofs.StepLemmas.{takes_by}
use Rattle.cdc_deliveries.proofs.IndexLemmas.{index_fed, index_passed}
use Rattle.cdc_deliveries.proofs.feeds.FeedIndex.add.Goals as goal

pub returns-then-matches : goal.returns-then-matches
returns-then-matches c =
    let takes : takes_event c.args.binding.now c.args.event.now ≡ true =
    takes_by c.args.binding.now c.args.event.now c.headers_of.result c.matches.result true c.headers_of.ensures
    c.matches.ensures c.if-matches.true in
    index_fed c.args.self.now c.push.new.self c.args.binding.now c.args.event.now c.push.result takes c.push.ensures

pub returns-else-matches : goal.returns-else-matches
returns-else-matches c =
    let passes : takes_event c.args.binding.now c.args.event.now ≡ false =
    takes_by c.args.binding.now c.args.event.now c.headers_of.result c.matches.result false c.headers_of.ensures
    c.matches.ensures c.if-matches.false in
    index_passed c.args.self.now c.args.binding.now c.args.event.now passes
