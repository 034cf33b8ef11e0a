use Rattle.std.proofs.Common.{◌∙◌, refl, sym}
use Rattle.cdc_deliveries.proofs.IndexLemmas.{event_added, event_there}
use Rattle.cdc_deliveries.proofs.feeds.FeedIndex.push.Goals as goal

pub returns-then-contains_key : goal.returns-then-contains_key
returns-then-contains_key c = λ later fed is.
    event_there c.args.self.now c.args.event.now later fed (sym c.contains_key.ensures ∙ c.if-contains_key.true) is

pub returns : goal.returns
returns c = λ later fed is.
    event_added c.args.self.now _ c.args.event.now later fed (sym c.contains_key.ensures ∙ c.if-contains_key.false)
    c.in_ok-insert.ensures.updates refl is
