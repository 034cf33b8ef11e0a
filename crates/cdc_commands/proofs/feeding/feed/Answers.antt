use Rattle.cdc_commands.proofs.Terms.{arith, get_or, length, refl, slice_get-get_or, ◌<◌}
use Rattle.cdc_commands.proofs.FeedLemmas.{IsFeeding-more, IsFeeding-none}
use Rattle.cdc_commands.proofs.feeding.feed.Goals as goal

pub loop-place-init : goal.loop-place-init
loop-place-init c =
    IsFeeding-none c.args.tag c.args.item c.args.broker.now c.publish.new.broker c.args.subscribers.now
    c.in_ok-publish.ensures

pub loop-place-preserved : goal.loop-place-preserved
loop-place-preserved c =
    let subscribers = c.loop-place.subscribers in
    let place = c.loop-place.place in
    let any = c.index-subscribers-place.result in
    let inside : place < length subscribers = omega arith in
    IsFeeding-more c.args.tag c.args.item place c.args.broker.now c.loop-place.broker c.take_next.new.broker
    c.args.subscribers.now subscribers _ (get_or subscribers place any) c.take_next.new.subscriber inside
    (slice_get-get_or subscribers place any inside) c.loop-place.invariant c.in_ok-take_next.ensures refl
