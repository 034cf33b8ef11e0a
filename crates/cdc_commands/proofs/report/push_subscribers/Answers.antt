use Rattle.cdc_commands.proofs.Terms.{arith, length, refl, slice_get_read, ◌<◌, ◌≤◌}
use Rattle.cdc_commands.proofs.TextLemmas.{kept_text-more, kept_text-whole}
use Rattle.cdc_commands.proofs.report.push_subscribers.Goals as goal

pub loop-place-preserved : goal.loop-place-preserved
loop-place-preserved c =
    let all = c.args.subscribers.now in
    let place = c.loop-place.place in
    let one = c.index-subscribers-place.result in
    let inside : place < length all = omega arith in
    kept_text-more all place one c.loop-place.text.items _ _
    (slice_get_read all (length all) place one refl inside c.index-subscribers-place.is)
    c.in_ok-print_subscriber.ensures c.loop-place.invariant

pub returns : goal.returns
returns c =
    let all = c.args.subscribers.now in
    let past : length all ≤ c.loop-place.place = omega arith in
    kept_text-whole all c.loop-place.place _ _ past c.loop-place.invariant
