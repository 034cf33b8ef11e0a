use Rattle.cdc_commands.proofs.Terms.{arith, drop_all, found_at, length, ◌<◌, ◌≤◌}
use Rattle.cdc_commands.proofs.SimulationLemmas.{numbered_found, printed_more, printed_whole}
use Rattle.cdc_commands.proofs.simulation_report.push_subscriptions.Goals as goal

pub loop-place-preserved : goal.loop-place-preserved
loop-place-preserved c = λ w stands.
    let inside : c.loop-place.place < length w.subscriptions =
    omega (arith, c.subscriber_count-place-end.ensures.subscriptions w stands) in
    let found = found_at w.subscriptions c.loop-place.place inside in
    printed_more c.loop-place.place w.subscriptions found.0 c.subscriber.result.now c.loop-place.text.items
    c.print_subscriber.new.text.items _ found.1
    (c.subscriber.ensures.reception w stands found.0 (numbered_found w.subscriptions c.loop-place.place
    found.0 found.1))
    c.in_ok-print_subscriber.ensures (c.loop-place.invariant w stands)

pub returns : goal.returns
returns c = λ w stands.
    let all : length w.subscriptions ≤ c.loop-place.place =
    omega (arith, c.subscriber_count-place-end.ensures.subscriptions w stands) in
    printed_whole c.loop-place.place w.subscriptions c.loop-place.text.items _
    (drop_all c.loop-place.place w.subscriptions all) (c.loop-place.invariant w stands)
