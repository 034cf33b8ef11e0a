use Rattle.cdc_commands.proofs.Terms.{Some, SubscriberState, Subscription, ap, arith, found_at, json_lines, kept_more, kept_of, kept_whole, length, length-map, map, slice_get-map, subscriber_values, ◌++◌, ◌+◌, ◌<◌, ◌∙◌, ◌≡◌, ◌≤◌}
use Rattle.std.specs.Option.{option_map}
use Rattle.std.specs.Prelude.{slice_get}
use Rattle.cdc_commands.proofs.SimulationLemmas.{numbered_found}
use Rattle.cdc_commands.proofs.json_form.simulations.push_subscriptions.Goals as goal

pub loop-place-preserved : goal.loop-place-preserved
loop-place-preserved c = λ w stands.
    let keeps : Subscription → SubscriberState = λ s. kept_of s.reception in
    let place = c.loop-place.place in
    let inside : place < length w.subscriptions =
    omega (arith, c.subscriber_count-place-end.ensures.subscriptions w stands) in
    let found = found_at w.subscriptions place inside in
    let there : slice_get (map keeps w.subscriptions) place ≡ Some (kept_of found.0.reception) =
    slice_get-map keeps w.subscriptions place ∙ ap (option_map keeps) found.1 in
    let reception =
    c.subscriber.ensures.reception w stands found.0 (numbered_found w.subscriptions place found.0 found.1) in
    kept_more (map keeps w.subscriptions) place (kept_of found.0.reception) _ _ _ there
    (c.in_ok-push_subscriber.ensures
    ∙ ap (λ (kept : SubscriberState). c.loop-place.lines.text.items ++ json_lines (subscriber_values (place + 1) kept))
    reception)
    (c.loop-place.invariant w stands)

pub returns : goal.returns
returns c = λ w stands.
    let keeps : Subscription → SubscriberState = λ s. kept_of s.reception in
    let past : length (map keeps w.subscriptions) ≤ c.loop-place.place =
    omega (arith, length-map w.subscriptions keeps, c.subscriber_count-place-end.ensures.subscriptions w stands) in
    kept_whole (map keeps w.subscriptions) c.loop-place.place _ _ past (c.loop-place.invariant w stands)
