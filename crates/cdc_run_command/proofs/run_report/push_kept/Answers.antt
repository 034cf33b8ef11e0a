use Rattle.cdc_run_command.proofs.Words.{List, SubscriberState, ap, append_assoc, drop, drop_found, kept_text, refl, slice_get_read, subscriber_text, sym, ℕ, ◌++◌, ◌+◌, ◌∙◌}
use Rattle.cdc_run_command.proofs.run_report.push_kept.Goals as goal

pub loop-place-preserved : goal.loop-place-preserved
loop-place-preserved c =
    let all = c.args.subscribers.now in
    let place = c.loop-place.place in
    let kept = c.index-subscribers-place.result in
    let rest = kept_text (place + 1 + 1) (drop (place + 1) all) in
    ap (λ (text : List ℕ). text ++ rest) c.in_ok-print_subscriber.ensures
    ∙ append_assoc c.loop-place.text.items (subscriber_text (place + 1) kept) rest
    ∙ sym (ap (λ (left : List SubscriberState). c.loop-place.text.items ++ kept_text (place + 1) left)
    (drop_found all place kept
    (slice_get_read all _ place kept refl c.loop-place-test.true c.index-subscribers-place.is)))
    ∙ c.loop-place.invariant
