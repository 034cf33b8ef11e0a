use Rattle.cdc_run_command.proofs.Words.{kept_more, kept_whole, refl, slice_get_read}
use Rattle.cdc_run_command.proofs.run_objects.push_kept.Goals as goal

pub loop-place-preserved : goal.loop-place-preserved
loop-place-preserved c =
    let all = c.args.subscribers.now in
    let kept = c.index-subscribers-place.result in
    kept_more all c.loop-place.place kept _ _ _
    (slice_get_read all _ c.loop-place.place kept refl c.loop-place-test.true c.index-subscribers-place.is)
    c.in_ok-push_subscriber.ensures c.loop-place.invariant

pub returns : goal.returns
returns c =
    kept_whole c.args.subscribers.now c.loop-place.place _ _ c.loop-place-test.false c.loop-place.invariant
