use Rattle.cdc_run_command.proofs.Words.{List, Reply, Some, ap, arith, length-map, map, option_map, refl, slice_get, slice_get-map, slice_get_read, ◌∙◌, ◌≡◌}
use Rattle.cdc_run_command.proofs.ObjectLemmas.{reply_more, reply_whole}
use Rattle.cdc_run_command.proofs.run_objects.push_replies.Goals as goal

pub loop-place-preserved : goal.loop-place-preserved
loop-place-preserved c =
    let all : List Reply = map (λ r. r.now) c.args.replies.now in
    let place = c.loop-place.place in
    let reply : Reply = c.index-replies-place.result.now in
    let there : slice_get all place ≡ Some reply =
    slice_get-map (λ r. r.now) c.args.replies.now place
    ∙ ap (option_map (λ r. r.now))
    (slice_get_read c.args.replies.now _ place c.index-replies-place.result refl c.loop-place-test.true
    c.index-replies-place.is) in
    reply_more all place reply _ _ _ there c.in_ok-push_batch.ensures c.loop-place.invariant

pub returns : goal.returns
returns c =
    let all : List Reply = map (λ r. r.now) c.args.replies.now in
    reply_whole all c.loop-place.place _ _
    (omega (arith, length-map c.args.replies.now (λ r. r.now), c.loop-place-test.false)) c.loop-place.invariant
