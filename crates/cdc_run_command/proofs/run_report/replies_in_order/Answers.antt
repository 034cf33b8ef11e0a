use Rattle.cdc_run_command.proofs.Words.{ap, length-map, map, map-append, slice_get-get_or, sym, ◌∙◌}
use Rattle.cdc_run_command.proofs.ReplyLemmas.{found_more, found_none, has_next, merged_whole}
use Rattle.cdc_run_command.proofs.run_report.replies_in_order.Goals as goal

pub loop-client-init : goal.loop-client-init
loop-client-init c =
    found_none c.args.order.now (map (λ v. v.items) c.args.replies.now) c.in_ok-taken.taken.items _
    (c.in_ok-taken.ensures.0 ∙ sym (length-map c.args.replies.now (λ v. v.items))) c.in_ok-taken.ensures.1
    (ap (map (λ r. r.now)) c.in_ok-found.ensures.items)

pub take_next-requires : goal.take_next-requires
take_next-requires c =
    has_next c.args.order.now (map (λ v. v.items) c.args.replies.now) c.loop-client.client-index
    c.loop-client.taken.items c.loop-client.invariant.entries _ c.requires c.loop-client.invariant.merging
    (slice_get-get_or c.args.order.now c.loop-client.client-index 0 c.loop-client-test.true)

pub loop-client-preserved : goal.loop-client-preserved
loop-client-preserved c =
    found_more c.args.order.now (map (λ v. v.items) c.args.replies.now) c.loop-client.client-index
    c.loop-client.taken.items c.take_next.new.taken.items _ _ _ c.take_next.result.now c.requires
    c.loop-client.invariant
    (slice_get-get_or c.args.order.now c.loop-client.client-index 0 c.loop-client-test.true) c.take_next.ensures
    (ap (map (λ r. r.now)) c.in_ok-push.ensures.items ∙ map-append (λ r. r.now) c.loop-client.found.items _)

pub returns : goal.returns
returns c =
    let has = c.loop-client.invariant in (
      has.entries,
      (
        merged_whole c.args.order.now (map (λ v. v.items) c.args.replies.now) c.loop-client.client-index
            c.loop-client.taken.items has.entries c.requires has.merging c.loop-client-test.false,
        has.found_are,
      ),
    )
