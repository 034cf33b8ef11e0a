use Rattle.cdc_deliveries.proofs.Words.{delivery_text, feed, slice_get-get_or, string_bytes}
use Rattle.cdc_deliveries.proofs.LineTexts.{one_delivery}
use Rattle.cdc_deliveries.proofs.lines.delivery_lines.Goals as goal

pub loop-place-preserved : goal.loop-place-preserved
loop-place-preserved c =
    let fed = feed c.args.log.now.events c.args.binding.now in
    one_delivery fed c.args.arrivals.now c.loop-place.place _ (string_bytes c.loop-place.text)
    (string_bytes c.push_arrival.new.text) (delivery_text c.args.binding.now c.args.log.now.events c.args.arrivals.now)
    (slice_get-get_or c.args.arrivals.now c.loop-place.place _ c.loop-place-test.true)
    (c.in_ok-push_arrival.ensures fed c.in_ok-index.ensures) c.loop-place.invariant
