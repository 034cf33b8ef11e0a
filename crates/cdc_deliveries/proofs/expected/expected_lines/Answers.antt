use Rattle.cdc_deliveries.proofs.Words.{Global, Vec, ap, arith, feed, length, nothing, refl, slice_get-get_or, string_bytes, ℕ, ◌∙◌, ◌≤◌}
use Rattle.cdc_deliveries.proofs.ExpectedTexts.{all_expected, one_expected}
use Rattle.cdc_deliveries.proofs.expected.expected_lines.Goals as goal

pub loop-place-init : goal.loop-place-init
loop-place-init c = record {
  reception = nothing;
  keeps = c.new-subscriber.ensures;
  made = rw (c.new-text.ensures.bytes) refl;
}

pub loop-place-preserved : goal.loop-place-preserved
loop-place-preserved c =
    let fed = feed c.args.log.now.events c.args.binding.now in
    one_expected fed c.args.arrivals.now c.loop-place.place _ (string_bytes c.loop-place.text)
    (string_bytes c.push_arrival.new.text) c.loop-place.subscriber c.push_arrival.new.subscriber
    (slice_get-get_or c.args.arrivals.now c.loop-place.place _ c.loop-place-test.true)
    (λ reception keeps. c.in_ok-push_arrival.ensures.stands reception keeps fed c.in_ok-index.ensures)
    (λ reception keeps. c.in_ok-push_arrival.ensures.line reception keeps fed c.in_ok-index.ensures)
    c.loop-place.invariant

pub returns : goal.returns
returns c =
    let fed = feed c.args.log.now.events c.args.binding.now in
    let past : length c.args.arrivals.now ≤ c.loop-place.place = omega arith in
    ap (λ (v : Vec ℕ Global). v.items) c.into_bytes.ensures.value
    ∙ all_expected fed c.args.arrivals.now c.loop-place.place (string_bytes c.loop-place.text)
    c.loop-place.subscriber past
    c.loop-place.invariant
