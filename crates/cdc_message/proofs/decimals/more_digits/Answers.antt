use Rattle.std.proofs.Common.{◌*◌, ◌-◌, ◌∙◌, ap, get_or, refl, sym, arith}
use Rattle.cdc_message.proofs.ShortNumbers.{digit_below, joined, joined_by_four, more, rest_is, scale_fits, scale_fits_four, scaled, scaled_by_four}
use Rattle.cdc_message.proofs.decimals.more_digits.Goals as goal

-- 15 digits after the first 19 have room for four more
pub overflow_mul-low : goal.overflow_mul-low
overflow_mul-low c =
    let loop = c.groups.invariant in
    let fits = scale_fits_four c.groups.count loop.1 (omega (arith, c.groups-test.true)) in
    omega (arith, fits, loop.3, loop.4)

pub overflow_add-low : goal.overflow_add-low
overflow_add-low c =
    let loop = c.groups.invariant in
    let fits = scale_fits_four c.groups.count loop.1 (omega (arith, c.groups-test.true)) in
    omega (arith, fits, loop.3, loop.4, c.in-Some.ensures.small)

pub overflow_mul-scale : goal.overflow_mul-scale
overflow_mul-scale c =
    let loop = c.groups.invariant in
    let fits = scale_fits_four c.groups.count loop.1 (omega (arith, c.groups-test.true)) in
    omega (arith, fits, loop.3)

pub groups-preserved : goal.groups-preserved
groups-preserved c =
    let loop = c.groups.invariant in
    let text = c.args.text.now in
    let read = c.in-Some.ensures.reads text c.groups.count _ (rest_is text c.groups.count) loop.0 in (
      rw (sym (joined_by_four c.args.high c.groups.low c.groups.scale c.in-Some.group)) read,
      omega (arith, loop.1),
      omega (arith, c.groups-test.true),
      ap (λ scale. scale * 10000) loop.3 ∙ scaled_by_four c.groups.count loop.1,
      omega (arith, loop.4, c.in-Some.ensures.small),
    )

-- a digit more
pub overflow_mul-low-in-loop-count : goal.overflow_mul-low-in-loop-count
overflow_mul-low-in-loop-count c =
    let loop = c.loop-count.invariant in
    let fits = scale_fits c.loop-count.count loop.1 (omega (arith, loop.2, c.if-count-eq-MOST.false)) in
    omega (arith, fits, loop.3, loop.4)

pub overflow_add-low-in-loop-count : goal.overflow_add-low-in-loop-count
overflow_add-low-in-loop-count c =
    let loop = c.loop-count.invariant in
    let fits = scale_fits c.loop-count.count loop.1 (omega (arith, loop.2, c.if-count-eq-MOST.false)) in
    omega (arith, fits, loop.3, loop.4, c.from.type_inv)

pub overflow_mul-scale-in-loop-count : goal.overflow_mul-scale-in-loop-count
overflow_mul-scale-in-loop-count c =
    let loop = c.loop-count.invariant in
    let fits = scale_fits c.loop-count.count loop.1 (omega (arith, loop.2, c.if-count-eq-MOST.false)) in
    omega (arith, fits, loop.3)

pub loop-count-preserved : goal.loop-count-preserved
loop-count-preserved c =
    let loop = c.loop-count.invariant in
    let text = c.args.text.now in
    let digit = get_or text c.loop-count.count 0 in
    let read = more text c.loop-count.count _ digit loop.0 c.loop-count-test.true refl
    (sym c.if-is_ascii_digit.ensures.value) in
    let small = digit_below digit (sym c.if-is_ascii_digit.ensures.value) in (
      rw c.from.ensures
          (rw (sym (joined c.args.high c.loop-count.low c.loop-count.scale (digit - 48))) read),
      omega (arith, loop.1),
      omega (arith, loop.2, c.if-count-eq-MOST.false),
      ap (λ scale. scale * 10) loop.3 ∙ scaled c.loop-count.count loop.1,
      omega (arith, loop.4, c.from.ensures, small),
    )
