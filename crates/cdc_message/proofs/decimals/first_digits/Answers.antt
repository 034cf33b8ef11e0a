use Rattle.std.proofs.Common.{get_or, refl, sym, arith}
use Rattle.cdc_message.proofs.ShortNumbers.{below, more, rest_is}
use Rattle.cdc_message.proofs.decimals.first_digits.Goals as goal

-- a number of at most 15 digits has room for four more
pub overflow_mul-number : goal.overflow_mul-number
overflow_mul-number c =
    let small = below c.args.text.now c.groups.count c.groups.number 15 c.groups.invariant.0
    (omega (arith, c.groups-test.true)) in
    omega (arith, small)

pub overflow_add-number : goal.overflow_add-number
overflow_add-number c =
    let small = below c.args.text.now c.groups.count c.groups.number 15 c.groups.invariant.0
    (omega (arith, c.groups-test.true)) in
    omega (arith, small, c.in-Some.ensures.small)

pub groups-preserved : goal.groups-preserved
groups-preserved c = (
  c.in-Some.ensures.reads c.args.text.now c.groups.count c.groups.number (rest_is c.args.text.now c.groups.count)
      c.groups.invariant.0,
  omega (arith, c.groups-test.true),
)

-- a number of at most 18 digits has room for one more
pub overflow_mul-number-in-loop-count : goal.overflow_mul-number-in-loop-count
overflow_mul-number-in-loop-count c =
    let small = below c.args.text.now c.loop-count.count c.loop-count.number 18 c.loop-count.invariant.0
    (omega (arith, c.loop-count-test.true)) in
    omega (arith, small)

pub overflow_add-number-in-loop-count : goal.overflow_add-number-in-loop-count
overflow_add-number-in-loop-count c =
    let small = below c.args.text.now c.loop-count.count c.loop-count.number 18 c.loop-count.invariant.0
    (omega (arith, c.loop-count-test.true)) in
    omega (arith, small, c.from.type_inv)

pub loop-count-preserved : goal.loop-count-preserved
loop-count-preserved c = (
  rw c.from.ensures
      (more c.args.text.now c.loop-count.count c.loop-count.number (get_or c.args.text.now c.loop-count.count 0)
      c.loop-count.invariant.0 c.if-count-text.true refl (sym c.if-is_ascii_digit.ensures.value)),
  omega (arith, c.loop-count-test.true),
)
