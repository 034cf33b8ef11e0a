use Rattle.std.proofs.Common.{◌≡◌, length, true, false, eqb, sym, ◌∙◌, arith}
use Rattle.cdc_amqp_methods.specs.Tables.{find_field, view}
use Rattle.cdc_amqp_methods.proofs.Among.{among_empty, among_broken, among_found, among_on, among_done}
use Rattle.cdc_amqp_methods.proofs.tables.find_field.Goals as goal

pub returns-then-is_empty : goal.returns-then-is_empty
returns-then-is_empty c =
    let empty : eqb (length c.loop.rest.now) 0 ≡ true = grind arith in
    among_empty (length c.args.bytes.now) c.loop.counter c.args.name.now c.loop.rest.now
    (find_field c.args.name.now c.args.bytes.now) c.loop-test.true empty c.loop.invariant

pub returns-in_err-field : goal.returns-in_err-field
returns-in_err-field c =
    let some : eqb (length c.loop.rest.now) 0 ≡ false = grind arith in
    rw c.from_residual.ensures
    (among_broken (length c.args.bytes.now) c.loop.counter c.args.name.now c.loop.rest.now
    (find_field c.args.name.now c.args.bytes.now) c.loop-test.true some c.in_err-field.ensures c.loop.invariant)

pub returns-then-eq : goal.returns-then-eq
returns-then-eq c =
    let some : eqb (length c.loop.rest.now) 0 ≡ false = grind arith in
    among_found (length c.args.bytes.now) c.loop.counter c.args.name.now c.loop.rest.now c.in_ok-field.after.now
    (view c.in_ok-field.field) (find_field c.args.name.now c.args.bytes.now) c.loop-test.true some
    c.in_ok-field.ensures (sym c.eq.ensures ∙ c.if-eq.true) c.loop.invariant

pub loop-preserved : goal.loop-preserved
loop-preserved c =
    let some : eqb (length c.loop.rest.now) 0 ≡ false = grind arith in
    among_on (length c.args.bytes.now) c.loop.counter c.args.name.now c.loop.rest.now c.in_ok-field.after.now
    (view c.in_ok-field.field) (find_field c.args.name.now c.args.bytes.now) c.loop-test.true some
    c.in_ok-field.ensures (sym c.eq.ensures ∙ c.if-eq.false) c.loop.invariant

pub returns : goal.returns
returns c =
    among_done (length c.args.bytes.now) c.loop.counter c.args.name.now c.loop.rest.now
    (find_field c.args.name.now c.args.bytes.now) c.loop-test.false c.loop.invariant
