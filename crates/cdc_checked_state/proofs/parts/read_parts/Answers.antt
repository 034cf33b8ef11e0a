use Rattle.std.proofs.Common.{subst}
use Rattle.cdc_checked_state.specs.Rows.{GivesRow}
use Rattle.cdc_checked_state.proofs.LoopLemmas.{reads_all, reads_begin, reads_more, reads_wrong}
use Rattle.cdc_checked_state.proofs.parts.read_parts.Goals as goal

pub loop-rest-init : goal.loop-rest-init
loop-rest-init c = reads_begin c.args.text.now c.new-parts.result c.new-parts.ensures

pub loop-rest-preserved : goal.loop-rest-preserved
loop-rest-preserved c =
    reads_more c.args.text.now c.loop-rest.rest.now c.loop-rest.parts c.add.new.self c.in-Some.read c.is_empty.result
    c.loop-rest.invariant c.is_empty.ensures c.loop-rest-test.true
    (subst (GivesRow c.loop-rest.rest.now) c.in-Some.is c.in_ok-read.ensures.reads) c.in_ok-add.ensures

pub returns-in_default : goal.returns-in_default
returns-in_default c =
    reads_wrong c.args.text.now c.loop-rest.rest.now c.loop-rest.parts c.is_empty.result c.loop-rest.invariant
    c.is_empty.ensures c.loop-rest-test.true
    (subst (GivesRow c.loop-rest.rest.now) c.in_default.is c.in_ok-read.ensures.reads)

pub returns : goal.returns
returns c =
    reads_all c.args.text.now c.loop-rest.rest.now c.loop-rest.parts c.is_empty.result c.loop-rest.invariant
    c.is_empty.ensures c.loop-rest-test.false
