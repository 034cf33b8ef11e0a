use Rattle.std.specs.Prelude.{string_bytes}
use Rattle.cdc_chain.proofs.LineLemmas.{makes_when_bad, makes_when_none, makes_when_on, makes_when_stop}
use Rattle.cdc_chain.proofs.streams.chain_bytes.Goals as goal

pub returns-in-Ok-None-clause-makes : goal.returns-in-Ok-None-clause-makes
returns-in-Ok-None-clause-makes c =
    makes_when_none c.args.bindings.now c.args.number c.args.line.now c.args.chain.now (string_bytes c.args.text.now)
    c.in-Ok-None.field-0 c.in-Ok-None.ensures c.in-Ok-None.field-0-is

pub returns-in-Err-clause-makes : goal.returns-in-Err-clause-makes
returns-in-Err-clause-makes c =
    makes_when_bad c.args.bindings.now c.args.number c.args.line.now c.args.chain.now (string_bytes c.args.text.now)
    c.in-Err.error c.in-Err.ensures c.stop_at_line.result c.stop_at_line.ensures.stops

pub returns-then-stops_at-clause-makes : goal.returns-then-stops_at-clause-makes
returns-then-stops_at-clause-makes c =
    makes_when_stop c.args.bindings.now c.args.number c.args.line.now c.args.chain.now (string_bytes c.args.text.now)
    c.in-Ok-Some.field-0 c.in-Ok-Some.entry c.in_ok-chaining.chaining c.take.new.self c.stop_by.result
    (string_bytes c.take.new.text) c.in-Ok-Some.ensures c.in-Ok-Some.field-0-is c.in_ok-chaining.ensures.answer
    c.in_ok-chaining.ensures.state c.in_ok-chaining.ensures.text (rw c.if-stops_at.true at c.stops_at.ensures)
    c.stop_by.ensures

pub returns-clause-makes : goal.returns-clause-makes
returns-clause-makes c =
    makes_when_on c.args.bindings.now c.args.number c.args.line.now c.args.chain.now (string_bytes c.args.text.now)
    c.in-Ok-Some.field-0 c.in-Ok-Some.entry c.in_ok-chaining.chaining c.take.new.self
    (string_bytes c.take.new.text) c.in-Ok-Some.ensures c.in-Ok-Some.field-0-is c.in_ok-chaining.ensures.answer
    c.in_ok-chaining.ensures.state c.in_ok-chaining.ensures.text (rw c.if-stops_at.false at c.stops_at.ensures)
