use Rattle.std.specs.Prelude.{string_bytes}
use Rattle.cdc_chain.proofs.LineLemmas.{step_long, step_none, step_taken}
use Rattle.cdc_chain.proofs.streams.chain_line.Goals as goal

pub returns-in-Ok-true-clause-makes : goal.returns-in-Ok-true-clause-makes
returns-in-Ok-true-clause-makes g c =
    step_taken c.args.bindings.now c.args.number c.args.chain.now (string_bytes c.args.text.now)
    c.chain_bytes.new.chain (string_bytes c.chain_bytes.new.text) (g.B.Read.remaining c.args.reader.now)
    (g.B.Read.remaining c.read_line.new.reader) c.read_line.new.line.items c.in-Ok-true.field-0
    c.chain_bytes.result c.in-Ok-true.field-0-test c.in-Ok-true.ensures.line
    (rw c.deref.ensures.value at c.chain_bytes.ensures.makes)

pub returns-in-Ok-false-clause-makes : goal.returns-in-Ok-false-clause-makes
returns-in-Ok-false-clause-makes g c =
    step_none c.args.bindings.now c.args.number c.args.chain.now (string_bytes c.args.text.now)
    (g.B.Read.remaining c.args.reader.now) (g.B.Read.remaining c.read_line.new.reader) c.read_line.new.line.items
    c.in-Ok-false.field-0 c.in-Ok-false.field-0-test c.in-Ok-false.ensures.line

pub returns-in-Err-TooLong-clause-makes : goal.returns-in-Err-TooLong-clause-makes
returns-in-Err-TooLong-clause-makes g c =
    step_long c.args.bindings.now c.args.number c.args.chain.now (string_bytes c.args.text.now)
    (g.B.Read.remaining c.args.reader.now) (g.B.Read.remaining c.read_line.new.reader)
    (c.in-Err-TooLong.ensures.long c.in-Err-TooLong.field-0-is)
