use Rattle.std.proofs.Common.{◌∙◌}
use Rattle.cdc_output.specs.declared.faults.ProgramFault.TheVariants.{OutOfMemory}
use Rattle.cdc_expect.specs.Expect.{turn_text}
use Rattle.cdc_expect.proofs.PrintLemmas.{first_none, write_fails, write_prints}
use Rattle.cdc_expect.proofs.commands.print_turn.Goals as goal

pub returns-in-Err-clause-fails : goal.returns-in-Err-clause-fails
returns-in-Err-clause-fails g c =
    first_none OutOfMemory (turn_text c.args.number c.args.turn c.args.subscriber.now)
    (g.W.Write.contents c.args.writer.now)

pub returns-in-Ok-clause-fails : goal.returns-in-Ok-clause-fails
returns-in-Ok-clause-fails g c =
    write_fails c.print_text.result c.as_slice.result.now
    (turn_text c.args.number c.args.turn c.args.subscriber.now) (g.W.Write.contents c.args.writer.now)
    (g.W.Write.contents c.print_text.new.writer) (c.as_slice.ensures.value ∙ c.in-Ok.ensures)
    c.print_text.ensures.fails

pub returns-in-Ok-clause-printed : goal.returns-in-Ok-clause-printed
returns-in-Ok-clause-printed g c =
    write_prints c.print_text.result c.args.number c.args.turn c.args.subscriber.now c.as_slice.result.now
    (g.W.Write.contents c.args.writer.now) (g.W.Write.contents c.print_text.new.writer)
    (c.as_slice.ensures.value ∙ c.in-Ok.ensures) c.print_text.ensures.same c.print_text.ensures.printed
