use Rattle.cdc_output.specs.declared.faults.ProgramFault.TheVariants.{OutOfMemory}
use Rattle.cdc_expect.specs.Checked.{turn_text}
use Rattle.cdc_expect.proofs.PrintLemmas.{first_none, part_fails, part_prints}
use Rattle.cdc_expect.proofs.checked_commands.print_turn.Goals as goal
use Rattle.std.proofs.Common.{◌∙◌}

pub returns-in-Err-clause-fails : goal.returns-in-Err-clause-fails
returns-in-Err-clause-fails g c =
    first_none OutOfMemory (turn_text c.args.number c.args.turn.now c.args.kept) (g.W.Write.contents c.args.writer.now)

pub returns-in-Ok-clause-fails : goal.returns-in-Ok-clause-fails
returns-in-Ok-clause-fails g c =
    part_fails c.write_part.result c.as_slice.result.now (turn_text c.args.number c.args.turn.now c.args.kept)
    (g.W.Write.contents c.args.writer.now) (g.W.Write.contents c.write_part.new.writer)
    (c.as_slice.ensures.value ∙ c.in-Ok.ensures) c.write_part.ensures.printed

pub returns-in-Ok-clause-printed : goal.returns-in-Ok-clause-printed
returns-in-Ok-clause-printed g c =
    part_prints c.write_part.result c.as_slice.result.now (turn_text c.args.number c.args.turn.now c.args.kept)
    (g.W.Write.contents c.args.writer.now) (g.W.Write.contents c.write_part.new.writer)
    (c.as_slice.ensures.value ∙ c.in-Ok.ensures) c.write_part.ensures.printed
