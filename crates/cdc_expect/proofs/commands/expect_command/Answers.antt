use Rattle.cdc_expect.specs.Expect.{expect_text}
use Rattle.cdc_expect.proofs.PrintLemmas.{command_fails}
use Rattle.cdc_expect.proofs.commands.expect_command.Goals as goal

pub returns-in-Err-clause-printed : goal.returns-in-Err-clause-printed
returns-in-Err-clause-printed g c =
    command_fails g.F.FaultForm.prints_failure c.in-Err.fault (g.B.Read.remaining c.args.reader.now)
    (g.W.Write.contents c.args.writer.now) (g.W.Write.contents c.expect_lines.new.writer)
    (g.W.Write.contents c.fail.new.writer) (expect_text c.args.binding.now c.args.rules c.args.follower.now)
    c.fail.result c.in-Err.ensures.printed c.fail.ensures.fails c.fail.ensures.printed c.fail.ensures.quiet

pub returns-in-Ok-clause-printed : goal.returns-in-Ok-clause-printed
returns-in-Ok-clause-printed g c = c.in-Ok.ensures.printed
