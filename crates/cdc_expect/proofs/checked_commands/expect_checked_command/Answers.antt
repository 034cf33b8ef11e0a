use Rattle.cdc_expect.proofs.CheckedPrintLemmas.{checked_fails}
use Rattle.cdc_expect.proofs.checked_commands.expect_checked_command.Goals as goal

pub returns-in-Err-clause-printed : goal.returns-in-Err-clause-printed
returns-in-Err-clause-printed g c =
    checked_fails c.args.binding.now c.args.skips_gaps g.F.FaultForm.prints_failure c.in-Err.fault c.args.follower.now
    (g.B.Read.remaining c.args.reader.now) (g.W.Write.contents c.args.writer.now)
    (g.W.Write.contents c.expect_lines.new.writer) (g.W.Write.contents c.fail.new.writer) c.fail.result
    c.in-Err.ensures.printed c.fail.ensures.fails c.fail.ensures.printed c.fail.ensures.quiet

pub returns-in-Ok-clause-printed : goal.returns-in-Ok-clause-printed
returns-in-Ok-clause-printed g c = c.in-Ok.ensures.printed
