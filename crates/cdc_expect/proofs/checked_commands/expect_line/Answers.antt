use Rattle.cdc_expect.proofs.CheckedPrintLemmas.{line_fails, none_printed}
use Rattle.cdc_expect.proofs.checked_commands.expect_line.Goals as goal

pub returns-in-Err-clause-fails : goal.returns-in-Err-clause-fails
returns-in-Err-clause-fails g c =
    none_printed c.args.binding.now c.args.skips_gaps c.args.follower.now c.args.number
    (g.B.Read.remaining c.args.reader.now) c.fault_of.result (g.W.Write.contents c.args.writer.now)

pub returns-in-Err-print_turn-clause-fails : goal.returns-in-Err-print_turn-clause-fails
returns-in-Err-print_turn-clause-fails g c =
    line_fails c.args.binding.now c.args.skips_gaps c.args.follower.now c.check_line.new.follower c.args.number
    c.in-Ok.turn c.in-Err-print_turn.fault (g.B.Read.remaining c.args.reader.now)
    (g.B.Read.remaining c.check_line.new.reader) (g.W.Write.contents c.args.writer.now)
    (g.W.Write.contents c.print_turn.new.writer) c.in-Ok.ensures.leads c.in-Ok.ensures.turns c.in-Ok.ensures.stays
    (rw c.kept_of.ensures at c.in-Err-print_turn.ensures.fails)
