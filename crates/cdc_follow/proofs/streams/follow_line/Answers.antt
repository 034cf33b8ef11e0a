use Rattle.std.proofs.Common.{None}
use Rattle.cdc_follow.proofs.StopLemmas.{step_long, step_none}
use Rattle.cdc_follow.proofs.TurnLemmas.{step_turns_end, step_turns_long}
use Rattle.cdc_follow.proofs.streams.follow_line.Goals as goal

pub returns-in-Ok-false-clause-leads : goal.returns-in-Ok-false-clause-leads
returns-in-Ok-false-clause-leads g c =
    step_none c.args.binding.now c.args.rules c.args.number (g.T.TakesEntries.state c.args.follower.now)
    (g.B.Read.remaining c.args.reader.now) (g.B.Read.remaining c.read_line.new.reader) c.read_line.new.line.items
    c.in-Ok-false.field-0 c.in-Ok-false.field-0-test c.in-Ok-false.ensures.line

pub returns-in-Err-TooLong-clause-leads : goal.returns-in-Err-TooLong-clause-leads
returns-in-Err-TooLong-clause-leads g c =
    step_long c.args.binding.now c.args.rules c.args.number (g.T.TakesEntries.state c.args.follower.now)
    (g.B.Read.remaining c.args.reader.now) None (c.in-Err-TooLong.ensures.long c.in-Err-TooLong.field-0-is)

pub returns-in-Ok-false-clause-turns : goal.returns-in-Ok-false-clause-turns
returns-in-Ok-false-clause-turns g c =
    step_turns_end c.args.binding.now c.args.rules c.args.number (g.T.TakesEntries.state c.args.follower.now)
    (g.B.Read.remaining c.args.reader.now) (g.B.Read.remaining c.read_line.new.reader) c.read_line.new.line.items
    c.in-Ok-false.field-0 c.in-Ok-false.field-0-test c.in-Ok-false.ensures.line

pub returns-in-Err-TooLong-clause-turns : goal.returns-in-Err-TooLong-clause-turns
returns-in-Err-TooLong-clause-turns g c =
    step_turns_long c.args.binding.now c.args.rules c.args.number (g.T.TakesEntries.state c.args.follower.now)
    (g.B.Read.remaining c.args.reader.now) (g.B.Read.remaining c.read_line.new.reader)
    (c.in-Err-TooLong.ensures.long c.in-Err-TooLong.field-0-is)
