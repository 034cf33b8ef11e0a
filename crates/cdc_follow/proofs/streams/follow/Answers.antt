use Rattle.std.proofs.Common.{ap}
use Rattle.cdc_follow.specs.Stops.{stop_of}
use Rattle.cdc_follow.proofs.StopLemmas.{follows_keeps, follows_on, keeps_on_error}
use Rattle.cdc_follow.proofs.streams.follow.Goals as goal

pub returns-in_err-turn-clause-err : goal.returns-in_err-turn-clause-err
returns-in_err-turn-clause-err g c =
    keeps_on_error c.args.binding.now c.args.rules c.args.follower.now c.loop-number.follower c.follow_line.new.follower
    c.loop-number.number (g.B.Read.remaining c.args.reader.now) (g.B.Read.remaining c.loop-number.reader)
    c.from_residual.result c.loop-number.invariant c.in_err-turn.ensures.err

pub loop-number-preserved : goal.loop-number-preserved
loop-number-preserved g c =
    follows_on c.args.binding.now c.args.rules c.args.follower.now c.loop-number.follower c.follow_line.new.follower
    c.loop-number.number (stop_of c.in_ok-turn.turn) (g.B.Read.remaining c.args.reader.now)
    (g.B.Read.remaining c.loop-number.reader) (g.B.Read.remaining c.follow_line.new.reader) c.loop-number.invariant
    (ap stop_of c.in_default.is) c.in_ok-turn.ensures.leads

pub returns-clause-err : goal.returns-clause-err
returns-clause-err g c =
    follows_keeps c.args.binding.now c.args.rules c.args.follower.now c.loop-number.follower c.loop-number.number
    (g.B.Read.remaining c.args.reader.now) (g.B.Read.remaining c.loop-number.reader) c.loop-number.invariant
