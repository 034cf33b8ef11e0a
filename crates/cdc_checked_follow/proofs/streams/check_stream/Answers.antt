use Rattle.std.proofs.Common.{ap, subst}
use Rattle.std.specs.Prelude.{IfSome}
use Rattle.cdc_checked_follow.specs.Streams.{StepLeadsTo}
use Rattle.cdc_checked_follow.specs.Turns.{stop_of}
use Rattle.cdc_checked_follow.proofs.StreamLemmas.{goes_from, goes_keeps, goes_on, goes_stop, keeps_on_error}
use Rattle.cdc_checked_follow.proofs.streams.check_stream.Goals as goal

pub returns-in_err-turn-clause-err : goal.returns-in_err-turn-clause-err
returns-in_err-turn-clause-err g c =
    keeps_on_error c.args.binding.now c.args.skips_gaps c.args.follower.now c.loop-number.follower
    c.check_line.new.follower c.loop-number.number (g.B.Read.remaining c.args.reader.now)
    (g.B.Read.remaining c.loop-number.reader) c.from_residual.result c.loop-number.invariant c.in_err-turn.ensures.err

pub loop-number-preserved : goal.loop-number-preserved
loop-number-preserved g c =
    goes_on c.args.binding.now c.args.skips_gaps c.args.follower.now c.loop-number.follower c.check_line.new.follower
    c.loop-number.number (stop_of c.in_ok-turn.turn) (g.B.Read.remaining c.args.reader.now)
    (g.B.Read.remaining c.loop-number.reader) (g.B.Read.remaining c.check_line.new.reader) c.loop-number.invariant
    (ap stop_of c.in_default.is) c.in_ok-turn.ensures.leads

pub returns-clause-err : goal.returns-clause-err
returns-clause-err g c =
    goes_keeps c.args.binding.now c.args.skips_gaps c.args.follower.now c.loop-number.follower c.loop-number.number
    (g.B.Read.remaining c.args.reader.now) (g.B.Read.remaining c.loop-number.reader) c.loop-number.invariant

pub returns-in-Stops-clause-stops : goal.returns-in-Stops-clause-stops
returns-in-Stops-clause-stops g c =
    goes_stop c.args.binding.now c.args.skips_gaps c.args.follower.now c.loop-number.follower c.check_line.new.follower
    c.loop-number.number c.in-Stops.stop (g.B.Read.remaining c.args.reader.now)
    (g.B.Read.remaining c.loop-number.reader) (g.B.Read.remaining c.check_line.new.reader) c.loop-number.invariant
    (subst (λ turn. IfSome (g.B.Read.remaining c.loop-number.reader) (λ bytes. StepLeadsTo c.args.binding.now
    c.args.skips_gaps c.loop-number.number c.loop-number.follower bytes (stop_of turn) c.check_line.new.follower
    (g.B.Read.remaining c.check_line.new.reader))) c.in-Stops.is c.in_ok-turn.ensures.leads)

pub loop-number-init : goal.loop-number-init
loop-number-init g c =
    goes_from c.args.binding.now c.args.skips_gaps c.args.follower.now (g.B.Read.remaining c.args.reader.now)
