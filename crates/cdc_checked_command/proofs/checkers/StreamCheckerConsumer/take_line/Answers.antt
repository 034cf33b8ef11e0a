use Rattle.std.proofs.Common.{ap, refl, subst, sym}
use Rattle.std.specs.Prelude.{IsSome}
use Rattle.cdc_checked_follow.specs.Turns.{stop_of}
use Rattle.cdc_checked_command.proofs.KeptLemmas.{Next, line_on, line_stops}
use Rattle.cdc_checked_command.proofs.StoredLemmas.{goes_on_one, stays}
use Rattle.cdc_checked_command.specs.Private.Kept.{GoesOn}
use Rattle.cdc_checked_command.proofs.checkers.StreamCheckerConsumer.take_line.Goals as goal

pub returns-in-GoesOn-clause-leads : goal.returns-in-GoesOn-clause-leads
returns-in-GoesOn-clause-leads g c =
    rw c.keep_line.ensures.bound (line_on c.args.setup.now c.args.self.now.bound c.args.number
    c.check_line.new.follower c.count.new.self c.in-GoesOn.taken c.in-GoesOn.field-1 (g.B.Read.remaining c.args.reader.now)
    (g.B.Read.remaining c.check_line.new.reader) c.ranges.number.fits c.count.ensures
    (rw c.in-GoesOn.is at c.in_ok-turn.ensures.leads) (rw c.in-GoesOn.is at c.in_ok-turn.ensures.turns))

pub returns-in-GoesOn-clause-moves : goal.returns-in-GoesOn-clause-moves
returns-in-GoesOn-clause-moves g c =
    let it = c.args.self.now in
    let taken = c.in_ok-turn.ensures.taken (ap stop_of c.in-GoesOn.is) in
    rw c.keep_line.ensures.bound (goes_on_one it.lines c.keep_line.new.self.lines c.check_line.new.line.items it.bound
    c.check_line.new.follower c.count.new.self taken.0 taken.1
    (rw c.as_slice.ensures.value at c.keep_line.ensures.lines))

pub returns-in-Stops-clause-leads : goal.returns-in-Stops-clause-leads
returns-in-Stops-clause-leads g c =
    line_stops c.args.setup.now c.args.self.now.bound c.args.number c.check_line.new.follower c.in-Stops.stop
    (g.B.Read.remaining c.args.reader.now) (g.B.Read.remaining c.check_line.new.reader)
    (rw c.in-Stops.is at c.in_ok-turn.ensures.leads) (rw c.in-Stops.is at c.in_ok-turn.ensures.turns)

pub returns-in-Stops-clause-moves : goal.returns-in-Stops-clause-moves
returns-in-Stops-clause-moves g c =
    let it = c.args.self.now in
    let same = c.in_ok-turn.ensures.stays (subst (λ turn. IsSome (stop_of turn)) (sym c.in-Stops.is) refl) in
    subst (λ follower. GoesOn it (record it { bound = Next it.bound follower it.bound.counts })) (sym same) (stays it)
