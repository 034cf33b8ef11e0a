use Rattle.cdc_sql_book.specs.Following.{followed_of}
use Rattle.cdc_follow_command.proofs.KeptLemmas.{line_on, line_stops}
use Rattle.cdc_sql_book.proofs.followers.SqlFollowerConsumer.take_line.Goals as goal

pub returns-in-GoesOn-clause-leads : goal.returns-in-GoesOn-clause-leads
returns-in-GoesOn-clause-leads g c =
    line_on c.args.setup.now (followed_of c.args.self.now) c.args.number c.follow_line.new.follower.follower
    c.count.new.self c.in-GoesOn.taken (g.B.Read.remaining c.args.reader.now)
    (g.B.Read.remaining c.follow_line.new.reader) c.ranges.number.fits c.count.ensures
    (rw c.in-GoesOn.is at c.in_ok-turn.ensures.leads) (rw c.in-GoesOn.is at c.in_ok-turn.ensures.turns)

pub returns-in-Stops-clause-leads : goal.returns-in-Stops-clause-leads
returns-in-Stops-clause-leads g c =
    line_stops c.args.setup.now (followed_of c.args.self.now) c.args.number c.follow_line.new.follower.follower
    c.in-Stops.stop (g.B.Read.remaining c.args.reader.now) (g.B.Read.remaining c.follow_line.new.reader)
    (rw c.in-Stops.is at c.in_ok-turn.ensures.leads) (rw c.in-Stops.is at c.in_ok-turn.ensures.turns)
