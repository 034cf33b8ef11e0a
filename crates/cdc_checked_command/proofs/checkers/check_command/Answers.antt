use Rattle.cdc_checked_command.proofs.KeptLemmas.{begun_counts, begun_follows}
use Rattle.cdc_checked_command.proofs.checkers.check_command.Goals as goal

pub returns-clause-stops : goal.returns-clause-stops
returns-clause-stops g c =
    begun_follows c.args.setup.now c.args.checker.now.bound c.stream_command.new.consumer.bound c.stream_command.result
    (g.B.Read.remaining c.args.reader.now) (rw c.none-checker.ensures at c.stream_command.ensures.stops)

pub returns-clause-counts : goal.returns-clause-counts
returns-clause-counts g c =
    begun_counts c.args.setup.now c.args.checker.now.bound c.stream_command.new.consumer.bound c.stream_command.result
    (g.B.Read.remaining c.args.reader.now) (rw c.none-checker.ensures at c.stream_command.ensures.stops)

pub returns-clause-printed : goal.returns-clause-printed
returns-clause-printed g c = rw c.none-checker.ensures at c.stream_command.ensures.printed
