use Rattle.cdc_sql_book.specs.Following.{followed_of}
use Rattle.cdc_follow_command.proofs.KeptLemmas.{begun_counts, begun_follows}
use Rattle.cdc_sql_book.proofs.followers.sql_command.Goals as goal

pub returns-clause-stops : goal.returns-clause-stops
returns-clause-stops g c =
    begun_follows c.args.setup.now
    (record { follower = c.args.followed.now.recorded.follower; counts = c.none-followed.result })
    (followed_of c.stream_command.new.consumer) c.stream_command.result (g.B.Read.remaining c.args.reader.now)
    c.stream_command.ensures.stops

pub returns-clause-counts : goal.returns-clause-counts
returns-clause-counts g c =
    begun_counts c.args.setup.now
    (record { follower = c.args.followed.now.recorded.follower; counts = c.none-followed.result })
    (followed_of c.stream_command.new.consumer) c.stream_command.result (g.B.Read.remaining c.args.reader.now)
    c.none-followed.ensures c.stream_command.ensures.stops

pub returns-clause-printed : goal.returns-clause-printed
returns-clause-printed g c = rw c.none-followed.ensures at c.stream_command.ensures.printed
