use Rattle.cdc_checked_follow.proofs.StreamLemmas.{Goes}
use Rattle.cdc_checked_follow.proofs.streams.check_stream.Given as goal

-- the lines before this number were followed
abbrev pub invariant-loop-number : goal.invariant-loop-number
invariant-loop-number g l =
    Goes l.fn.binding l.fn.skips_gaps l.fn.follower (g.B.Read.remaining l.fn.reader) l.follower l.number
    (g.B.Read.remaining l.reader)
