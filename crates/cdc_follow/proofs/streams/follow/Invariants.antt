use Rattle.cdc_follow.proofs.StopLemmas.{Follows}
use Rattle.cdc_follow.proofs.streams.follow.Given as goal

-- the lines before this number were followed
abbrev pub invariant-loop-number : goal.invariant-loop-number
invariant-loop-number g l =
    Follows l.binding l.rules l.fn.follower (g.B.Read.remaining l.fn.reader) l.follower l.number
    (g.B.Read.remaining l.reader)
