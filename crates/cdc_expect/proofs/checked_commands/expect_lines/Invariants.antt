use Rattle.cdc_expect.proofs.CheckedPrintLemmas.{SoFar}
use Rattle.cdc_expect.proofs.checked_commands.expect_lines.Given as goal

-- the lines before this number were followed, and what came of them was printed
abbrev pub invariant-loop-number : goal.invariant-loop-number
invariant-loop-number g l =
    SoFar l.binding l.skips_gaps l.fn.follower (g.B.Read.remaining l.fn.reader) l.follower l.number
    (g.B.Read.remaining l.reader) (g.W.Write.contents l.fn.writer) (g.W.Write.contents l.writer)
