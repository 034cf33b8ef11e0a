use Rattle.std.proofs.Common.{arith}
use Rattle.cdc_follow.proofs.LineLemmas.{long_part}
use Rattle.cdc_follow.proofs.lines.add_part.Goals as goal

pub returns-then-part-len-clause-long : goal.returns-then-part-len-clause-long
returns-then-part-len-clause-long g c = λ _.
    long_part (g.B.Read.remaining c.args.reader.now) c.in-Ok.available.now c.args.line.now.items
    c.first_part-part.result c.in-Ok.ensures.front c.first_part-part.ensures (omega (arith, c.if-part-len.true))
