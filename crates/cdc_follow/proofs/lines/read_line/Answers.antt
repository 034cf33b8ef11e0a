use Rattle.std.specs.Prelude.{not}
use Rattle.std.proofs.lemmas.Result.{err_from_is_err_and}
use Rattle.cdc_follow.proofs.LineLemmas.{clean_after, ended, fed, line_long}
use Rattle.cdc_follow.proofs.lines.read_line.Goals as goal

pub returns-in_err-add_part-clause-long : goal.returns-in_err-add_part-clause-long
returns-in_err-add_part-clause-long g c =
    let exit = err_from_is_err_and c.from_residual.result c.from_residual.ensures.1 in
    rw (exit.1, exit.2) (λ long. line_long (g.B.Read.remaining c.args.reader.now) (g.B.Read.remaining c.loop.reader)
    c.loop.line.items c.loop.invariant.reads c.loop.invariant.clean (c.in_err-add_part.ensures.long long))

pub returns-in-Feed-clause-line : goal.returns-in-Feed-clause-line
returns-in-Feed-clause-line g c =
    fed (g.B.Read.remaining c.args.reader.now) (g.B.Read.remaining c.loop.reader)
    (g.B.Read.remaining c.add_part.new.reader) c.loop.line.items c.add_part.new.line.items c.in_ok-add_part.field-0
    c.in-Feed.is c.loop.invariant.reads c.loop.invariant.clean c.in_ok-add_part.ensures.part

pub returns-in-Stream-clause-line : goal.returns-in-Stream-clause-line
returns-in-Stream-clause-line g c =
    ended (g.B.Read.remaining c.args.reader.now) (g.B.Read.remaining c.loop.reader)
    (g.B.Read.remaining c.add_part.new.reader) c.loop.line.items c.add_part.new.line.items c.in_ok-add_part.field-0
    (not c.is_empty.result)
    c.in-Stream.is c.loop.invariant.reads c.loop.invariant.clean c.in_ok-add_part.ensures.part
    (cc (c.is_empty.ensures, c.add_part.new.line.ok.0))

pub returns-in-Feed-clause-clean : goal.returns-in-Feed-clause-clean
returns-in-Feed-clause-clean g c =
    clean_after (g.B.Read.remaining c.loop.reader) (g.B.Read.remaining c.add_part.new.reader) c.loop.line.items
    c.add_part.new.line.items c.in_ok-add_part.field-0 c.loop.invariant.clean c.in_ok-add_part.ensures.part

pub returns-in-Stream-clause-clean : goal.returns-in-Stream-clause-clean
returns-in-Stream-clause-clean g c =
    clean_after (g.B.Read.remaining c.loop.reader) (g.B.Read.remaining c.add_part.new.reader) c.loop.line.items
    c.add_part.new.line.items c.in_ok-add_part.field-0 c.loop.invariant.clean c.in_ok-add_part.ensures.part
