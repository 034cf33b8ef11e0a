use Rattle.cdc_read_ahead.proofs.PieceLemmas.{sent_on}
use Rattle.cdc_read_ahead.proofs.working.read_all.Goals as goal

pub loop-preserved : goal.loop-preserved
loop-preserved g c = record {
  buffer = c.loop.invariant.buffer;
  reads = sent_on g.O.Known.bytes (g.T.Read.remaining c.loop.reader) (g.T.Read.remaining c.read_piece.new.reader)
      c.loop.link c.send.new.self c.of.result tt c.in-Some.piece c.in-Ok.ensures.sent c.of.ensures
      c.loop.invariant.reads c.in-Some.ensures
      (cc (c.ending.ensures, c.is_some-is_last.ensures, c.if-is_last.false));
}
