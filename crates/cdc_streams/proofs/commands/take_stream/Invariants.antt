use Rattle.std.specs.Prelude.{IfSome}
use Rattle.cdc_streams.proofs.RunLemmas.{HasRun}
use Rattle.cdc_streams.proofs.commands.take_stream.Given as goal

-- the lines before this number were taken, and some states kept, whose lines were printed; what is saved next fits the
-- store
abbrev pub invariant-loop-number : goal.invariant-loop-number
invariant-loop-number g l = record {
  run : HasRun (g.C.Consumer.prints_saved l.setup)
      (g.C.Consumer.has_taken l.setup (g.C.Saved.state l.fn.consumer))
      (g.C.Consumer.stands l.setup (g.C.Saved.state l.fn.consumer)) (g.K.Keeps.has_kept l.setup) l.fn.saver.store
      (g.B.Read.remaining l.fn.reader) (g.W.Write.contents l.fn.writer) (g.C.Saved.state l.consumer) l.number
      l.saver.store (g.B.Read.remaining l.reader) (g.W.Write.contents l.writer);
  fits : IfSome l.saver.store (λ store. g.K.Keeps.fits l.setup store l.consumer);
}
