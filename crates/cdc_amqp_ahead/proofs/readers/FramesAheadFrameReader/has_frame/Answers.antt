use Rattle.std.proofs.Common.{refl}
use Rattle.cdc_amqp_ahead.specs.Readers.{held_by, left_of}
use Rattle.cdc_amqp_ahead.proofs.ReaderLemmas.{seen_asked}
use Rattle.cdc_amqp_ahead.proofs.readers.FramesAheadFrameReader.has_frame.Goals as goal

pub returns-clause-answered : goal.returns-clause-answered
returns-clause-answered g c = λ first sights seen.
    let known = g.O.Known.bytes in
    let it = c.take_needed.new.self in
    seen_asked known (left_of known first) sights (left_of known c.args.self.now) (left_of known it) (held_by it) it.blocks
    c.is_ready.result refl c.take_needed.ensures c.is_ready.ensures seen
