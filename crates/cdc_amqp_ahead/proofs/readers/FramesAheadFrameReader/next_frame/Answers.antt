use Rattle.cdc_amqp_ahead.specs.Readers.{left_of}
use Rattle.cdc_amqp_ahead.proofs.ReaderLemmas.{gives}
use Rattle.cdc_amqp_ahead.proofs.readers.FramesAheadFrameReader.next_frame.Goals as goal

pub returns-clause-gave : goal.returns-clause-gave
returns-clause-gave g c =
    let known = g.O.Known.bytes in
    gives known (left_of known) (left_of known c.args.self.now) (left_of known c.read_frame.new.reader)
    c.read_frame.result c.read_frame.ensures.frame
