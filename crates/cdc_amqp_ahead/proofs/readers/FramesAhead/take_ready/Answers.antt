use Rattle.cdc_read_ahead.specs.declared.pieces.Piece.TheVariants.{Block}
use Rattle.cdc_amqp_ahead.specs.Readers.{held_by}
use Rattle.cdc_amqp_ahead.proofs.ReaderLemmas.{added_to, left_kept}
use Rattle.cdc_amqp_ahead.proofs.readers.FramesAhead.take_ready.Goals as goal

pub returns-in-Some-Block : goal.returns-in-Some-Block
returns-in-Some-Block g c =
    let held = held_by c.args.self.now in
    left_kept g.O.Known.bytes _ c.next_soon.new.blocks (Block c.in-Some-Block.block) held _
    (rw c.in-Some-Block.field-0-is at c.in-Some-Block.ensures)
    (added_to held _ _ _ _ c.append.ensures c.make_room.ensures.unread c.as_slice.ensures.value)
