use Rattle.cdc_read_ahead.specs.declared.pieces.Piece.TheVariants.{Block}
use Rattle.cdc_amqp_ahead.specs.Readers.{held_by}
use Rattle.cdc_amqp_ahead.proofs.ReaderLemmas.{added_to, left_kept, some_held}
use Rattle.cdc_amqp_ahead.proofs.readers.FramesAhead.fill.Goals as goal

pub returns-in-Block-clause-left : goal.returns-in-Block-clause-left
returns-in-Block-clause-left g c =
    let held = held_by c.args.self.now in
    left_kept g.O.Known.bytes _ c.next.new.self (Block c.in-Block.block) held _
    c.in-Block.ensures
    (added_to held _ _ _ _ c.append.ensures c.make_room.ensures.unread c.as_slice.ensures.value)

pub returns-in-Block-clause-end : goal.returns-in-Block-clause-end
returns-in-Block-clause-end g c = λ none.
    let held = held_by c.args.self.now in
    absurd (some_held held _ c.in-Block.block.items
    (added_to held _ _ _ _ c.append.ensures c.make_room.ensures.unread c.as_slice.ensures.value)
    c.in-Block.ensures.1.0 none)
