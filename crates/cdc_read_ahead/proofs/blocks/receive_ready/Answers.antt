use Rattle.cdc_read_ahead.proofs.PieceLemmas.{received}
use Rattle.cdc_read_ahead.proofs.blocks.receive_ready.Goals as goal

pub returns-in-Ok-Some : goal.returns-in-Ok-Some
returns-in-Ok-Some g c =
    rw c.into_piece.ensures
    (received g.O.Known.bytes c.args.link.now c.receive_ready.new.self c.in-Ok-Some.sent c.requires.one
    (rw c.in-Ok-Some.field-0-is at c.in-Ok-Some.ensures.received))
