use Rattle.cdc_read_ahead.proofs.PieceLemmas.{received}
use Rattle.cdc_read_ahead.proofs.blocks.receive.Goals as goal

pub returns-in-Ok : goal.returns-in-Ok
returns-in-Ok g c =
    rw c.into_piece.ensures
    (received g.O.Known.bytes c.args.link.now c.receive.new.self c.in-Ok.sent c.requires.one c.in-Ok.ensures.received)
