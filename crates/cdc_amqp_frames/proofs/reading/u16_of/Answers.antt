use Rattle.std.proofs.Common.{arith}
use Rattle.std.proofs.lemmas.Nat.{be_bytes_2}
use Rattle.cdc_amqp_frames.proofs.reading.u16_of.Goals as goal

pub returns : goal.returns
returns c =
    be_bytes_2 c.args.bytes.now c.from_be_bytes.result c.requires (λ i. omega (arith, c.type_inv.bytes i))
    c.from_be_bytes.ensures
