use Rattle.std.proofs.Common.{◌∙◌, ap}
use Rattle.std.specs.Prelude.{is_some}
use Rattle.cdc_publisher.proofs.Standing.{packet_is}
use Rattle.cdc_publisher.proofs.session.Session.has_packet.Goals as goal

pub returns : goal.returns
returns c = λ course stands. c.is_sending.ensures ∙ ap is_some (packet_is c.args.self.now course stands)
