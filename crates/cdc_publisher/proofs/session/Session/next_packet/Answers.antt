use Rattle.std.proofs.Common.{◌∙◌, ap, sym, subst}
use Rattle.cdc_publisher.specs.Courses.{has_event, next_packet, with_sent}
use Rattle.cdc_publisher.specs.SessionState.{SessionState}
use Rattle.cdc_publisher.specs.Stands.{StandsFor}
use Rattle.cdc_publisher.proofs.Moves.{advanced_stands}
use Rattle.cdc_publisher.proofs.Standing.{packet_is, whatever_answered}
use Rattle.cdc_publisher.proofs.session.Session.next_packet.Goals as goal

pub returns-clause-packet : goal.returns-clause-packet
returns-clause-packet c = λ course stands. c.in_ok-packet.ensures.packet ∙ packet_is c.args.self.now course stands

pub returns-in_err-packet-clause-memory : goal.returns-in_err-packet-clause-memory
returns-in_err-packet-clause-memory c = λ course stands.
    whatever_answered c.from_residual.result
    (sym (ap has_event (packet_is c.args.self.now course stands)) ∙ c.in_err-packet.ensures.memory)

pub returns-clause-stands : goal.returns-clause-stands
returns-clause-stands c = λ course stands.
    subst (λ (kept : SessionState). StandsFor kept (with_sent (next_packet course) course)) (sym c.advance.ensures)
    (advanced_stands c.args.self.now course stands)
