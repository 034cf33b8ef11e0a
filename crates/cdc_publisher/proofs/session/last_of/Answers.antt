use Rattle.std.proofs.Common.{sym}
use Rattle.cdc_publisher.proofs.Bounds.{last_is}
use Rattle.cdc_publisher.proofs.session.last_of.Goals as goal

pub returns-in-Some : goal.returns-in-Some
returns-in-Some c =
    sym (last_is c.args.before c.args.events.now c.in-Some.event.now (sym c.in-Some.ensures.value))
