use Rattle.std.proofs.Common.{List, ap, subst, sym, take, ◌∙◌}
use Rattle.cdc_log.specs.Log.{events_after}
use Rattle.cdc_publisher.specs.Offers.{IsReply}
use Rattle.cdc_types.specs.declared.events.Event.{Event}
use Rattle.cdc_laws.proofs.WholeReads.{IsReply-read}
use Rattle.cdc_laws.proofs.readings.read.Goals as goal

pub returns-clause-reply : goal.returns-clause-reply
returns-clause-reply c =
    let poll = c.args.poll in
    subst (IsReply poll)
    (sym (c.in_ok-events.ensures
    ∙ ap (λ (es : List Event). take poll.limit (events_after poll.after es)) c.log.ensures))
    (IsReply-read c.args.ledger.now poll c.last-legal.ensures.legal)
