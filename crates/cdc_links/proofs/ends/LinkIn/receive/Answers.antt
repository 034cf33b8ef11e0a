use Rattle.std.proofs.Common.{sym, subst, ◌∙◌}
use Rattle.crossbeam_channel.specs.Claims.{view as known}
use Rattle.cdc_links.specs.Rule.{Received}
use Rattle.cdc_links.proofs.Stays.{received_stays, received_answer}
use Rattle.cdc_links.proofs.ends.LinkIn.receive.Goals as goal

pub invariant_of-self : goal.invariant_of-self
invariant_of-self g c =
    let may_follow = g.M.Message.may_follow in
    let end = c.self.inside in
    let after = c.next_parcel.new.pass in
    let kept = c.self.invariant in
    let took =
    subst (λ x. Received may_follow (known end.pass) x (known after)) c.in-Ok-Message.field-0-is
    c.in-Ok-Message.ensures.received in
    let stays =
    received_stays may_follow end.received (known end.pass) (_, c.in-Ok-Message.value) (known after) kept.1 kept.2
    kept.3 took in
    (c.next_parcel.ensures.channel, stays.0, stays.1, stays.2)

pub returns-in-Ok-Message-clause-received : goal.returns-in-Ok-Message-clause-received
returns-in-Ok-Message-clause-received g c =
    let may_follow = g.M.Message.may_follow in
    let end = c.self.inside in
    let after = c.next_parcel.new.pass in
    let was = c.self.invariant.0 in
    let seat = c.next_parcel.ensures.channel in
    let took =
    subst (λ x. Received may_follow (known end.pass) x (known after)) c.in-Ok-Message.field-0-is
    c.in-Ok-Message.ensures.received in
    received_answer may_follow end.pass.table_id after.table_id end.pass.me.0.of after.me.0.of
    (known end.pass) (known after) (_, c.in-Ok-Message.value)
    c.args.self.now (seat.0 ∙ sym was.0) (seat.1 ∙ sym was.1) took
    c.self.view_is
