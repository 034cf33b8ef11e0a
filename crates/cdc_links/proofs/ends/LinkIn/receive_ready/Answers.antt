use Rattle.std.proofs.Common.{ap, subst, ◌∙◌}
use Rattle.crossbeam_channel.specs.Claims.{view as known}
use Rattle.cdc_links.specs.Rule.{Received}
use Rattle.cdc_links.proofs.Stays.{received_stays, received_answer}
use Rattle.cdc_links.proofs.Steps.{receives}
use Rattle.cdc_links.proofs.ends.LinkIn.receive_ready.Goals as goal

pub try_recv_as-requires-clause-rule : goal.try_recv_as-requires-clause-rule
try_recv_as-requires-clause-rule g c =
    let end = c.self.inside in
    let receiving = ap (λ v. v.receives) c.self.invariant.1 in
    (receives g.M.Message.may_follow end.pass.id (known end.pass) receiving, λ items views _ _. tt)

pub invariant_of-self : goal.invariant_of-self
invariant_of-self g c =
    let may_follow = g.M.Message.may_follow in
    let end = c.self.inside in
    let after = c.try_recv_as.new.pass in
    let kept = c.self.invariant in
    let took =
    subst (λ x. Received may_follow (known end.pass) x (known after)) c.in-Ok-Message.field-0-is
    c.in-Ok-Message.ensures.rule in
    let stays =
    received_stays may_follow end.received (known end.pass) (_, c.in-Ok-Message.value) (known after) kept.1 kept.2
    kept.3 took in
    (c.try_recv_as.ensures.channel.0, stays.0, stays.1, stays.2)
