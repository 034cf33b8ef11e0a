use Rattle.std.proofs.Common.{ap, ◌∙◌}
use Rattle.crossbeam_channel.specs.Claims.{view as known}
use Rattle.cdc_links.proofs.Steps.{receives}
use Rattle.cdc_links.proofs.ends.next_parcel.Goals as goal

pub try_recv_as-requires-clause-rule : goal.try_recv_as-requires-clause-rule
try_recv_as-requires-clause-rule g c =
    let pass = c.loop-look.pass in
    let receiving = ap (λ v. v.receives) c.loop-look.invariant.1 ∙ c.requires.receiver in
    (receives g.M.Message.may_follow pass.id (known pass) receiving, λ items views _ _. tt)

pub recv_as-requires-clause-rule : goal.recv_as-requires-clause-rule
recv_as-requires-clause-rule g c =
    let pass = c.loop-look.pass in
    let receiving = ap (λ v. v.receives) c.loop-look.invariant.1 ∙ c.requires.receiver in
    (receives g.M.Message.may_follow pass.id (known pass) receiving, λ items views _ _. tt)
