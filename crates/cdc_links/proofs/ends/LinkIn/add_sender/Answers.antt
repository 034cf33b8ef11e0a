use Rattle.std.proofs.Common.{ap}
use Rattle.crossbeam_channel.specs.Claims.{view as known}
use Rattle.cdc_links.proofs.Steps.{splits}
use Rattle.cdc_links.proofs.ends.LinkIn.add_sender.Goals as goal

pub another-pass-requires-clause-rule : goal.another-pass-requires-clause-rule
another-pass-requires-clause-rule g c =
    let end = c.self.inside in
    splits g.M.Message.may_follow end.pass.id (known end.pass) (ap (λ v. v.receives) c.self.invariant.1)
