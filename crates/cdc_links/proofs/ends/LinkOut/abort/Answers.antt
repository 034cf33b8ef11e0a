use Rattle.crossbeam_channel.specs.Claims.{view as known}
use Rattle.cdc_links.proofs.Steps.{halts}
use Rattle.cdc_links.proofs.ends.LinkOut.abort.Goals as goal

pub try_send_as-requires-clause-rule : goal.try_send_as-requires-clause-rule
try_send_as-requires-clause-rule g c =
    let pass = c.self.inside.pass in (
      halts g.M.Message.may_follow _ pass.id (known pass),
      λ items views _ _. tt,
    )
