use Rattle.cdc_links.proofs.Steps.{begins}
use Rattle.cdc_links.proofs.ends.LinkIn.new.Goals as goal

pub bounded_with-requires-clause-rule : goal.bounded_with-requires-clause-rule
bounded_with-requires-clause-rule g c = begins g.M.Message.may_follow
