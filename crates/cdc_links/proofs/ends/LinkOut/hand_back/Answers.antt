use Rattle.std.proofs.Common.{ap}
use Rattle.cdc_links.proofs.Steps.{hands_back}
use Rattle.cdc_links.proofs.ends.LinkOut.hand_back.Goals as goal

pub another-requires-clause-rule : goal.another-requires-clause-rule
another-requires-clause-rule g c = hands_back _ _ _ (ap (λ v. v.sends) c.self.invariant.1)
