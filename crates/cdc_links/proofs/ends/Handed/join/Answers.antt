use Rattle.std.proofs.Common.{ap}
use Rattle.cdc_links.proofs.Steps.{joins, settles}
use Rattle.cdc_links.proofs.ends.Handed.join.Goals as goal

pub absorb-requires-clause-rule : goal.absorb-requires-clause-rule
absorb-requires-clause-rule g c =
    joins _ _ _ _ _ (ap (λ v. v.receives) c.requires.receiver) (ap (λ v. v.sends) c.self.invariant.1)

pub learn_as-requires-clause-rule : goal.learn_as-requires-clause-rule
learn_as-requires-clause-rule g c = settles _ _ _ (ap (λ v. v.receives) c.absorb.ensures.rule)
