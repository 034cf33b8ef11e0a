use Rattle.std.proofs.Common.{subst, sym, ap, ◌∙◌}
use Rattle.std.specs.FinSet.{len}
use Rattle.cdc_expiry.specs.Triples.{Index, TimestampsAreUnique}
use Rattle.cdc_expiry.proofs.Lists.{len-set_of, TimestampsAreUnique-set_of}
use Rattle.cdc_expiry.proofs.index.DueIndex.len.Goals as goal

pub returns-clause-count : goal.returns-clause-count
returns-clause-count c =
    c.len.ensures
    ∙ c.self.inside.triples.ok.0
    ∙ sym (len-set_of _ c.self.invariant.apart)
    ∙ ap (λ (i : Index). len i.triples) c.self.view_is

pub returns-clause-unique : goal.returns-clause-unique
returns-clause-unique c =
    subst (λ (i : Index). TimestampsAreUnique i.triples) c.self.view_is
    (TimestampsAreUnique-set_of _ c.self.invariant.apart)
