use Rattle.std.proofs.Common.{sym, ap, ◌∙◌, ◌==◌}
use Rattle.std.specs.FinSet.{len}
use Rattle.cdc_expiry.specs.Triples.{Index}
use Rattle.cdc_expiry.proofs.Lists.{len-set_of}
use Rattle.cdc_expiry.proofs.index.DueIndex.is_empty.Goals as goal

pub returns : goal.returns
returns c =
    let count = sym (len-set_of _ c.self.invariant.apart) ∙ ap (λ (i : Index). len i.triples) c.self.view_is in
    c.is_empty.ensures ∙ ap (λ n. n == 0) (c.self.inside.triples.ok.0 ∙ count)
