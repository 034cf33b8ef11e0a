use Rattle.std.proofs.Common.{rules, tests}
use Rattle.std.proofs.lemmas.Iterator.{YieldsList-from_slice}
use Rattle.std.proofs.lemmas.Iterator.Search.{any_from_yields_List}
use Rattle.cdc_bindings.specs.Bindings.{same_pair}
use Rattle.cdc_bindings.proofs.bindings.is_among.Goals as goal

pub returns : goal.returns
returns c =
    any_from_yields_List (same_pair c.args.pair) _ _ c.any.result c.any.ensures.ran
    (YieldsList-from_slice c.args.pairs.now (cc)) (λ x b q k. search (rules, tests))
