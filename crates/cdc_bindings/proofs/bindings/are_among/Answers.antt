use Rattle.std.proofs.Common.{rules, tests}
use Rattle.std.proofs.lemmas.Iterator.{YieldsList-from_slice}
use Rattle.std.proofs.lemmas.Iterator.Search.{all_from_yields_List}
use Rattle.cdc_bindings.specs.Bindings.{is_among}
use Rattle.cdc_bindings.proofs.bindings.are_among.Goals as goal

pub returns : goal.returns
returns c =
    all_from_yields_List (is_among c.args.those.now) _ _ c.all.result c.all.ensures.ran
    (YieldsList-from_slice c.args.these.now (cc)) (λ x b q k. search (rules, tests))
