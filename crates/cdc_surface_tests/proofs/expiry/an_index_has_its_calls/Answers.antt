use Rattle.std.proofs.Common.{◌∙◌}
use Rattle.cdc_expiry.proofs.Lists.{empty_lacks}
use Rattle.cdc_surface_tests.proofs.expiry.an_index_has_its_calls.Goals as goal

-- the index is empty
pub add-requires-clause-fresh : goal.add-requires-clause-fresh
add-requires-clause-fresh g c x there same =
    empty_lacks c.reserve-reserved.new.self.triples x (c.reserve-reserved.ensures.triples ∙ c.new-index.ensures) there
