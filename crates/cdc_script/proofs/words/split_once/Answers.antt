use Rattle.cdc_script.proofs.WordLemmas.{slice_split_some, slice_split_nowhere}
use Rattle.std.proofs.Common.{sym, ◌∙◌}
use Rattle.std.proofs.lemmas.List.{take_rest}
use Rattle.cdc_script.proofs.words.split_once.Goals as goal

pub returns-in-None-clause-splits : goal.returns-in-None-clause-splits
returns-in-None-clause-splits c = slice_split_nowhere _ _ (sym c.position_of.ensures ∙ c.in-None.is)

pub returns-in-Some-clause-splits : goal.returns-in-Some-clause-splits
returns-in-Some-clause-splits c = rw take_rest (slice_split_some _ _ _ (sym c.position_of.ensures ∙ c.in-Some.is))
