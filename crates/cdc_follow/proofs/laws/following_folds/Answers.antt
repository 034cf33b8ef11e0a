use Rattle.cdc_follow.proofs.FoldLemmas.{folds}
use Rattle.cdc_follow.proofs.laws.following_folds.Goals as goal

pub returns : goal.returns
returns c = folds
