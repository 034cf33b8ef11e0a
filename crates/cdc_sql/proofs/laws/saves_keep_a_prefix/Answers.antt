use Rattle.cdc_sql.proofs.SaveLemmas.{prefix_kept}
use Rattle.cdc_sql.proofs.laws.saves_keep_a_prefix.Goals as goal

pub returns : goal.returns
returns c = prefix_kept
