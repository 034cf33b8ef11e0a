use Rattle.cdc_sql.proofs.SaveLemmas.{whatever_saves}
use Rattle.cdc_sql.proofs.laws.whatever_saves_keep_a_prefix.Goals as goal

pub returns : goal.returns
returns c = whatever_saves
