use Rattle.cdc_follow_laws.proofs.LateLemmas.{late_prefix}
use Rattle.cdc_follow_laws.proofs.laws.late_followers_keep_a_prefix.Goals as goal

pub returns : goal.returns
returns c = late_prefix
