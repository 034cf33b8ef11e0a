use Rattle.std.proofs.Common.{vec_len}
use Rattle.cdc_run.proofs.settled_links.+settle_each.Given as goal

-- each call has a link less
abbrev pub decreases-settle_each : goal.decreases-settle_each
decreases-settle_each g l = vec_len l.ins
