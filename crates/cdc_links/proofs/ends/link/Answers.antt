use Rattle.std.proofs.Common.{rules}
use Rattle.cdc_links.proofs.Stays.{fresh_more}
use Rattle.cdc_links.proofs.ends.link.Goals as goal

pub loop-into-preserved : goal.loop-into-preserved
loop-into-preserved g c = search (rules, fresh_more)
