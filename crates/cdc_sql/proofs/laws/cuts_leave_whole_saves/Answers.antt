use Rattle.cdc_sql.proofs.BodyLemmas.{bodies}
use Rattle.cdc_sql.proofs.CutLemmas.{cuts}
use Rattle.cdc_sql.proofs.laws.cuts_leave_whole_saves.Goals as goal

pub returns-clause-cuts : goal.returns-clause-cuts
returns-clause-cuts c = cuts

pub returns-clause-bodies : goal.returns-clause-bodies
returns-clause-bodies c = bodies
