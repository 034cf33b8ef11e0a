use Rattle.std.proofs.Common.{◌∙◌}
use Rattle.cdc_audit.proofs.ApartLemmas.{has_time-searched}
use Rattle.cdc_audit.proofs.apart.has_time.Goals as goal

pub returns : goal.returns
returns c = λ ordered.
    c.is_ok.ensures.value ∙ has_time-searched c.args.times.now c.args.timestamp _
    c.binary_search.ensures.position ordered
