use Rattle.cdc_follow.proofs.EntryWidths.{entries_fit}
use Rattle.cdc_follow.proofs.laws.read_entries_fit.Goals as goal

pub returns : goal.returns
returns c = entries_fit
