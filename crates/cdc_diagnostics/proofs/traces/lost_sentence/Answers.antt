use Rattle.cdc_diagnostics.proofs.Words.{append-nil, lost_text}
use Rattle.cdc_diagnostics.proofs.traces.lost_sentence.Goals as goal

-- nothing follows the last number
pub returns : goal.returns
returns c = rw c.from.ensures (append-nil (lost_text c.args.count c.args.acked))
