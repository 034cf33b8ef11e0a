use Rattle.cdc_diagnostics.proofs.Words.{append-nil, saved_text}
use Rattle.cdc_diagnostics.proofs.traces.saved_sentence.Goals as goal

-- nothing follows the last number
pub returns : goal.returns
returns c = rw (c.into.ensures, c.into-2.ensures) (append-nil (saved_text c.args.session c.args.timestamp))
